use Rattle.std.proofs.Common.{refl, ◌∙◌, arith, length-take}
use Rattle.runs.proofs.Lists.{none_carried, next_carried, all_carried}
use Rattle.runs.proofs.running.carry_on.Goals as goal

pub loop-i-init : goal.loop-i-init
loop-i-init g c = record { carried = none_carried g.Q.Summary.means g.S.BlockStore _ _ _; same_slice = refl }

pub loop-i-preserved : goal.loop-i-preserved
loop-i-preserved g c =
    let n = c.min-count.ensures in
    let l = length-take c.min-count.result c.args.replies.now in
    record {
      carried = next_carried g.Q.Summary.means g.S.BlockStore c.args.readings.now c.args.calls.now c.loop-i.reply-items _ _ _ _ _ _ c.loop-i.i _ c.carry_one.result
          c.loop-i.invariant.carried c.carry_one.ensures.carried (omega arith) (omega arith);
      same_slice = c.carry_one.ensures.same_slice ∙ c.loop-i.invariant.same_slice;
    }

pub returns-clause-carried : goal.returns-clause-carried
returns-clause-carried g c =
    let n = c.min-count.ensures in
    let l = length-take c.min-count.result c.args.replies.now in
    let bound = c.loop-i.auto.i-end in
    all_carried g.Q.Summary.means g.S.BlockStore c.args.readings.now c.args.calls.now c.loop-i.reply-items _ _ _ _ _ c.loop-i.i c.min-count.result c.loop-i.invariant.carried (omega arith) (omega arith)
