use Rattle.std.proofs.Common.{take, subst, ◌∙◌, sym, arith, take_all, add-one}
use Rattle.archive.specs.Calling.{archive_of}
use Rattle.runs.specs.Lists.{CarriedOn}
use Rattle.report_text.specs.Report.{peaks}
use Rattle.bench_calls.specs.Timed.{Rounds}
use Rattle.bench_calls.proofs.rounds.carry_rounds.Goals as goal

pub loop-preserved : goal.loop-preserved
loop-preserved g c =
    let s = archive_of c.args.table.now c.args.versions.now c.args.store.now in
    let from = archive_of c.loop.table c.loop.versions c.loop.store in
    let t = archive_of c.carry_on.new.table c.carry_on.new.versions c.carry_on.new.store in
    let xs = c.args.readings.now in
    let n = c.carry_on.result in
    let replies = c.carry_on.new.replies in
    let known = c.loop.invariant.long in
    let long = c.carry_on.auto.replies in
    let done = c.carry_on.ensures.done in
    let first = subst (λ cs. CarriedOn peaks g.S.BlockStore xs cs (take n replies) from c.loop.out t c.carry_on.new.out) (take_all n c.args.calls.now (omega arith)) c.carry_on.ensures.carried in
    record {
      told = subst (λ k. Rounds g.S.BlockStore xs c.args.calls.now s c.args.out.now k c.replies_mixed-sum.result t c.carry_on.new.out) (sym (add-one c.loop.counter))
          (record {
            sum_before = c.loop.sum;
            from = from;
            out = c.loop.out;
            earlier = c.loop.invariant.told;
            replies = replies;
            carried = subst (λ rs. CarriedOn peaks g.S.BlockStore xs c.args.calls.now rs from c.loop.out t c.carry_on.new.out) (take_all n replies (omega arith)) first;
            mixes = c.replies_mixed-sum.ensures;
          });
      long = long ∙ known;
      same_slice = c.carry_on.ensures.same_slice ∙ c.loop.invariant.same_slice;
    }
