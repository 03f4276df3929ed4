use Rattle.std.proofs.Common.{min, ap, ◌∙◌}
use Rattle.questions.proofs.Sums.{summed_past, summed_upto}
use Rattle.questions.proofs.summary.Goals as goal

pub returns-then-end-a-clause-summed : goal.returns-then-end-a-clause-summed
returns-then-end-a-clause-summed g c =
    rw c.nothing.ensures (summed_past g.Q.Summary.means g.met.Q.Summary.lawful (g.S.BlockStore.rows c.args.store.now) c.args.nodes.now c.args.at c.args.a c.args.b c.min-end.result
    (c.min-end.ensures ∙ ap (min c.args.b) c.readings_in.ensures) c.if-end-a.true)

pub returns-clause-summed : goal.returns-clause-summed
returns-clause-summed g c =
    summed_upto g.Q.Summary.means g.met.Q.Summary.lawful (g.S.BlockStore.rows c.args.store.now) c.args.nodes.now c.args.at c.args.a c.args.b c.min-end.result
    (c.min-end.ensures ∙ ap (min c.args.b) c.readings_in.ensures) _ c.if-end-a.false c.sum_walk.ensures
