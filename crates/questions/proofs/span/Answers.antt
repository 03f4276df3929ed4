use Rattle.std.proofs.Common.{inl, inr}
use Rattle.questions.proofs.Copies.{spanned, spanned_not}
use Rattle.questions.proofs.span.Goals as goal
use Rattle.questions.proofs.span.Goals.{then-b-a-via-then-b-a, then-b-a-via-else-b-a+then-readings_in-b, then-b-a-via-else-b-a+else-readings_in-b+then-out-n}

pub returns-then-b-a-clause-spanned : goal.returns-then-b-a-clause-spanned
returns-then-b-a-clause-spanned g c =
    let size = c.saturating_sub-n.ensures in
    spanned_not g.Q.Summary.means (g.S.BlockStore.rows c.args.store.now) c.args.nodes.now c.args.at c.args.a c.args.b c.args.out.now
    (elim c.then-b-a.branch [
      | then-b-a-via-then-b-a w ↦ inl w.if-b-a.true
      | then-b-a-via-else-b-a+then-readings_in-b w ↦ inr (inl (rw (← w.readings_in.ensures) w.if-readings_in-b.true))
      | then-b-a-via-else-b-a+else-readings_in-b+then-out-n w ↦ inr (inr (rw (← size) w.if-out-n.true))
    ])

pub returns-clause-spanned : goal.returns-clause-spanned
returns-clause-spanned g c =
    spanned g.Q.Summary.means (g.S.BlockStore.rows c.args.store.now) c.args.nodes.now c.args.at c.args.a c.args.b c.args.out.now
    c.saturating_sub-n.result c.span_walk.new.out c.saturating_sub-n.ensures c.if-b-a.false (rw (← c.readings_in.ensures) c.if-readings_in-b.false) c.if-out-n.false c.span_walk.ensures
