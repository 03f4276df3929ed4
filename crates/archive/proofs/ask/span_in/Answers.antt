use Rattle.std.proofs.Common.{◌≡◌, ◌-◌, cond, drop, drop_at, length-take-le, ltb, length, take, Some, None, sym, refl, ◌∙◌}
use Rattle.archive.specs.declared.fault.ReadFault.TheVariants as unread
use Rattle.archive.specs.Looking.{in_use}
use Rattle.archive.proofs.Stretches.{stretch_outside, span_refused, span_short, span_there}
use Rattle.archive.proofs.ask.span_in.Goals as goal
use Rattle.archive.specs.Stands.{tables_of}

pub returns-then-outside-clause-law : goal.returns-then-outside-clause-law
returns-then-outside-clause-law g c = λ es used st.
    let q : in_use c.args.versions.now c.args.count c.args.version ≡ Some c.in_ok-from.from = sym c.version_at.ensures ∙ c.in_ok-from.ensures.ok_part in
    span_refused es c.args.version c.args.a c.args.b c.args.out.now unread.Position
    (stretch_outside g.Q.Summary.means g.S.BlockStore.rows _ c.args.store.now es st c.args.version c.args.a c.args.b c.in_ok-from.from q
    (cond (ltb (length c.args.out.now) (c.args.b - c.args.a)) (Some unread.Output) None) (sym c.if-outside.ensures))

pub returns-then-out-n-clause-law : goal.returns-then-out-n-clause-law
returns-then-out-n-clause-law g c = λ es used st.
    let q : in_use c.args.versions.now c.args.count c.args.version ≡ Some c.in_ok-from.from = sym c.version_at.ensures ∙ c.in_ok-from.ensures.ok_part in
    span_refused es c.args.version c.args.a c.args.b c.args.out.now unread.Output
    (span_short g.Q.Summary.means g.S.BlockStore.rows _ c.args.store.now es st c.args.version c.args.a c.args.b c.in_ok-from.from q (length c.args.out.now) (sym c.if-outside.ensures) c.if-out-n.true)

pub returns-clause-left : goal.returns-clause-left
returns-clause-left g c =
    let n = c.args.b - c.args.a in
    (refl, c.if-out-n.false, drop_at c.span.new.out (drop n c.args.out.now) n (c.span.auto.out ∙ length-take-le n c.args.out.now c.if-out-n.false))

pub returns-clause-law : goal.returns-clause-law
returns-clause-law g c = λ es used st.
    let n = c.args.b - c.args.a in
    let q : in_use c.args.versions.now c.args.count c.args.version ≡ Some c.in_ok-from.from = sym c.version_at.ensures ∙ c.in_ok-from.ensures.ok_part in
    span_there g.Q.Summary.means g.S.BlockStore.rows (tables_of c.args.nodes.now used c.args.versions.now c.args.count) c.args.store.now es st c.args.version c.args.a c.args.b c.in_ok-from.from q
    (take n c.args.out.now) c.span.new.out c.args.out.now (sym c.if-outside.ensures) c.if-out-n.false (length-take-le n c.args.out.now c.if-out-n.false) c.span.ensures.spanned
