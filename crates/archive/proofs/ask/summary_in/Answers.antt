use Rattle.std.proofs.Common.{◌≡◌, None, Some, sym, ◌∙◌}
use Rattle.archive.specs.declared.fault.ReadFault.TheVariants as unread
use Rattle.archive.specs.Looking.{in_use}
use Rattle.archive.proofs.Stretches.{stretch_outside, summary_refused, summary_there}
use Rattle.archive.proofs.ask.summary_in.Goals as goal

pub returns-then-outside-clause-law : goal.returns-then-outside-clause-law
returns-then-outside-clause-law g c = λ es used st.
    let q : in_use c.args.versions.now c.args.count c.args.version ≡ Some c.in_ok-from.from = sym c.version_at.ensures ∙ c.in_ok-from.ensures.ok_part in
    summary_refused g.Q.Summary.means es c.args.version c.args.a c.args.b unread.Position
    (stretch_outside g.Q.Summary.means g.S.BlockStore.rows _ c.args.store.now es st c.args.version c.args.a c.args.b c.in_ok-from.from q None (sym c.if-outside.ensures))

pub returns-clause-law : goal.returns-clause-law
returns-clause-law g c = λ es used st.
    let q : in_use c.args.versions.now c.args.count c.args.version ≡ Some c.in_ok-from.from = sym c.version_at.ensures ∙ c.in_ok-from.ensures.ok_part in
    summary_there g.Q.Summary.means g.S.BlockStore.rows _ c.args.store.now es st c.args.version c.args.a c.args.b c.in_ok-from.from q c.summary.result (sym c.if-outside.ensures) c.summary.ensures.summed
