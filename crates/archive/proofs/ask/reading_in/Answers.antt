use Rattle.std.proofs.Common.{◌≡◌, Some, sym, ◌∙◌}
use Rattle.archive.specs.Looking.{in_use}
use Rattle.archive.proofs.Asks.{reading_past, reading_told}
use Rattle.archive.proofs.ask.reading_in.Goals as goal
use Rattle.archive.specs.Stands.{tables_of}

pub returns-then-from-position-clause-law : goal.returns-then-from-position-clause-law
returns-then-from-position-clause-law g c = λ es used st.
    let q : in_use c.args.versions.now c.args.count c.args.version ≡ Some c.in_ok-from.from = sym c.version_at.ensures ∙ c.in_ok-from.ensures.ok_part in
    reading_past g.Q.Summary.means g.S.BlockStore.rows _ c.args.store.now es st c.args.version c.in_ok-from.from q c.args.position c.if-from-position.true

pub returns-clause-law : goal.returns-clause-law
returns-clause-law g c = λ es used st.
    let q : in_use c.args.versions.now c.args.count c.args.version ≡ Some c.in_ok-from.from = sym c.version_at.ensures ∙ c.in_ok-from.ensures.ok_part in
    c.ok_or-2.ensures.value ∙ reading_told g.Q.Summary.means g.S.BlockStore.rows (tables_of c.args.nodes.now used c.args.versions.now c.args.count) c.args.store.now es st c.args.version c.in_ok-from.from q c.args.position c.if-from-position.false c.reading.result c.reading.ensures.read
