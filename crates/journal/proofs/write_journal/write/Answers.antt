use Rattle.std.proofs.Common.{ap, ◌∙◌, subst}
use Rattle.archive.specs.Calling.{archive_of}
use Rattle.journal.specs.Writing.{Writes}
use Rattle.journal.specs.Format.{coding}
use Rattle.journal.specs.Written.{tables_bytes}
use Rattle.journal.proofs.Written.{journal_written}
use Rattle.journal.proofs.write_journal.write.Goals as goal

pub returns-clause-law : goal.returns-clause-law
returns-clause-law g c = λ small h st.
    let k = coding g.S.Reading.Reading in
    let versions = c.args.versions.now in
    subst (λ journal. Writes journal c.args.out.now c.write_tables.result c.write_tables.new.out)
    (ap (tables_bytes k (g.S.BlockStore.rows c.args.store.now) versions) c.count.ensures ∙ journal_written g.Q.Summary.means g.S.BlockStore k small h (archive_of c.args.table.now versions c.args.store.now) st)
    c.write_tables.ensures
