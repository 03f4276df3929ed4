use Rattle.journal.proofs.LoadBegun.{loaded_from}
use Rattle.journal.proofs.loading.load.Goals as goal

pub returns-clause-loaded : goal.returns-clause-loaded
returns-clause-loaded g c =
    loaded_from g.Q.Summary.means g.met.Q.Summary.lawful g.S.BlockStore _ c.args.nodes.now _ c.args.versions.now _ (record { used = c.begin-table.result.used; count = c.begin-table.result.count })
    c.args.store.now c.args.area.now c.take_in_all-answer.new.area c.args.bytes.now c.take_in_all-answer.result _ c.begin-table.ensures.begun c.take_in_all-answer.ensures.law
