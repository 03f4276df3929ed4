use Rattle.std.proofs.Common.{◌≡◌, Some, sym, ◌∙◌}
use Rattle.archive.specs.Calling.{archive_of}
use Rattle.archive.specs.Looking.{in_use}
use Rattle.archive.proofs.Calls.{append_kept, append_law}
use Rattle.archive.proofs.table.NodeTable.append.Goals as goal

pub returns-clause-kept : goal.returns-clause-kept
returns-clause-kept g c =
    let q : in_use c.args.versions.now c.args.self.now.count c.args.base ≡ Some c.in_ok-from.from = sym c.version_at.ensures ∙ c.in_ok-from.ensures.ok_part in
    append_kept g.Q.Summary.means g.S.BlockStore (archive_of c.args.self.now c.args.versions.now c.args.store.now) _ c.args.base c.args.row.now c.in_ok-from.from q c.insert.result c.insert.ensures.kept

pub returns-clause-law : goal.returns-clause-law
returns-clause-law g c =
    let q : in_use c.args.versions.now c.args.self.now.count c.args.base ≡ Some c.in_ok-from.from = sym c.version_at.ensures ∙ c.in_ok-from.ensures.ok_part in
    append_law g.Q.Summary.means g.S.BlockStore (archive_of c.args.self.now c.args.versions.now c.args.store.now) _ c.args.base c.args.row.now c.in_ok-from.from q c.insert.result c.insert.ensures.law
