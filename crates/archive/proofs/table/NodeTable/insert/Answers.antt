use Rattle.std.proofs.Common.{refl, ap}
use Rattle.archive.proofs.Calls.{same_archive, insert_ok}
use Rattle.archive.proofs.table.NodeTable.insert.Goals as goal

pub returns-clause-kept : goal.returns-clause-kept
returns-clause-kept g c =
    let same = same_archive c.take_in.new.self.nodes.now c.insert_in.new.nodes c.take_in.new.self.used c.in_ok-built.built.used c.insert_in.new.versions c.insert_in.new.versions c.take_in.new.self.count _ c.insert_in.new.store c.insert_in.new.store (ap (λ x. x.now) c.take_in.ensures.nodes) c.take_in.ensures.used refl c.take_in.ensures.count refl in
    rw (c.take_in.ensures.answer, same) c.in_ok-built.ensures.left

pub returns-clause-law : goal.returns-clause-law
returns-clause-law g c =
    let same = same_archive c.take_in.new.self.nodes.now c.insert_in.new.nodes c.take_in.new.self.used c.in_ok-built.built.used c.insert_in.new.versions c.insert_in.new.versions c.take_in.new.self.count _ c.insert_in.new.store c.insert_in.new.store (ap (λ x. x.now) c.take_in.ensures.nodes) c.take_in.ensures.used refl c.take_in.ensures.count refl in
    rw (c.take_in.ensures.answer, same) (insert_ok g.Q.Summary.means g.met.Q.Summary.lawful g.S.BlockStore _ _ _ _ c.in_ok-built.built c.args.base c.args.place c.args.level c.args.row.now c.in_ok-built.ensures.left c.in_ok-built.ensures.law c.if-count-base.false)
