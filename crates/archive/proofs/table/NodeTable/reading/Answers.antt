use Rattle.archive.proofs.Calls.{reading_asked}
use Rattle.archive.proofs.table.NodeTable.reading.Goals as goal

pub returns-clause-law : goal.returns-clause-law
returns-clause-law g c = reading_asked g.Q.Summary.means g.S.BlockStore _ _ c.lent.ensures _ _ _ _ c.args.version c.args.position _ c.reading_in.ensures.none c.reading_in.ensures.law
