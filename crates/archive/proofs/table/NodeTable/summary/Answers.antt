use Rattle.archive.proofs.Calls.{summary_asked}
use Rattle.archive.proofs.table.NodeTable.summary.Goals as goal

pub returns-clause-law : goal.returns-clause-law
returns-clause-law g c = summary_asked g.Q.Summary.means g.S.BlockStore _ _ c.lent.ensures _ _ _ _ c.args.version c.args.a c.args.b _ c.summary_in.ensures.none c.summary_in.ensures.law
