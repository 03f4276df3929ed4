use Rattle.archive.proofs.Calls.{span_asked}
use Rattle.archive.proofs.table.NodeTable.span.Goals as goal

pub returns-clause-law : goal.returns-clause-law
returns-clause-law g c =
    span_asked g.Q.Summary.means g.S.BlockStore _ _ c.lent.ensures _ _ _ _ c.args.version c.args.a c.args.b _ _ _ c.span_in.ensures.none c.span_in.ensures.left c.span_in.ensures.law
