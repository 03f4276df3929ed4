use Rattle.nodes.proofs.Cuts.{cut_pieces}
use Rattle.nodes.proofs.insert.cut.Goals as goal

pub returns-clause-made : goal.returns-clause-made
returns-clause-made g c = rw c.write_fork.ensures.root (cut_pieces g.Q.Summary.means _ _ c.left-first.ensures.free_only c.left-first.ensures.made c.left-first.auto.nodes c.right-second.ensures.free_only c.right-second.ensures.made c.right-second.auto.nodes c.write_fork.ensures.made)
