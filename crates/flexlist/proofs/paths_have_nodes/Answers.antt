use Rattle.flexlist.proofs.Paths.{paths_have_nodes}
use Rattle.flexlist.proofs.paths_have_nodes.Goals as goal

pub returns : goal.returns
returns c = paths_have_nodes
