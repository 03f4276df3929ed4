use Rattle.std.proofs.Common.{◌+◌}
use Rattle.nodes.proofs.remove.+merge.Given as goal

abbrev pub decreases-merge : goal.decreases-merge
decreases-merge g l = l.first + l.second
