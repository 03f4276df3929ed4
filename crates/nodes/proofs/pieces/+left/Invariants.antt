use Rattle.nodes.proofs.pieces.+left.Given as goal

abbrev pub decreases-left : goal.decreases-left
decreases-left g l = l.at
