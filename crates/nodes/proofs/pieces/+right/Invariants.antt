use Rattle.nodes.proofs.pieces.+right.Given as goal

abbrev pub decreases-right : goal.decreases-right
decreases-right g l = l.at
