use Rattle.nodes.proofs.change.+change.Given as goal

abbrev pub decreases-change : goal.decreases-change
decreases-change g l = l.at
