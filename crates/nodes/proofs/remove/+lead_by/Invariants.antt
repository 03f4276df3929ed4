use Rattle.nodes.proofs.remove.+lead_by.Given as goal

abbrev pub decreases-lead_by : goal.decreases-lead_by
decreases-lead_by g l = l.at
