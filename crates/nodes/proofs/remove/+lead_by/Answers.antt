use Rattle.nodes.proofs.Leads.{lead_nothing, lead_leaf, lead_fork}
use Rattle.nodes.proofs.remove.+lead_by.Goals as goal

pub returns-in_default-clause-led : goal.returns-in_default-clause-led
returns-in_default-clause-led g t c = lead_nothing g.Q.Summary.means _ c.in_default.ensures

pub returns-in-Leaf-clause-led : goal.returns-in-Leaf-clause-led
returns-in-Leaf-clause-led g t c = rw c.write_leaf.ensures.root (lead_leaf g.Q.Summary.means _ _ (rw c.in-Leaf.is at c.in-Some.ensures) c.write_leaf.ensures.made)

pub returns-in-Fork-clause-led : goal.returns-in-Fork-clause-led
returns-in-Fork-clause-led g t c = rw c.write_fork.ensures.root (lead_fork g.Q.Summary.means _ (rw c.in-Fork.is at c.in-Some.ensures) c.lead_by-part.ensures.free_only c.lead_by-part.ensures.led c.lead_by-part.auto.nodes c.write_fork.ensures.made)
