use Rattle.std.proofs.Common.{arith}
use Rattle.nodes.proofs.Removals.{remove_nothing, remove_last, remove_here, remove_on, remove_below, remove_between, remove_after}
use Rattle.nodes.proofs.remove.+remove.Goals as goal

pub returns-in_default-clause-removed : goal.returns-in_default-clause-removed
returns-in_default-clause-removed g t c = remove_nothing g.Q.Summary.means _ _ c.in_default.ensures

pub returns-in-Leaf-default-default-None-clause-removed : goal.returns-in-Leaf-default-default-None-clause-removed
returns-in-Leaf-default-default-None-clause-removed g t c = remove_last g.Q.Summary.means _ _ (rw (c.in-Leaf-default-default-None.is, rw c.in-Leaf-default-default-None.is at c.in-Leaf-default-default-None.after-is) at c.in-Some.ensures)

pub returns-then-upto-own-clause-removed : goal.returns-then-upto-own-clause-removed
returns-then-upto-own-clause-removed g t c = remove_here g.Q.Summary.means _ _ (rw (c.in-Leaf-default-default-Some.is, rw c.in-Leaf-default-default-Some.is at c.in-Leaf-default-default-Some.after-is) at c.in-Some.ensures) c.kept_block-kept.ensures c.min-own.ensures (omega arith) c.lead_by.ensures.led

pub returns-else-upto-own-clause-removed : goal.returns-else-upto-own-clause-removed
returns-else-upto-own-clause-removed g t c = rw c.write_leaf.ensures.root (remove_on g.Q.Summary.means _ _ (rw (c.in-Leaf-default-default-Some.is, rw c.in-Leaf-default-default-Some.is at c.in-Leaf-default-default-Some.after-is) at c.in-Some.ensures) c.kept_block-kept.ensures c.min-own.ensures (omega arith) c.remove-rest.ensures.removed c.remove-rest.auto.nodes c.write_leaf.ensures.made)

pub returns-then-upto-count-clause-removed : goal.returns-then-upto-count-clause-removed
returns-then-upto-count-clause-removed g t c = rw c.write_fork.ensures.root (remove_below g.Q.Summary.means _ _ (rw c.in-Fork.is at c.in-Some.ensures) c.blocks_in-count.ensures c.if-upto-count.true c.remove-part.ensures.free_only c.remove-part.ensures.removed c.remove-part.auto.nodes c.write_fork.ensures.made)

pub returns-then-upto-count-eq1-clause-removed : goal.returns-then-upto-count-eq1-clause-removed
returns-then-upto-count-eq1-clause-removed g t c = remove_between g.Q.Summary.means _ _ (rw c.in-Fork.is at c.in-Some.ensures) c.blocks_in-count.ensures (omega arith) (omega arith) c.merge.ensures.merged

pub returns-else-upto-count-eq1-clause-removed : goal.returns-else-upto-count-eq1-clause-removed
returns-else-upto-count-eq1-clause-removed g t c = rw c.write_fork-in-Fork.ensures.root (remove_after g.Q.Summary.means _ _ (rw c.in-Fork.is at c.in-Some.ensures) c.blocks_in-count.ensures (omega arith) (λ e. omega arith) c.remove-part-in-Fork.ensures.free_only c.remove-part-in-Fork.ensures.removed c.remove-part-in-Fork.auto.nodes c.write_fork-in-Fork.ensures.made)
