use Rattle.std.proofs.Common.{arith}
use Rattle.nodes.proofs.Changes.{change_nothing, change_last, change_stop, change_on, change_below, change_after}
use Rattle.nodes.proofs.change.+change.Goals as goal

pub returns-then-upto-own-clause-changed : goal.returns-then-upto-own-clause-changed
returns-then-upto-own-clause-changed g t c = rw c.write_leaf-then-upto-own.ensures.root (change_stop g.Q.Summary.means _ _ (rw (c.in-Leaf-default-default-Some.is, rw c.in-Leaf-default-default-Some.is at c.in-Leaf-default-default-Some.after-is) at c.in-Some.ensures) c.min-own.ensures c.if-upto-own.true c.write_leaf-then-upto-own.ensures.made)

pub returns-then-upto-left-clause-changed : goal.returns-then-upto-left-clause-changed
returns-then-upto-left-clause-changed g t c = rw c.write_fork.ensures.root (change_below g.Q.Summary.means _ _ (rw c.in-Fork.is at c.in-Some.ensures) c.blocks_in-left.ensures c.if-upto-left.true c.change-part.ensures.free_only c.change-part.ensures.changed c.change-part.auto.nodes c.write_fork.ensures.made)

pub returns-in_default-clause-changed : goal.returns-in_default-clause-changed
returns-in_default-clause-changed g t c = change_nothing g.Q.Summary.means _ _ c.in_default.ensures

pub returns-in-Leaf-default-default-None-clause-changed : goal.returns-in-Leaf-default-default-None-clause-changed
returns-in-Leaf-default-default-None-clause-changed g t c = rw c.write_leaf.ensures.root (change_last g.Q.Summary.means _ _ (rw (c.in-Leaf-default-default-None.is, rw c.in-Leaf-default-default-None.is at c.in-Leaf-default-default-None.after-is) at c.in-Some.ensures) c.write_leaf.ensures.made)

pub returns-else-upto-own-clause-changed : goal.returns-else-upto-own-clause-changed
returns-else-upto-own-clause-changed g t c = rw c.write_leaf-in-Leaf-default-default-Some.ensures.root (change_on g.Q.Summary.means _ _ (rw (c.in-Leaf-default-default-Some.is, rw c.in-Leaf-default-default-Some.is at c.in-Leaf-default-default-Some.after-is) at c.in-Some.ensures) c.kept_block-kept.ensures c.min-own.ensures (omega arith) c.change-rest.ensures.changed c.change-rest.auto.nodes c.write_leaf-in-Leaf-default-default-Some.ensures.made)

pub returns-else-upto-left-clause-changed : goal.returns-else-upto-left-clause-changed
returns-else-upto-left-clause-changed g t c = rw c.write_fork-in-Fork.ensures.root (change_after g.Q.Summary.means _ _ (rw c.in-Fork.is at c.in-Some.ensures) c.blocks_in-left.ensures (omega arith) c.change-part-in-Fork.ensures.free_only c.change-part-in-Fork.ensures.changed c.change-part-in-Fork.auto.nodes c.write_fork-in-Fork.ensures.made)
