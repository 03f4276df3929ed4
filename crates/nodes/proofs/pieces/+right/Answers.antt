use Rattle.std.proofs.Common.{arith}
use Rattle.nodes.proofs.Cuts.{right_nothing, right_last, right_stop, right_on, right_below, right_after}
use Rattle.nodes.proofs.pieces.+right.Goals as goal

pub returns-then-upto-own-clause-made : goal.returns-then-upto-own-clause-made
returns-then-upto-own-clause-made g t c = rw c.write_leaf-then-upto-own.ensures.root (right_stop g.Q.Summary.means _ _ (rw (c.in-Leaf-default-default-Some.is, rw c.in-Leaf-default-default-Some.is at c.in-Leaf-default-default-Some.after-is) at c.in-Some.ensures) c.min-own.ensures c.if-upto-own.true c.write_leaf-then-upto-own.ensures.made)

pub returns-then-upto-count-clause-made : goal.returns-then-upto-count-clause-made
returns-then-upto-count-clause-made g t c = rw c.write_fork.ensures.root (right_below g.Q.Summary.means _ _ (rw c.in-Fork.is at c.in-Some.ensures) c.blocks_in-count.ensures c.if-upto-count.true c.right-part.ensures.free_only c.right-part.ensures.made c.right-part.auto.nodes c.write_fork.ensures.made)

pub returns-in_default-clause-made : goal.returns-in_default-clause-made
returns-in_default-clause-made g t c = right_nothing g.Q.Summary.means _ _ c.in_default.ensures

pub returns-in-Leaf-default-default-None-clause-made : goal.returns-in-Leaf-default-default-None-clause-made
returns-in-Leaf-default-default-None-clause-made g t c = rw c.write_leaf.ensures.root (right_last g.Q.Summary.means _ _ (rw (c.in-Leaf-default-default-None.is, rw c.in-Leaf-default-default-None.is at c.in-Leaf-default-default-None.after-is) at c.in-Some.ensures) c.write_leaf.ensures.made)

pub returns-else-upto-own-clause-made : goal.returns-else-upto-own-clause-made
returns-else-upto-own-clause-made g t c = right_on g.Q.Summary.means _ _ (rw (c.in-Leaf-default-default-Some.is, rw c.in-Leaf-default-default-Some.is at c.in-Leaf-default-default-Some.after-is) at c.in-Some.ensures) c.min-own.ensures (omega arith) c.right.ensures.made

pub returns-else-upto-count-clause-made : goal.returns-else-upto-count-clause-made
returns-else-upto-count-clause-made g t c = right_after g.Q.Summary.means _ _ (rw c.in-Fork.is at c.in-Some.ensures) c.blocks_in-count.ensures (omega arith) c.right-in-Fork.ensures.made
