use Rattle.std.proofs.Common.{sym, arith}
use Rattle.std.proofs.lemmas.Bool.{eqb-true, eqb-false}
use Rattle.nodes.proofs.Cuts.{left_end, left_nothing, left_last, left_stop, left_on, left_below, left_after}
use Rattle.nodes.proofs.pieces.+left.Goals as goal

pub returns-then-ends_at_cut-clause-made : goal.returns-then-ends_at_cut-clause-made
returns-then-ends_at_cut-clause-made g t c = left_end g.Q.Summary.means _ _ c.blocks_in.ensures (eqb-true _ _ (sym c.if-ends_at_cut.ensures))

pub returns-then-upto-own-clause-made : goal.returns-then-upto-own-clause-made
returns-then-upto-own-clause-made g t c = rw c.write_leaf.ensures.root (left_stop g.Q.Summary.means _ _ (rw (c.in-Leaf-default-default-Some.is, rw c.in-Leaf-default-default-Some.is at c.in-Leaf-default-default-Some.after-is) at c.in-Some.ensures) c.kept_block-kept.ensures c.min-own.ensures c.if-upto-own.true c.write_leaf.ensures.made)

pub returns-then-upto-count-clause-made : goal.returns-then-upto-count-clause-made
returns-then-upto-count-clause-made g t c = left_below g.Q.Summary.means _ _ (rw c.in-Fork.is at c.in-Some.ensures) c.blocks_in-count.ensures c.if-upto-count.true c.left.ensures.made

pub returns-in_default-clause-made : goal.returns-in_default-clause-made
returns-in_default-clause-made g t c = left_nothing g.Q.Summary.means _ _ c.in_default.ensures

pub returns-in-Leaf-default-default-None-clause-made : goal.returns-in-Leaf-default-default-None-clause-made
returns-in-Leaf-default-default-None-clause-made g t c = left_last g.Q.Summary.means _ _ (rw (c.in-Leaf-default-default-None.is, rw c.in-Leaf-default-default-None.is at c.in-Leaf-default-default-None.after-is) at c.in-Some.ensures)

pub returns-else-upto-own-clause-made : goal.returns-else-upto-own-clause-made
returns-else-upto-own-clause-made g t c = rw c.write_leaf-in-Leaf-default-default-Some.ensures.root (left_on g.Q.Summary.means _ _ c.blocks_in.ensures (eqb-false _ _ (sym c.if-ends_at_cut.ensures)) (rw (c.in-Leaf-default-default-Some.is, rw c.in-Leaf-default-default-Some.is at c.in-Leaf-default-default-Some.after-is) at c.in-Some.ensures) c.kept_block-kept.ensures c.min-own.ensures (omega arith) c.left-rest.ensures.made c.left-rest.auto.nodes c.write_leaf-in-Leaf-default-default-Some.ensures.made)

pub returns-else-upto-count-clause-made : goal.returns-else-upto-count-clause-made
returns-else-upto-count-clause-made g t c = rw c.write_fork.ensures.root (left_after g.Q.Summary.means _ _ c.blocks_in.ensures (eqb-false _ _ (sym c.if-ends_at_cut.ensures)) (rw c.in-Fork.is at c.in-Some.ensures) c.blocks_in-count.ensures (omega arith) c.left-part.ensures.free_only c.left-part.ensures.made c.left-part.auto.nodes c.write_fork.ensures.made)
