use Rattle.std.proofs.Common.{sym, arith}
use Rattle.std.proofs.lemmas.Bool.{leb-true, leb-false, ltb-true, ltb-false}
use Rattle.nodes.proofs.Inserts.{insert_nothing, insert_cut_leaf, insert_cut_below, insert_cut_after, insert_last, insert_stop, insert_on, insert_below, insert_after}
use Rattle.nodes.proofs.insert.+insert.Goals as goal

pub returns-then-upto-own-clause-inserted : goal.returns-then-upto-own-clause-inserted
returns-then-upto-own-clause-inserted g t c = rw c.write_leaf-then-upto-own.ensures.root (insert_stop g.Q.Summary.means _ _ _ (rw (c.in-Leaf-default-default-Some.is, rw c.in-Leaf-default-default-Some.is at c.in-Leaf-default-default-Some.after-is) at c.in-Some.ensures) c.kept_block-kept-in-Leaf-default-default-Some.ensures c.min-own.ensures c.if-upto-own.true (omega arith) c.write_leaf-leaf-then-upto-own.ensures.made c.write_leaf-leaf-then-upto-own.auto.nodes (rw c.write_leaf-leaf-then-upto-own.ensures.root at c.write_leaf-then-upto-own.ensures.made))

pub returns-then-cuts_before-clause-inserted : goal.returns-then-cuts_before-clause-inserted
returns-then-cuts_before-clause-inserted g t c = insert_cut_below g.Q.Summary.means _ _ _ (rw c.in-Fork.is at c.in-Some.ensures) c.blocks_in-count.ensures c.if-upto-count.true (leb-true _ _ (sym c.if-cuts_before.ensures)) c.cut-then-cuts_before.ensures.made

pub returns-then-upto-count-clause-inserted : goal.returns-then-upto-count-clause-inserted
returns-then-upto-count-clause-inserted g t c = rw c.write_fork.ensures.root (insert_below g.Q.Summary.means _ _ _ (rw c.in-Fork.is at c.in-Some.ensures) c.blocks_in-count.ensures c.if-upto-count.true (leb-false _ _ (sym c.if-cuts_before.ensures)) c.insert-part.ensures.free_only c.insert-part.ensures.inserted c.insert-part.auto.nodes c.write_fork.ensures.made)

pub returns-then-cuts_after-clause-inserted : goal.returns-then-cuts_after-clause-inserted
returns-then-cuts_after-clause-inserted g t c = insert_cut_after g.Q.Summary.means _ _ _ (rw c.in-Fork.is at c.in-Some.ensures) c.blocks_in-count.ensures (omega arith) (ltb-true _ _ (sym c.if-cuts_after.ensures)) c.cut-then-cuts_after.ensures.made

pub returns-in_default-clause-inserted : goal.returns-in_default-clause-inserted
returns-in_default-clause-inserted g t c = insert_nothing g.Q.Summary.means _ _ _ c.in_default.ensures

pub returns-in-Leaf-clause-inserted : goal.returns-in-Leaf-clause-inserted
returns-in-Leaf-clause-inserted g t c = insert_cut_leaf g.Q.Summary.means _ _ _ _ (rw c.in-Leaf.is at c.in-Some.ensures) c.if-level-gt0.true c.cut.ensures.made

pub returns-in-Leaf-default-default-None-clause-inserted : goal.returns-in-Leaf-default-default-None-clause-inserted
returns-in-Leaf-default-default-None-clause-inserted g t c = rw c.write_leaf.ensures.root (insert_last g.Q.Summary.means _ _ _ (rw (c.in-Leaf-default-default-None.is, rw c.in-Leaf-default-default-None.is at c.in-Leaf-default-default-None.after-is) at c.in-Some.ensures) c.kept_block-kept.ensures (omega arith) c.write_leaf-leaf.ensures.made c.write_leaf-leaf.auto.nodes (rw c.write_leaf-leaf.ensures.root at c.write_leaf.ensures.made))

pub returns-else-upto-own-clause-inserted : goal.returns-else-upto-own-clause-inserted
returns-else-upto-own-clause-inserted g t c = rw c.write_leaf-in-Leaf-default-default-Some.ensures.root (insert_on g.Q.Summary.means _ _ _ (rw (c.in-Leaf-default-default-Some.is, rw c.in-Leaf-default-default-Some.is at c.in-Leaf-default-default-Some.after-is) at c.in-Some.ensures) c.kept_block-kept-in-Leaf-default-default-Some.ensures c.min-own.ensures (omega arith) (omega arith) c.insert-rest.ensures.inserted c.insert-rest.auto.nodes c.write_leaf-in-Leaf-default-default-Some.ensures.made)

pub returns-else-cuts_after-clause-inserted : goal.returns-else-cuts_after-clause-inserted
returns-else-cuts_after-clause-inserted g t c = rw c.write_fork-in-Fork.ensures.root (insert_after g.Q.Summary.means _ _ _ (rw c.in-Fork.is at c.in-Some.ensures) c.blocks_in-count.ensures (omega arith) (ltb-false _ _ (sym c.if-cuts_after.ensures)) c.insert-part-in-Fork.ensures.free_only c.insert-part-in-Fork.ensures.inserted c.insert-part-in-Fork.auto.nodes c.write_fork-in-Fork.ensures.made)
