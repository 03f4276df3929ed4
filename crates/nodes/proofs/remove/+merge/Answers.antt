use Rattle.std.proofs.Common.{sym}
use Rattle.std.proofs.lemmas.Bool.{ltb-true, ltb-false}
use Rattle.nodes.proofs.Joins.{merge_nothing, merge_none, merge_kept, merge_last, merge_leaf, merge_fork, merge_past, merge_under, no_level, level_below}
use Rattle.nodes.proofs.remove.+merge.Goals as goal

pub returns-in_default-clause-merged : goal.returns-in_default-clause-merged
returns-in_default-clause-merged g t c = merge_none g.Q.Summary.means _ c.in_default.ensures

pub returns-in_default-view-clause-merged : goal.returns-in_default-view-clause-merged
returns-in_default-view-clause-merged g t c = merge_nothing g.Q.Summary.means _ c.in_default-view.ensures

pub returns-in-Leaf-default-default-None-clause-merged : goal.returns-in-Leaf-default-default-None-clause-merged
returns-in-Leaf-default-default-None-clause-merged g t c = merge_kept g.Q.Summary.means _ (rw (c.in-Leaf-default-default-None.is, rw c.in-Leaf-default-default-None.is at c.in-Leaf-default-default-None.after-is) at c.in-Some-view.ensures)

pub returns-in-Leaf-default-default-None-one-clause-merged : goal.returns-in-Leaf-default-default-None-one-clause-merged
returns-in-Leaf-default-default-None-one-clause-merged g t c = rw c.write_leaf.ensures.root (merge_last g.Q.Summary.means _ (rw (c.in-Leaf-default-default-Some.is, rw c.in-Leaf-default-default-Some.is at c.in-Leaf-default-default-Some.after-is) at c.in-Some-view.ensures) (rw (c.in-Leaf-default-default-None-one.is, rw c.in-Leaf-default-default-None-one.is at c.in-Leaf-default-default-None-one.after-is) at c.in-Some.ensures) c.kept_block-kept.ensures c.write_leaf.ensures.made)

pub returns-in-Leaf-default-default-Some-one-clause-merged : goal.returns-in-Leaf-default-default-Some-one-clause-merged
returns-in-Leaf-default-default-Some-one-clause-merged g t c = rw c.write_leaf-in-Leaf-default-default-Some-one.ensures.root (merge_leaf g.Q.Summary.means _ (rw (c.in-Leaf-default-default-Some.is, rw c.in-Leaf-default-default-Some.is at c.in-Leaf-default-default-Some.after-is) at c.in-Some-view.ensures) (rw (c.in-Leaf-default-default-Some-one.is, rw c.in-Leaf-default-default-Some-one.is at c.in-Leaf-default-default-Some-one.after-is) at c.in-Some.ensures) c.kept_block-kept-in-Leaf-default-default-Some-one.ensures c.merge-part.ensures.merged c.merge-part.auto.nodes c.write_leaf-in-Leaf-default-default-Some-one.ensures.made)

pub returns-in-Fork-one-clause-merged : goal.returns-in-Fork-one-clause-merged
returns-in-Fork-one-clause-merged g t c = rw c.write_fork.ensures.root (merge_fork g.Q.Summary.means _ (rw (c.in-Leaf-default-default-Some.is, rw c.in-Leaf-default-default-Some.is at c.in-Leaf-default-default-Some.after-is) at c.in-Some-view.ensures) (rw c.in-Fork-one.is at c.in-Some.ensures) c.merge-part-in-Fork-one.ensures.free_only c.merge-part-in-Fork-one.ensures.merged c.merge-part-in-Fork-one.auto.nodes c.write_fork.ensures.made)

pub returns-in-Leaf-clause-merged : goal.returns-in-Leaf-clause-merged
returns-in-Leaf-clause-merged g t c = rw c.write_fork-in-Leaf.ensures.root (merge_under g.Q.Summary.means _ (rw c.in-Fork.is at c.in-Some-view.ensures) (λ m i o see. no_level (rw c.in-Leaf.is at c.in-Some.ensures) see) c.merge-part-in-Leaf.ensures.free_only c.merge-part-in-Leaf.ensures.merged c.merge-part-in-Leaf.auto.nodes c.write_fork-in-Leaf.ensures.made)

pub returns-then-second_over-clause-merged : goal.returns-then-second_over-clause-merged
returns-then-second_over-clause-merged g t c = rw c.write_fork-then-second_over.ensures.root (merge_under g.Q.Summary.means _ (rw c.in-Fork.is at c.in-Some-view.ensures) (λ m i o see. level_below (rw c.in-Fork-one-2.is at c.in-Some.ensures) (ltb-true _ _ (sym c.if-second_over.ensures)) see) c.merge-part-then-second_over.ensures.free_only c.merge-part-then-second_over.ensures.merged c.merge-part-then-second_over.auto.nodes c.write_fork-then-second_over.ensures.made)

pub returns-else-second_over-clause-merged : goal.returns-else-second_over-clause-merged
returns-else-second_over-clause-merged g t c = rw c.write_fork-in-Fork-one-2.ensures.root (merge_past g.Q.Summary.means _ (rw c.in-Fork.is at c.in-Some-view.ensures) (rw c.in-Fork-one-2.is at c.in-Some.ensures) (ltb-false _ _ (sym c.if-second_over.ensures)) c.merge-part-in-Fork-one-2.ensures.free_only c.merge-part-in-Fork-one-2.ensures.merged c.merge-part-in-Fork-one-2.auto.nodes c.write_fork-in-Fork-one-2.ensures.made)
