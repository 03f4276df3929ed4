use Rattle.std.proofs.Common.{refl, arith}
use Rattle.questions.proofs.Ways.{came_nowhere, came_further, came_none}
use Rattle.questions.proofs.Neighbours.{both_nothing, both_last, both_first, both_stop, both_on, both_in_below, both_at_fork, both_lost, both_in_after, first_past, first_after, first_below, came_to_leaf, came_to_fork}
use Rattle.questions.proofs.counting.paths_walk.Goals as goal

pub loop-shape-init : goal.loop-shape-init
loop-shape-init g c = (came_nowhere _, came_nowhere _)

pub returns-in_err-shape-clause-counted : goal.returns-in_err-shape-clause-counted
returns-in_err-shape-clause-counted g c = rw c.from_residual.ensures (came_none _ _ _ c.loop-shape.invariant.0 (both_nothing _ _ _ _ c.in_err-shape.ensures))

pub returns-in-Leaf-default-default-None-clause-counted : goal.returns-in-Leaf-default-default-None-clause-counted
returns-in-Leaf-default-default-None-clause-counted g c = came_none _ _ _ c.loop-shape.invariant.0 (both_last _ _ _ _ _ _ (rw (c.in-Leaf-default-default-None.is, rw c.in-Leaf-default-default-None.is at c.in-Leaf-default-default-None.after-is) at c.in_ok-shape.ensures))

pub returns-in_err-next-in-Leaf-default-default-Some-clause-counted : goal.returns-in_err-next-in-Leaf-default-default-Some-clause-counted
returns-in_err-next-in-Leaf-default-default-Some-clause-counted g c = rw c.from_residual-in_err-next-in-Leaf-default-default-Some.ensures (came_none _ _ _ c.loop-shape.invariant.0 (both_stop _ _ _ _ _ _ _ _ _ _ (rw (c.in-Leaf-default-default-Some.is, rw c.in-Leaf-default-default-Some.is at c.in-Leaf-default-default-Some.after-is) at c.in_ok-shape.ensures) c.min-own.ensures (omega arith) c.in_err-next-in-Leaf-default-default-Some.ensures refl))

pub returns-then-rest-own-2-clause-counted : goal.returns-then-rest-own-2-clause-counted
returns-then-rest-own-2-clause-counted g c = came_to_leaf _ _ _ _ _ _ c.loop-shape.invariant.0 c.one_more-count.ensures refl (both_stop _ _ _ _ _ _ _ _ _ _ (rw (c.in-Leaf-default-default-Some.is, rw c.in-Leaf-default-default-Some.is at c.in-Leaf-default-default-Some.after-is) at c.in_ok-shape.ensures) c.min-own.ensures (omega arith) c.in_ok-next-in-Leaf-default-default-Some.ensures refl)

pub returns-then-rest-own-clause-counted : goal.returns-then-rest-own-clause-counted
returns-then-rest-own-clause-counted g c = came_none _ _ _ c.loop-shape.invariant.0 (both_first _ _ _ _ _ _ _ _ (rw (c.in-Leaf-default-default-Some.is, rw c.in-Leaf-default-default-Some.is at c.in-Leaf-default-default-Some.after-is) at c.in_ok-shape.ensures) c.min-own.ensures c.if-rest-own.true)

pub returns-then-rest-own-2-clause-first : goal.returns-then-rest-own-2-clause-first
returns-then-rest-own-2-clause-first g c = came_to_leaf _ _ _ _ _ _ c.loop-shape.invariant.1 c.one_more-count.ensures refl (first_past _ _ _ _ _ _ _ _ _ (rw (c.in-Leaf-default-default-Some.is, rw c.in-Leaf-default-default-Some.is at c.in-Leaf-default-default-Some.after-is) at c.in_ok-shape.ensures) c.min-own.ensures (omega arith))

pub loop-shape-preserved-in-Leaf-default-default-Some : goal.loop-shape-preserved-in-Leaf-default-default-Some
loop-shape-preserved-in-Leaf-default-default-Some g c = (
  came_further _ _ _ _ _ c.loop-shape.invariant.0 c.one_more-count.ensures (λ q f. both_on _ _ _ _ _ _ _ _ q _ (rw (c.in-Leaf-default-default-Some.is, rw c.in-Leaf-default-default-Some.is at c.in-Leaf-default-default-Some.after-is) at c.in_ok-shape.ensures) c.min-own.ensures (omega arith) f refl),
  came_further _ _ _ _ _ c.loop-shape.invariant.1 c.one_more-count.ensures (λ q f. first_past _ _ _ _ _ _ _ _ _ (rw (c.in-Leaf-default-default-Some.is, rw c.in-Leaf-default-default-Some.is at c.in-Leaf-default-default-Some.after-is) at c.in_ok-shape.ensures) c.min-own.ensures (omega arith)),
)

pub loop-shape-preserved-then-rest-left : goal.loop-shape-preserved-then-rest-left
loop-shape-preserved-then-rest-left g c = (
  came_further _ _ _ _ _ c.loop-shape.invariant.0 c.one_more-count.ensures (λ q f. both_in_below _ _ _ _ _ _ _ _ q _ (rw c.in-Fork.is at c.in_ok-shape.ensures) c.blocks_in-left.ensures c.if-rest-left.true f refl),
  came_further _ _ _ _ _ c.loop-shape.invariant.1 c.one_more-count.ensures (λ q f. first_below _ _ _ _ _ _ _ q _ (rw c.in-Fork.is at c.in_ok-shape.ensures) f refl),
)

pub returns-in_err-first-in-Fork-clause-counted : goal.returns-in_err-first-in-Fork-clause-counted
returns-in_err-first-in-Fork-clause-counted g c = rw c.from_residual-in_err-first-in-Fork.ensures (came_none _ _ _ c.loop-shape.invariant.0 (both_lost _ _ _ _ _ _ _ _ (rw c.in-Fork.is at c.in_ok-shape.ensures) c.blocks_in-left.ensures (omega arith) c.in_err-first-in-Fork.ensures))

pub returns-in_err-second-in-Fork-clause-counted : goal.returns-in_err-second-in-Fork-clause-counted
returns-in_err-second-in-Fork-clause-counted g c = rw c.from_residual-in_err-second-in-Fork.ensures (came_none _ _ _ c.loop-shape.invariant.0 (both_at_fork _ _ _ _ _ _ _ _ _ _ _ (rw c.in-Fork.is at c.in_ok-shape.ensures) c.blocks_in-left.ensures (omega arith) c.in_ok-first-in-Fork.ensures c.in_err-second-in-Fork.ensures refl))

pub returns-then-rest-left-eq1-clause-counted : goal.returns-then-rest-left-eq1-clause-counted
returns-then-rest-left-eq1-clause-counted g c = came_to_fork _ _ _ _ _ _ _ c.loop-shape.invariant.0 c.one_more-count.ensures c.with_both.ensures (both_at_fork _ _ _ _ _ _ _ _ _ _ _ (rw c.in-Fork.is at c.in_ok-shape.ensures) c.blocks_in-left.ensures (omega arith) c.in_ok-first-in-Fork.ensures c.in_ok-second-in-Fork.ensures refl)

pub returns-then-rest-left-eq1-clause-first : goal.returns-then-rest-left-eq1-clause-first
returns-then-rest-left-eq1-clause-first g c = came_to_fork _ _ _ _ _ _ _ c.loop-shape.invariant.1 c.one_more-count.ensures c.with_both.ensures (first_after _ _ _ _ _ _ _ _ _ (rw c.in-Fork.is at c.in_ok-shape.ensures) c.blocks_in-left.ensures (omega arith))

pub loop-shape-preserved : goal.loop-shape-preserved
loop-shape-preserved g c = (
  came_further _ _ _ _ _ c.loop-shape.invariant.0 c.one_more-count.ensures (λ q f. both_in_after _ _ _ _ _ _ _ _ q _ (rw c.in-Fork.is at c.in_ok-shape.ensures) c.blocks_in-left.ensures (omega arith) f refl),
  came_further _ _ _ _ _ c.loop-shape.invariant.1 c.one_more-count.ensures (λ q f. first_after _ _ _ _ _ _ _ _ _ (rw c.in-Fork.is at c.in_ok-shape.ensures) c.blocks_in-left.ensures (omega arith)),
)
