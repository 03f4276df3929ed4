use Rattle.std.proofs.Common.{refl}
use Rattle.questions.proofs.Ways.{path_nothing, path_last, path_stop, path_on, path_below, path_after, came_nowhere, came_further, came_one, came_none}
use Rattle.questions.proofs.counting.path_walk.Goals as goal

pub loop-shape-init : goal.loop-shape-init
loop-shape-init g c = came_nowhere _

pub returns-in_err-shape : goal.returns-in_err-shape
returns-in_err-shape g c = rw c.from_residual.ensures (came_none _ _ _ c.loop-shape.invariant (path_nothing _ _ _ _ c.in_err-shape.ensures))

pub returns-in-Leaf-default-default-None : goal.returns-in-Leaf-default-default-None
returns-in-Leaf-default-default-None g c = came_one _ _ _ _ c.loop-shape.invariant c.one_more-count.ensures (path_last _ _ _ _ _ _ (rw (c.in-Leaf-default-default-None.is, rw c.in-Leaf-default-default-None.is at c.in-Leaf-default-default-None.after-is) at c.in_ok-shape.ensures))

pub returns-then-rest-own : goal.returns-then-rest-own
returns-then-rest-own g c = came_one _ _ _ _ c.loop-shape.invariant c.one_more-count.ensures (path_stop _ _ _ _ _ _ _ _ (rw (c.in-Leaf-default-default-Some.is, rw c.in-Leaf-default-default-Some.is at c.in-Leaf-default-default-Some.after-is) at c.in_ok-shape.ensures) c.min-own.ensures c.if-rest-own.true)

pub loop-shape-preserved-in-Leaf-default-default-Some : goal.loop-shape-preserved-in-Leaf-default-default-Some
loop-shape-preserved-in-Leaf-default-default-Some g c = came_further _ _ _ _ _ c.loop-shape.invariant c.one_more-count.ensures (λ q f. path_on _ _ _ _ _ _ _ _ q _ (rw (c.in-Leaf-default-default-Some.is, rw c.in-Leaf-default-default-Some.is at c.in-Leaf-default-default-Some.after-is) at c.in_ok-shape.ensures) c.min-own.ensures c.if-rest-own.false f refl)

pub loop-shape-preserved-then-rest-left : goal.loop-shape-preserved-then-rest-left
loop-shape-preserved-then-rest-left g c = came_further _ _ _ _ _ c.loop-shape.invariant c.one_more-count.ensures (λ q f. path_below _ _ _ _ _ _ _ _ q _ (rw c.in-Fork.is at c.in_ok-shape.ensures) c.blocks_in-left.ensures c.if-rest-left.true f refl)

pub loop-shape-preserved : goal.loop-shape-preserved
loop-shape-preserved g c = came_further _ _ _ _ _ c.loop-shape.invariant c.one_more-count.ensures (λ q f. path_after _ _ _ _ _ _ _ _ q _ (rw c.in-Fork.is at c.in_ok-shape.ensures) c.blocks_in-left.ensures c.if-rest-left.false f refl)
