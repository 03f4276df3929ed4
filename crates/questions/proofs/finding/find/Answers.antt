use Rattle.questions.proofs.Finds.{find_nothing, find_past, find_here, find_on, find_below, find_after, set_out, came_on, came_to_it, came_to_nothing}
use Rattle.questions.proofs.finding.find.Goals as goal

pub loop-shape-init : goal.loop-shape-init
loop-shape-init g c = set_out _ _ _ _

pub returns-in_err-shape : goal.returns-in_err-shape
returns-in_err-shape g c = rw c.from_residual.ensures (came_to_nothing _ _ _ _ _ _ _ c.loop-shape.invariant (find_nothing _ _ _ _ c.in_err-shape.ensures))

pub returns-then-place-length : goal.returns-then-place-length
returns-then-place-length g c = came_to_it _ _ _ _ _ _ _ _ _ _ c.loop-shape.invariant c.one_more-path.ensures (find_here _ _ _ _ _ _ _ (rw c.in-Leaf.is at c.in_ok-shape.ensures) c.if-place-length.true)

pub returns-in_err-here-in-Leaf : goal.returns-in_err-here-in-Leaf
returns-in_err-here-in-Leaf g c = rw c.from_residual-in_err-here-in-Leaf.ensures (came_to_nothing _ _ _ _ _ _ _ c.loop-shape.invariant (find_past _ _ _ _ _ _ (rw (c.in-Leaf.is, c.in_err-here-in-Leaf.was) at c.in_ok-shape.ensures) c.if-place-length.false))

pub loop-shape-preserved-in-Leaf : goal.loop-shape-preserved-in-Leaf
loop-shape-preserved-in-Leaf g c = came_on _ _ _ _ _ _ _ _ _ _ c.loop-shape.invariant c.one_more-path.ensures (λ q r f e. find_on _ _ _ _ _ _ _ q r (rw (c.in-Leaf.is, c.in_ok-here-in-Leaf.was) at c.in_ok-shape.ensures) c.if-place-length.false f e)

pub loop-shape-preserved-then-place-left : goal.loop-shape-preserved-then-place-left
loop-shape-preserved-then-place-left g c = came_on _ _ _ _ _ _ _ _ _ _ c.loop-shape.invariant c.one_more-path.ensures (λ q r f e. find_below _ _ _ _ _ _ _ _ q r (rw c.in-Fork.is at c.in_ok-shape.ensures) c.readings_in-left.ensures c.if-place-left.true f e)

pub loop-shape-preserved : goal.loop-shape-preserved
loop-shape-preserved g c = came_on _ _ _ _ _ _ _ _ _ _ c.loop-shape.invariant c.one_more-path.ensures (λ q r f e. find_after _ _ _ _ _ _ _ _ q r (rw c.in-Fork.is at c.in_ok-shape.ensures) c.readings_in-left.ensures c.if-place-left.false f e)
