-- What the counts of a held node come to. Assumes nothing.
use Rattle.std.proofs.Common.{◌≡◌, ℕ, ◌+◌, ◌≤◌, List, length, ap, ◌∙◌, arith}
use Rattle.std.specs.List.{slice_get}
use Rattle.flexlist.specs.Shape.{Tree}
use Rattle.flexlist.specs.Nodes.{Path, end, stop, on, below, after, nodes, nodes_of_both, leaves}
use Rattle.summary.specs.Summing.{Summing}
use Rattle.nodes.specs.declared.node.Node.{Node}
use Rattle.flexlist.specs.Laid.{Laid, plain, leader}
use Rattle.nodes.specs.Holding.{Content, own_blocks, Counted}
use Rattle.nodes.specs.Views.{blocks_in}
use Rattle.nodes.proofs.Held.{leaves_some, blocks_held}
use Rattle.questions.specs.Readings.{Stands}

-- ---- the nodes of paths are at most as many as the leaves

pub nodes_few : {t : Tree} (w : Path t) → nodes w ≤ leaves t
unfolding nodes leaves
nodes_few end = omega arith
nodes_few stop = omega arith
nodes_few (on w) = omega (arith, nodes_few w)
nodes_few (below {m} {s} {t} w) = omega (arith, nodes_few w, leaves_some t)
nodes_few (after {m} {s} {t} w) = omega (arith, nodes_few w, leaves_some s)

pub both_few : {t : Tree} (v w : Path t) → nodes_of_both v w ≤ leaves t + 1
unfolding nodes_of_both leaves
both_few end end = omega arith
both_few stop stop = omega arith
both_few stop (on w) = omega (arith, nodes_few w)
both_few (on v) stop = omega (arith, nodes_few v)
both_few (on v) (on w) = omega (arith, both_few v w)
both_few (below {m} {s} {t} v) (below w) = omega (arith, both_few v w, leaves_some t)
both_few (below v) (after w) = omega (arith, nodes_few v, nodes_few w)
both_few (after v) (below w) = omega (arith, nodes_few v, nodes_few w)
both_few (after {m} {s} {t} v) (after w) = omega (arith, both_few v w, leaves_some s)

-- ---- blocks

-- how many blocks the node at an entry counts
pub blocks_counted : {R Q : Type 0} (s : Summing R Q) (c : ℕ → Content R) (table : List (Node Q)) (at left : ℕ) (t : Laid) → Stands s c table at t → Counted c t → left ≡ blocks_in (slice_get table at)
    → left + 1 ≡ leaves (plain t) + own_blocks (length (c (leader t)).row)
blocks_counted s c table at left t h k e = ap (λ n. n + 1) e ∙ blocks_held s c table at t h.holds h.here k
