-- A path has no more nodes than its tree has leaves. Assumes nothing.
use Rattle.std.proofs.Common.{◌+◌, ◌≤◌, arith}
use Rattle.flexlist.specs.Shape.{Tree, last, leaf, fork}
use Rattle.flexlist.specs.Nodes.{Path, end, stop, on, below, after, leaves, nodes, nodes_of_both}

some_leaf : (t : Tree) → 1 ≤ leaves t
unfolding leaves
some_leaf (last a) = omega arith
some_leaf (leaf a t) = omega arith
some_leaf (fork m s t) = let x = some_leaf s in omega arith

pub path_short : {t : Tree} (w : Path t) → nodes w ≤ leaves t
unfolding nodes leaves
path_short end = omega arith
path_short stop = omega arith
path_short (on w) = let x = path_short w in omega arith
path_short (below {m} {s} {t} w) = let x = path_short w in let y = some_leaf t in omega arith
path_short (after {m} {s} {t} w) = let x = path_short w in let y = some_leaf s in omega arith

pub paths_short : {t : Tree} (v w : Path t) → nodes_of_both v w ≤ nodes v + nodes w
unfolding nodes nodes_of_both
paths_short end end = omega arith
paths_short stop stop = omega arith
paths_short stop (on w) = omega arith
paths_short (on v) stop = omega arith
paths_short (on v) (on w) = let x = paths_short v w in omega arith
paths_short (below v) (below w) = let x = paths_short v w in omega arith
paths_short (below v) (after w) = omega arith
paths_short (after v) (below w) = omega arith
paths_short (after v) (after w) = let x = paths_short v w in omega arith
