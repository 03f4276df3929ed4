-- A block of a laid tree changed. Assumes nothing.
use Rattle.std.specs.Prelude.{ℕ, zero, suc, ◌-◌, cond, List, nat_lt}
use Rattle.flexlist.specs.Building.{Plan, keep, new_last, new_leaf, new_fork}
use Rattle.flexlist.specs.Nodes.{leaves}
use Rattle.summary.specs.Summing.{Summing}
use Rattle.nodes.specs.declared.node.Node.{Node}
use Rattle.nodes.specs.declared.node.Block.{Block}
use Rattle.flexlist.specs.Laid.{Laid, last, leaf, fork, plain}
use Rattle.nodes.specs.Holding.{Content}
use Rattle.nodes.specs.Making.{LeafOf}
use Rattle.nodes.specs.Walking.{Walked}

-- the block at a place takes the identity n
unfoldable pub change_at : ℕ → Laid → ℕ → Plan Laid
change_at n (last e a) p = new_last n
change_at n (leaf e a t) zero = new_leaf n (keep t)
change_at n (leaf e a t) (suc p) = new_leaf a (change_at n t p)
change_at n (fork e m x y) p = cond (nat_lt p (leaves (plain x))) (new_fork m (change_at n x p) (keep y)) (new_fork m (keep x) (change_at n y (p - leaves (plain x))))

-- what a walk that changes a block leaves, given the new block as its leaf keeps it
abbrev pub Changed : {R Q : Type 0} → Summing R Q → List (Node Q) → ℕ → ℕ → ℕ → Block Q → List (Node Q) → ℕ → ℕ → Type 0
Changed {R} s before used at upto block after root next =
    (c : ℕ → Content R) (n : ℕ) → LeafOf s (c n) block → Walked s c (change_at n) before used at upto after root next
