-- A laid tree cut after a place, and a block put in there. Assumes nothing.
use Rattle.std.specs.Prelude.{ℕ, zero, suc, ◌-◌, Bool, cond, List, nat_le, nat_lt}
use Rattle.flexlist.specs.Building.{Plan, keep, new_last, new_leaf, new_fork}
use Rattle.flexlist.specs.Nodes.{leaves}
use Rattle.summary.specs.Summing.{Summing}
use Rattle.nodes.specs.declared.node.Node.{Node}
use Rattle.nodes.specs.declared.node.Block.{Block}
use Rattle.flexlist.specs.Laid.{Laid, last, leaf, fork, plain}
use Rattle.nodes.specs.Holding.{Content}
use Rattle.nodes.specs.Making.{LeafOf}
use Rattle.nodes.specs.Walking.{Walked}

-- whether a tree ends at a place
abbrev pub ends_at : Laid → ℕ → Bool
ends_at t p = nat_le (leaves (plain t)) (suc p)

-- up to the place, and no further: a piece that ends just there is kept whole
unfoldable pub left_at : Laid → ℕ → Plan Laid
left_at (last e a) p = keep (last e a)
left_at (leaf e a t) zero = new_last a
left_at (leaf e a t) (suc p) = cond (ends_at t p) (keep (leaf e a t)) (new_leaf a (left_at t p))
left_at (fork e m x y) p =
    cond (nat_lt p (leaves (plain x))) (left_at x p)
    (cond (ends_at y (p - leaves (plain x))) (keep (fork e m x y)) (new_fork m (keep x) (left_at y (p - leaves (plain x)))))

-- a new leader n, then what stands after the place
unfoldable pub right_at : ℕ → Laid → ℕ → Plan Laid
right_at n (last e a) p = new_last n
right_at n (leaf e a t) zero = new_leaf n (keep t)
right_at n (leaf e a t) (suc p) = right_at n t p
right_at n (fork e m x y) p = cond (nat_lt p (leaves (plain x))) (new_fork m (right_at n x p) (keep y)) (right_at n y (p - leaves (plain x)))

-- the tree cut after the place, a new block n of level k between the parts
unfoldable pub cut_at : ℕ → ℕ → Laid → ℕ → Plan Laid
cut_at n k t p = new_fork k (left_at t p) (right_at n t p)

-- a new block n of level k after the place: the tree is cut where k is its first greatest level
unfoldable pub insert_at : ℕ → ℕ → Laid → ℕ → Plan Laid
insert_at n zero (last e a) p = new_leaf a (new_last n)
insert_at n (suc k) (last e a) p = cut_at n (suc k) (last e a) p
insert_at n zero (leaf e a t) zero = new_leaf a (new_leaf n (keep t))
insert_at n zero (leaf e a t) (suc p) = new_leaf a (insert_at n zero t p)
insert_at n (suc k) (leaf e a t) p = cut_at n (suc k) (leaf e a t) p
insert_at n k (fork e m x y) p =
    cond (nat_lt p (leaves (plain x)))
    (cond (nat_le m k) (cut_at n k (fork e m x y) p) (new_fork m (insert_at n k x p) (keep y)))
    (cond (nat_lt m k) (cut_at n k (fork e m x y) p) (new_fork m (keep x) (insert_at n k y (p - leaves (plain x)))))

-- what the walks leave that make the left piece, the right piece, both under a fork, and the tree with the block put in
abbrev pub LeftMade : {R Q : Type 0} → Summing R Q → List (Node Q) → ℕ → ℕ → ℕ → List (Node Q) → ℕ → ℕ → Type 0
LeftMade {R} s before used at upto after root next = (c : ℕ → Content R) → Walked s c left_at before used at upto after root next

module _ {R Q : Type 0} (s : Summing R Q) (before : List (Node Q)) (used at upto : ℕ) (block : Block Q) (after : List (Node Q)) (root next : ℕ) where
  abbrev pub RightMade : Type 0
  RightMade = (c : ℕ → Content R) (n : ℕ) → LeafOf s (c n) block → Walked s c (right_at n) before used at upto after root next

  abbrev pub CutMade : ℕ → Type 0
  CutMade level = (c : ℕ → Content R) (n : ℕ) → LeafOf s (c n) block → Walked s c (cut_at n level) before used at upto after root next

  abbrev pub Inserted : ℕ → Type 0
  Inserted level = (c : ℕ → Content R) (n : ℕ) → LeafOf s (c n) block → Walked s c (insert_at n level) before used at upto after root next
