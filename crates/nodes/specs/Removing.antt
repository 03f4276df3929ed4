-- A block taken out of a laid tree. Assumes nothing.
use Rattle.std.specs.Prelude.{ℕ, ◌-◌, cond, List, nat_lt}
use Rattle.flexlist.specs.Building.{Plan, keep, new_last, new_leaf, new_fork}
use Rattle.flexlist.specs.Nodes.{leaves}
use Rattle.summary.specs.Summing.{Summing}
use Rattle.nodes.specs.declared.node.Node.{Node}
use Rattle.nodes.specs.declared.node.Block.{Block}
use Rattle.flexlist.specs.Laid.{Laid, last, leaf, fork, plain}
use Rattle.nodes.specs.Holding.{Content}
use Rattle.nodes.specs.Making.{LeafOf}
use Rattle.nodes.specs.Walking.{Ready, Room, LaidOut, Walked}

-- the tree with the identity n for its leader's
unfoldable pub led_by : ℕ → Laid → Plan Laid
led_by n (last e a) = new_last n
led_by n (leaf e a t) = new_leaf n (keep t)
led_by n (fork e m x y) = new_fork m (led_by n x) (keep y)

-- one tree, then another without its leader; where the other has no more than its leader, the first is kept whole
unfoldable pub joined_last : ℕ → ℕ → Laid → Plan Laid
joined_last e a (last f j) = keep (last e a)
joined_last e a (leaf f j t) = new_leaf a (keep t)
joined_last e a (fork f n u v) = new_fork n (joined_last e a u) (keep v)

unfoldable pub joined_leaf : ℕ → ℕ → Laid → (Laid → Plan Laid) → Laid → Plan Laid
joined_leaf e a s go (last f j) = keep (leaf e a s)
joined_leaf e a s go (leaf f j t) = new_leaf a (go (leaf f j t))
joined_leaf e a s go (fork f n u v) = new_fork n (joined_leaf e a s go u) (keep v)

unfoldable pub joined_fork : ℕ → ℕ → Laid → Laid → (Laid → Plan Laid) → Laid → Plan Laid
joined_fork e m r s go (last f j) = keep (fork e m r s)
joined_fork e m r s go (leaf f j t) = new_fork m (keep r) (go (leaf f j t))
joined_fork e m r s go (fork f n u v) = cond (nat_lt m n) (new_fork n (joined_fork e m r s go u) (keep v)) (new_fork m (keep r) (go (fork f n u v)))

unfoldable pub joined : Laid → Laid → Plan Laid
joined (last e a) t = joined_last e a t
joined (leaf e a s) t = joined_leaf e a s (joined s) t
joined (fork e m r s) t = joined_fork e m r s (joined s) t

-- the tree without the block at a place; the leader stays, so that place 0 counts as the next one
unfoldable pub remove_at : Laid → ℕ → Plan Laid
remove_at (last e a) p = keep (last e a)
remove_at (leaf e a t) p = cond (nat_lt 1 p) (new_leaf a (remove_at t (p - 1))) (led_by a t)
remove_at (fork e m x y) p =
    cond (nat_lt p (leaves (plain x))) (new_fork m (remove_at x p) (keep y))
    (cond (nat_lt (leaves (plain x)) p) (new_fork m (keep x) (remove_at y (p - leaves (plain x)))) (joined x y))

module _ {R Q : Type 0} (s : Summing R Q) (before : List (Node Q)) (used : ℕ) where
  -- what the walk leaves that gives a tree another leader
  abbrev pub Led : ℕ → Block Q → List (Node Q) → ℕ → ℕ → Type 0
  Led at block after root next =
      (c : ℕ → Content R) (n : ℕ) → LeafOf s (c n) block → (t : Laid) → Ready s c before used at t →
      Room s c before used (led_by n t) → LaidOut s c used (led_by n t) after root next

  -- what the walk leaves that joins two trees
  abbrev pub Merged : ℕ → ℕ → List (Node Q) → ℕ → ℕ → Type 0
  Merged first second after root next =
      (c : ℕ → Content R) (x y : Laid) → Ready s c before used first x → Ready s c before used second y →
      Room s c before used (joined x y) → LaidOut s c used (joined x y) after root next

  -- what the walk leaves that takes a block out
  abbrev pub Removed : ℕ → ℕ → List (Node Q) → ℕ → ℕ → Type 0
  Removed at upto after root next = (c : ℕ → Content R) → Walked s c remove_at before used at upto after root next
