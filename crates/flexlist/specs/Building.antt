-- What a sharing edit builds: plans that keep whole pieces of the base and make the other nodes anew.
use Rattle.std.specs.Prelude.{◌≡◌, ℕ, zero, suc, ◌+◌, Bool, true, false, cond, List, [], ◌∷◌, ◌++◌, length, nat_le, nat_lt}
use Rattle.flexlist.specs.Shape.{Block, Tree, last, leaf, fork, FlexList}
use Rattle.flexlist.specs.Nodes.{identities, stretches, Path, end, stop, on, below, after, to_place, Among, Distinct}
use Rattle.flexlist.specs.Sharing.{written}

-- A plan for a tree: keep a piece of the base as it is, or make a node over what is planned for its parts.
pub data Plan (Piece : Type 0) : Type 0 where
  keep : Piece → Plan Piece
  new_last : ℕ → Plan Piece
  new_leaf : ℕ → Plan Piece → Plan Piece
  new_fork : ℕ → Plan Piece → Plan Piece → Plan Piece

-- The tree that a plan gives.
unfoldable pub built : Plan Tree → Tree
built (keep t) = t
built (new_last a) = last a
built (new_leaf a x) = leaf a (built x)
built (new_fork m x y) = fork m (built x) (built y)

-- How many nodes a plan makes.
unfoldable pub made : {Piece : Type 0} → Plan Piece → ℕ
made (keep t) = 0
made (new_last a) = 1
made (new_leaf a x) = suc (made x)
made (new_fork m x y) = suc (made x + made y)

-- Whether a path leads to the last leaf of its tree.
unfoldable pub at_end : {t : Tree} → Path t → Bool
at_end end = true
at_end stop = false
at_end (on w) = at_end w
at_end (below w) = false
at_end (after w) = at_end w

-- Up to the block that the path leads to, and no further: a piece that ends just there is kept whole.
unfoldable pub left : {t : Tree} → Path t → Plan Tree
left (end {a}) = keep (last a)
left (stop {a}) = new_last a
left (on {a} {t} w) = cond (at_end w) (keep (leaf a t)) (new_leaf a (left w))
left (below w) = left w
left (after {m} {s} {t} w) = cond (at_end w) (keep (fork m s t)) (new_fork m (keep s) (left w))

-- A new leader n, then what stands after the block that the path leads to.
unfoldable pub right : {t : Tree} → ℕ → Path t → Plan Tree
right n end = new_last n
right n (stop {a} {t}) = new_leaf n (keep t)
right n (on w) = right n w
right n (below {m} {s} {t} w) = new_fork m (right n w) (keep t)
right n (after w) = right n w

-- The tree cut after the block that the path leads to, a new block n of level k between the parts.
unfoldable pub cut : {t : Tree} → ℕ → ℕ → Path t → Plan Tree
cut n k w = new_fork k (left w) (right n w)

-- A new block n of level k after the block that the path leads to: the tree is cut where k is its first greatest level.
unfoldable pub insert : {t : Tree} → ℕ → ℕ → Path t → Plan Tree
insert n zero (end {a}) = new_leaf a (new_last n)
insert n (suc k) (end {a}) = cut n (suc k) (end {a = a})
insert n zero (stop {a} {t}) = new_leaf a (new_leaf n (keep t))
insert n (suc k) (stop {a} {t}) = cut n (suc k) (stop {a = a} {t = t})
insert n zero (on {a} w) = new_leaf a (insert n zero w)
insert n (suc k) (on {a} w) = cut n (suc k) (on {a = a} w)
insert n k (below {m} {s} {t} w) = cond (nat_le m k) (cut n k (below {m = m} {t = t} w)) (new_fork m (insert n k w) (keep t))
insert n k (after {m} {s} {t} w) = cond (nat_lt m k) (cut n k (after {m = m} {s = s} w)) (new_fork m (keep s) (insert n k w))

-- The block that the path leads to takes the identity n and keeps its level.
unfoldable pub change : {t : Tree} → ℕ → Path t → Plan Tree
change n end = new_last n
change n (stop {a} {t}) = new_leaf n (keep t)
change n (on {a} w) = new_leaf a (change n w)
change n (below {m} {s} {t} w) = new_fork m (change n w) (keep t)
change n (after {m} {s} {t} w) = new_fork m (keep s) (change n w)

-- The tree with the identity n for its leader's.
unfoldable pub lead_by : ℕ → Tree → Plan Tree
lead_by n (last a) = new_last n
lead_by n (leaf a t) = new_leaf n (keep t)
lead_by n (fork m s t) = new_fork m (lead_by n s) (keep t)

-- One tree, then another without its leader. Where the other has no more than its leader, the first is kept whole.
unfoldable pub merge_last : ℕ → Tree → Plan Tree
merge_last a (last j) = keep (last a)
merge_last a (leaf j t) = new_leaf a (keep t)
merge_last a (fork n u v) = new_fork n (merge_last a u) (keep v)

unfoldable pub merge_leaf : ℕ → Tree → (Tree → Plan Tree) → Tree → Plan Tree
merge_leaf a s go (last j) = keep (leaf a s)
merge_leaf a s go (leaf j t) = new_leaf a (go (leaf j t))
merge_leaf a s go (fork n u v) = new_fork n (merge_leaf a s go u) (keep v)

unfoldable pub merge_fork : ℕ → Tree → Tree → (Tree → Plan Tree) → Tree → Plan Tree
merge_fork m r s go (last j) = keep (fork m r s)
merge_fork m r s go (leaf j t) = new_fork m (keep r) (go (leaf j t))
merge_fork m r s go (fork n u v) = cond (nat_lt m n) (new_fork n (merge_fork m r s go u) (keep v)) (new_fork m (keep r) (go (fork n u v)))

unfoldable pub merge : Tree → Tree → Plan Tree
merge (last a) t = merge_last a t
merge (leaf a s) t = merge_leaf a s (merge s) t
merge (fork m r s) t = merge_fork m r s (merge s) t

-- A block that is not the leader: what follows a leaf begins with it, or what stands after a fork does, or it is further down.
pub data Gap : Tree → Type 0 where
  here : {a : ℕ} {t : Tree} → Gap (leaf a t)
  further : {a : ℕ} {t : Tree} → Gap t → Gap (leaf a t)
  in_below : {m : ℕ} {s t : Tree} → Gap s → Gap (fork m s t)
  between : {m : ℕ} {s t : Tree} → Gap (fork m s t)
  in_after : {m : ℕ} {s t : Tree} → Gap t → Gap (fork m s t)

-- The paths to the first and to the last leaf of a tree.
unfoldable pub to_first : (t : Tree) → Path t
to_first (last a) = end
to_first (leaf a t) = stop
to_first (fork m s t) = below (to_first s)

unfoldable pub to_last : (t : Tree) → Path t
to_last (last a) = end
to_last (leaf a t) = on (to_last t)
to_last (fork m s t) = after (to_last t)

-- The path to that block, and the path to its neighbour on the left.
unfoldable pub to_this : {t : Tree} → Gap t → Path t
to_this (here {a} {t}) = on (to_first t)
to_this (further g) = on (to_this g)
to_this (in_below g) = below (to_this g)
to_this (between {m} {s} {t}) = after (to_first t)
to_this (in_after g) = after (to_this g)

unfoldable pub to_before : {t : Tree} → Gap t → Path t
to_before here = stop
to_before (further g) = on (to_before g)
to_before (in_below g) = below (to_before g)
to_before (between {m} {s} {t}) = below (to_last s)
to_before (in_after g) = after (to_before g)

-- The tree without that block.
unfoldable pub remove : {t : Tree} → Gap t → Plan Tree
remove (here {a} {t}) = lead_by a t
remove (further {a} g) = new_leaf a (remove g)
remove (in_below {m} {s} {t} g) = new_fork m (remove g) (keep t)
remove (between {m} {s} {t}) = merge s t
remove (in_after {m} {s} {t} g) = new_fork m (keep s) (remove g)

-- Every node of a tree is one of these stretches.
abbrev pub Covers : List (List ℕ) → Tree → Type 0
Covers base t = (x : List ℕ) → Among x (stretches t) → Among x base

-- Every piece that a plan keeps is of these stretches.
abbrev pub Keeps : List (List ℕ) → Plan Tree → Type 0
Keeps base (keep t) = Covers base t
Keeps base (new_last a) = Unit {0}
Keeps base (new_leaf a x) = Keeps base x
Keeps base (new_fork m x y) = Keeps base x × Keeps base y

-- A statement of the stretch of every node that a plan makes.
abbrev pub EachMade : (List ℕ → Type 0) → Plan Tree → Type 0
EachMade P (keep t) = Unit {0}
EachMade P (new_last a) = P (a ∷ [])
EachMade P (new_leaf a x) = P (a ∷ identities (built x)) × EachMade P x
EachMade P (new_fork m x y) = P (identities (built x) ++ identities (built y)) × EachMade P x × EachMade P y

-- A stretch that is none of these.
abbrev pub New : List (List ℕ) → List ℕ → Type 0
New base x = Among x base → ⊥

-- A plan for an edit of the base gives the FlexList of the edited list and keeps only nodes of the base.
-- Where identities are apart, all that it makes is new, so that it makes exactly the nodes that the sharing rule counts.
pub record Builds (leader : ℕ) (edited : List Block) (base : Tree) (identities_apart : Type 0) (plan : Plan Tree) : Type 0 where
  pub gives : FlexList leader edited (built plan)
  pub keeps : Keeps (stretches base) plan
  pub makes_new : identities_apart → EachMade (New (stretches base)) plan
  pub exact : identities_apart → made plan ≡ written base (built plan)

-- Insert after the block before the place, for a fresh identity among distinct ones.
abbrev pub InsertBuilds : Type 0
InsertBuilds =
    (leader : ℕ) (xs ys : List Block) (b : Block) (base : Tree) → FlexList leader (xs ++ ys) base →
    Builds leader (xs ++ b ∷ ys) base (Distinct (b.identity ∷ identities base))
    (insert b.identity b.level (to_place base (length xs)))

-- Change of the block at the place, to a fresh identity.
abbrev pub ChangeBuilds : Type 0
ChangeBuilds =
    (leader : ℕ) (xs ys : List Block) (b c : Block) (base : Tree) → FlexList leader (xs ++ b ∷ ys) base → c.level ≡ b.level →
    Builds leader (xs ++ c ∷ ys) base (Among c.identity (identities base) → ⊥)
    (change c.identity (to_place base (suc (length xs))))

-- Removal of the block at the place, for distinct identities.
pub record RemovalOf (leader : ℕ) (xs ys : List Block) (base : Tree) : Type 0 where
  pub gap : Gap base
  pub this : to_this gap ≡ to_place base (suc (length xs))
  pub before : to_before gap ≡ to_place base (length xs)
  pub builds : Builds leader (xs ++ ys) base (Distinct (identities base)) (remove gap)

abbrev pub RemovalBuilds : Type 0
RemovalBuilds =
    (leader : ℕ) (xs ys : List Block) (b : Block) (base : Tree) → FlexList leader (xs ++ b ∷ ys) base →
    RemovalOf leader xs ys base
