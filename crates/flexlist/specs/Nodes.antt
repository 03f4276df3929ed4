-- The nodes of a tree as stretches, and the paths from its root to its leaves.
use Rattle.std.specs.Prelude.{◌≡◌, ℕ, zero, suc, ◌+◌, ◌-◌, ◌<◌, Bool, false, cond, ◌||◌, ◌⊎◌, List, [], ◌∷◌, ◌++◌, length, ◌==◌, nat_lt, slice_index}
use Rattle.flexlist.specs.Shape.{Tree, last, leaf, fork}

-- The identities under a node, in order: the leader's, then those of the other blocks.
abbrev pub identities : Tree → List ℕ
identities (last a) = a ∷ []
identities (leaf a t) = a ∷ identities t
identities (fork m s t) = identities s ++ identities t

-- The nodes of a tree, each as its own whole stretch.
abbrev pub stretches : Tree → List (List ℕ)
stretches (last a) = (a ∷ []) ∷ []
stretches (leaf a t) = (a ∷ identities t) ∷ stretches t
stretches (fork m s t) = (identities s ++ identities t) ∷ (stretches s ++ stretches t)

-- How many leaves a tree has: one for the leader, one for each block after it.
unfoldable pub leaves : Tree → ℕ
leaves (last a) = 1
leaves (leaf a t) = suc (leaves t)
leaves (fork m s t) = leaves s + leaves t

-- A way down from the root to some leaf. A leaf on it is either its end or passed by; of a fork it takes one of the two sides, below or after.
pub data Path : Tree → Type 0 where
  end : {a : ℕ} → Path (last a)
  stop : {a : ℕ} {t : Tree} → Path (leaf a t)
  on : {a : ℕ} {t : Tree} → Path t → Path (leaf a t)
  below : {m : ℕ} {s t : Tree} → Path s → Path (fork m s t)
  after : {m : ℕ} {s t : Tree} → Path t → Path (fork m s t)

-- How many nodes a path has, root and leaf counted.
unfoldable pub nodes : {t : Tree} → Path t → ℕ
nodes end = 1
nodes stop = 1
nodes (on w) = suc (nodes w)
nodes (below w) = suc (nodes w)
nodes (after w) = suc (nodes w)

-- How many nodes lie on one of two paths or on both.
unfoldable pub nodes_of_both : {t : Tree} → Path t → Path t → ℕ
nodes_of_both end end = 1
nodes_of_both stop stop = 1
nodes_of_both stop (on w) = suc (nodes w)
nodes_of_both (on v) stop = suc (nodes v)
nodes_of_both (on v) (on w) = suc (nodes_of_both v w)
nodes_of_both (below v) (below w) = suc (nodes_of_both v w)
nodes_of_both (below v) (after w) = suc (nodes v + nodes w)
nodes_of_both (after v) (below w) = suc (nodes v + nodes w)
nodes_of_both (after v) (after w) = suc (nodes_of_both v w)

-- Whether an identity stands in a stretch.
abbrev pub has : ℕ → List ℕ → Bool
has x [] = false
has x (y ∷ ys) = x == y || has x ys

-- The same as a statement, of a list of anything.
abbrev pub Among : {A : Type 0} → A → List A → Type 0
Among x [] = ⊥
Among x (y ∷ ys) = (x ≡ y) ⊎ Among x ys

-- The path to the block of identity x: of a fork, only one side has it.
unfoldable pub to_block : ℕ → (t : Tree) → Path t
to_block x (last a) = end
to_block x (leaf a t) = cond (x == a) stop (on (to_block x t))
to_block x (fork m s t) = cond (has x (identities s)) (below (to_block x s)) (after (to_block x t))

-- The path to a place, counting leaves on the way: place 0 is the leader, place 1 the first block after it, and so on.
unfoldable pub to_place : (t : Tree) → ℕ → Path t
to_place (last a) p = end
to_place (leaf a t) zero = stop
to_place (leaf a t) (suc p) = on (to_place t p)
to_place (fork m s t) p = cond (nat_lt p (leaves s)) (below (to_place s p)) (after (to_place t (p - leaves s)))

-- The place at which a path ends.
unfoldable pub place : {t : Tree} → Path t → ℕ
place end = 0
place stop = 0
place (on w) = suc (place w)
place (below w) = place w
place (after {m} {s} w) = leaves s + place w

-- No two alike.
abbrev pub Distinct : {A : Type 0} → List A → Type 0
Distinct [] = Unit {0}
Distinct (x ∷ xs) = (Among x xs → ⊥) × Distinct xs

-- Where identities are distinct, each node has a stretch of its own.
abbrev pub OwnStretches : Type 0
OwnStretches = (t : Tree) → Distinct (identities t) → Distinct (stretches t)

-- Places and paths are one to one.
pub record Places (t : Tree) : Type 0 where
  pub path_of_place : (w : Path t) → to_place t (place w) ≡ w
  pub place_of_path : (p : ℕ) → p < leaves t → place (to_place t p) ≡ p

abbrev pub PlacesAndPaths : Type 0
PlacesAndPaths = (t : Tree) → Places t

-- Where identities are distinct, the path to the block that stands at a place is the path found by counting to that place.
abbrev pub SamePath : Type 0
SamePath = (t : Tree) (p : ℕ) → Distinct (identities t) → p < length (identities t) → to_block (slice_index (identities t) p) t ≡ to_place t p

-- How many of some stretches pass a test.
unfoldable pub how_many : (List ℕ → Bool) → List (List ℕ) → ℕ
how_many test [] = 0
how_many test (x ∷ xs) = cond (test x) 1 0 + how_many test xs

-- The nodes of a path are those that have its block, and the nodes of two paths are those that have the one block or the other.
pub record NodesOfPaths (t : Tree) (p q : ℕ) : Type 0 where
  pub one : nodes (to_place t p) ≡ how_many (has (slice_index (identities t) p)) (stretches t)
  pub two : nodes_of_both (to_place t p) (to_place t q) ≡ how_many (λ x. has (slice_index (identities t) p) x || has (slice_index (identities t) q) x) (stretches t)

abbrev pub PathsHaveNodes : Type 0
PathsHaveNodes =
    (t : Tree) (p q : ℕ) → Distinct (identities t) → p < length (identities t) → q < length (identities t) → NodesOfPaths t p q
