-- Summaries along a FlexList.
use Rattle.std.specs.Prelude.{◌≡◌, ℕ, List, [], ◌∷◌, map}
use Rattle.flexlist.specs.Shape.{Block, Tree, last, leaf, fork, FlexList}

-- What makes a summary lawful: three values come to the same, whichever two are joined first, and joining with the empty value changes nothing.
pub record Lawful (A : Type 0) (empty : A) (join : A → A → A) : Type 0 where
  pub assoc : (x y z : A) → join (join x y) z ≡ join x (join y z)
  pub empty_left : (x : A) → join empty x ≡ x
  pub empty_right : (x : A) → join x empty ≡ x

-- The values of a stretch's blocks, the leader's first, joined in order.
unfoldable pub folded : {A : Type 0} → A → (A → A → A) → (ℕ → A) → List ℕ → A
folded empty join value [] = empty
folded empty join value (x ∷ xs) = join (value x) (folded empty join value xs)

-- The same values joined along a tree: at a leaf with what follows it, at a fork what is below with what is after.
unfoldable pub joined_along : {A : Type 0} → (A → A → A) → (ℕ → A) → Tree → A
joined_along join value (last a) = value a
joined_along join value (leaf a t) = join (value a) (joined_along join value t)
joined_along join value (fork m s t) = join (joined_along join value s) (joined_along join value t)

-- No grouping changes a summary: along any FlexList of a stretch the join is the fold over the stretch.
abbrev pub Folding : Type 0 → Type 0
Folding A =
    (empty : A) (join : A → A → A) → Lawful A empty join → (value : ℕ → A)
    (leader : ℕ) (bs : List Block) (t : Tree) → FlexList leader bs t →
    joined_along join value t ≡ folded empty join value (leader ∷ map (λ b. b.identity) bs)
