-- Which tree is the FlexList of a stretch.
use Rattle.std.specs.Prelude.{◌≡◌, ℕ, zero, suc, ◌<◌, ◌≤◌, cond, nat_lt, List, [], ◌∷◌, ◌++◌}
use Rattle.std.specs.List.{AllByRecursion}

-- A block: an identity that tells it from every other, and its level.
pub record Block : Type 0 where
  pub identity : ℕ
  pub level : ℕ

abbrev pub block : ℕ → ℕ → Block
block a k = record { identity = a; level = k }

-- A tree of leaves and forks. A leaf ends it or is followed by a tree; a fork has a level and two trees, one below it and one after it.
pub data Tree : Type 0 where
  last : ℕ → Tree
  leaf : ℕ → Tree → Tree
  fork : ℕ → Tree → Tree → Tree

-- `FlexList leader blocks tree`: the tree is the FlexList of the stretch that has this leader and then these blocks. There are three cases: no
-- block; blocks of level 0 only; and else the stretch is parted in front of j, the first of its highest blocks.
pub data FlexList : ℕ → List Block → Tree → Type 0 where
  alone : {leader : ℕ} → FlexList leader [] (last leader)
  level_0 : {leader : ℕ} {b : Block} {bs : List Block} {t : Tree} →
      AllByRecursion (λ x. x.level ≡ 0) (b ∷ bs) →
      FlexList b.identity bs t → FlexList leader (b ∷ bs) (leaf leader t)
  first_greatest : {leader : ℕ} (xs : List Block) (j : Block) (ys : List Block) {s t : Tree} →
      0 < j.level → AllByRecursion (λ x. x.level < j.level) xs → AllByRecursion (λ x. x.level ≤ j.level) ys →
      FlexList leader xs s → FlexList j.identity ys t → FlexList leader (xs ++ j ∷ ys) (fork j.level s t)

-- The same tree, made from the last block on. A leader is put before a tree whose own leader has level k: as a leaf where k is 0, else below a
-- fork of level k.
unfoldable pub front : ℕ → ℕ → Tree → Tree
front l zero t = leaf l t
front l (suc k) t = fork (suc k) (last l) t

-- The same before any tree: where that is a higher fork, the leader goes below it.
unfoldable pub led : ℕ → ℕ → Tree → Tree
unfolding front
led l k (last a) = front l k (last a)
led l k (leaf a t) = front l k (leaf a t)
led l k (fork m s t) = cond (nat_lt k m) (fork m (led l k s) t) (front l k (fork m s t))

unfoldable pub flexlist : ℕ → List Block → Tree
flexlist l [] = last l
flexlist l (b ∷ bs) = led l b.level (flexlist b.identity bs)

-- Every stretch has exactly one FlexList, whatever the levels.
pub record OneFlexList (leader : ℕ) (bs : List Block) : Type 0 where
  pub is : FlexList leader bs (flexlist leader bs)
  pub only : (t : Tree) → FlexList leader bs t → t ≡ flexlist leader bs

abbrev pub ExactlyOne : Type 0
ExactlyOne = (leader : ℕ) (bs : List Block) → OneFlexList leader bs
