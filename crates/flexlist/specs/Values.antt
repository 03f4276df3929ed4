-- Worked values: what the rules give for a few short lists.
use Rattle.std.specs.Prelude.{◌≡◌, ℕ, suc, List, [], ◌∷◌, length}
use Rattle.flexlist.specs.Shape.{Block, block, Tree, last, leaf, fork, FlexList}
use Rattle.flexlist.specs.Nodes.{stretches, nodes, nodes_of_both, to_place}
use Rattle.flexlist.specs.Sharing.{written}

-- Blocks of these levels, with the identities 1, 2, .. ; the lead has 0.
abbrev pub numbered : ℕ → List ℕ → List Block
numbered n [] = []
numbered n (k ∷ ks) = block n k ∷ numbered (suc n) ks

abbrev pub blocks : List ℕ → List Block
blocks ks = numbered 1 ks

-- The FlexList of these levels is this tree, which has so many nodes.
abbrev pub Shaped : List ℕ → Tree → ℕ → Type 0
Shaped ks shape count = (t : Tree) → FlexList 0 (blocks ks) t → (t ≡ shape) × (length (stretches t) ≡ count)

-- An edit from one list to another writes so many nodes.
abbrev pub Writes : List Block → List Block → ℕ → Type 0
Writes xs ys count = (base new : Tree) → FlexList 0 xs base → FlexList 0 ys new → written base new ≡ count

-- The path to a place has so many nodes.
abbrev pub PathOf : List Block → ℕ → ℕ → Type 0
PathOf xs place count = (t : Tree) → FlexList 0 xs t → nodes (to_place t place) ≡ count

-- The paths to two places have so many nodes together.
abbrev pub PathsOf : List Block → ℕ → ℕ → ℕ → Type 0
PathsOf xs p q count = (t : Tree) → FlexList 0 xs t → nodes_of_both (to_place t p) (to_place t q) ≡ count

pub record ShapeValues : Type 0 where
  pub no_blocks : Shaped [] (last 0) 1
  pub levels_0 : Shaped (0 ∷ []) (leaf 0 (last 1)) 2
  pub levels_1 : Shaped (1 ∷ []) (fork 1 (last 0) (last 1)) 3
  pub levels_1_1 : Shaped (1 ∷ 1 ∷ []) (fork 1 (last 0) (fork 1 (last 1) (last 2))) 5
  pub levels_0_1 : Shaped (0 ∷ 1 ∷ []) (fork 1 (leaf 0 (last 1)) (last 2)) 4
  pub levels_1_2 : Shaped (1 ∷ 2 ∷ []) (fork 2 (fork 1 (last 0) (last 1)) (last 2)) 5
  pub insert_level_2 : Writes (blocks (0 ∷ [])) (block 2 2 ∷ blocks (0 ∷ [])) 3
  pub insert_path : PathOf (blocks (0 ∷ [])) 0 1
  pub remove_level_3 : Writes (blocks (3 ∷ [])) [] 0
  pub remove_level_0 : Writes (blocks (0 ∷ [])) [] 1
  pub remove_paths : PathsOf (blocks (0 ∷ [])) 0 1 2
