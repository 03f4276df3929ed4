-- The sharing rule between a base and its edited list, and what it costs.
use Rattle.std.specs.Prelude.{◌≡◌, ℕ, suc, ◌+◌, ◌<◌, ◌≤◌, Bool, true, false, cond, ◌&&◌, ◌||◌, List, [], ◌∷◌, ◌++◌, length, ◌==◌}
use Rattle.flexlist.specs.Shape.{Block, Tree, FlexList}
use Rattle.flexlist.specs.Nodes.{identities, stretches, nodes, nodes_of_both, to_place, Among}

-- Whether two stretches are one, from the leader to the last block.
abbrev pub same : List ℕ → List ℕ → Bool
same [] [] = true
same [] (y ∷ ys) = false
same (x ∷ xs) [] = false
same (x ∷ xs) (y ∷ ys) = x == y && same xs ys

-- Whether a stretch is one of some.
abbrev pub one_of : List ℕ → List (List ℕ) → Bool
one_of x [] = false
one_of x (y ∷ ys) = same x y || one_of x ys

-- How many of some stretches are none of the base's.
unfoldable pub missing : List (List ℕ) → List (List ℕ) → ℕ
missing base [] = 0
missing base (x ∷ xs) = cond (one_of x base) 0 1 + missing base xs

-- How many nodes of the new tree are written: those whose stretch no node of the base has. For the others the base's nodes serve.
unfoldable pub written : Tree → Tree → ℕ
written base new = missing (stretches base) (stretches new)

-- A block put in writes at most two nodes more than the path to the block before it has.
abbrev pub InsertBound : Type 0
InsertBound =
    (leader : ℕ) (xs ys : List Block) (b : Block) (base new : Tree) →
    FlexList leader (xs ++ ys) base → FlexList leader (xs ++ b ∷ ys) new →
    written base new ≤ nodes (to_place base (length xs)) + 2

-- A block whose content is changed takes a fresh identity and keeps its level; this writes exactly as many nodes as the path to it has.
abbrev pub ChangeBound : Type 0
ChangeBound =
    (leader : ℕ) (xs ys : List Block) (b c : Block) (base new : Tree) →
    FlexList leader (xs ++ b ∷ ys) base → FlexList leader (xs ++ c ∷ ys) new →
    c.level ≡ b.level → (Among c.identity (identities base) → ⊥) →
    written base new ≡ nodes (to_place base (suc (length xs)))

-- A block taken out writes fewer nodes than lie on its path and on that of its left neighbour together.
abbrev pub RemovalBound : Type 0
RemovalBound =
    (leader : ℕ) (xs ys : List Block) (b : Block) (base new : Tree) →
    FlexList leader (xs ++ b ∷ ys) base → FlexList leader (xs ++ ys) new →
    written base new < nodes_of_both (to_place base (length xs)) (to_place base (suc (length xs)))
