-- What an edit costs by the sharing rule, and the bounds on it. Assumes nothing.
use Rattle.std.specs.Prelude.{◌≡◌, ℕ, suc, ◌+◌, ◌<◌, ◌≤◌, List, [], ◌∷◌, length}
use Rattle.flexlist.specs.Shape.{Tree, flexlist}
use Rattle.flexlist.specs.Nodes.{nodes, nodes_of_both, to_place}
use Rattle.flexlist.specs.Sharing.{written}
use Rattle.flexlist.specs.Edits.{Edit, insert, change, removal, Item, base_of, done, list_of, blocks_of}

module _ {R : Type 0} where
  -- the one FlexList of a version's blocks, led by the lead
  unfoldable pub shape : List (Item R) → Tree
  shape xs = flexlist 0 (blocks_of xs)

  -- the nodes on the path to a place of a version: 0 is the lead, i + 1 is block i
  unfoldable pub path : List (Item R) → ℕ → ℕ
  path xs p = nodes (to_place (shape xs) p)

  -- how many nodes lie on the path to block i, on that to its left neighbour, or on both
  unfoldable pub two_paths : List (Item R) → ℕ → ℕ
  two_paths xs i = nodes_of_both (to_place (shape xs) i) (to_place (shape xs) (suc i))

  -- the list that an edit gives next
  abbrev pub next_list : List (Edit R) → Edit R → List (Item R)
  next_list es e = done (suc (length es)) e (list_of es (base_of e))

  -- how many nodes the sharing rule has an edit write
  unfoldable pub written_by : List (Edit R) → Edit R → ℕ
  written_by es e = written (shape (list_of es (base_of e))) (shape (next_list es e))

  -- the nodes in use: the lead's leaf, and all that the edits wrote
  unfoldable pub node_count : List (Edit R) → ℕ
  node_count [] = 1
  node_count (e ∷ es) = node_count es + written_by es e

  -- the place is one of the base's
  abbrev pub InPlace : List (Edit R) → Edit R → Type 0
  InPlace es (insert base place level content) = place ≤ length (list_of es base)
  InPlace es (change base place content) = place < length (list_of es base)
  InPlace es (removal base place) = place < length (list_of es base)

  -- how many nodes an edit writes: two beyond its path at most, if it is an insert; its path, if it is a change; less than its two paths, if it is a removal
  abbrev pub WithinBound : List (Edit R) → Edit R → Type 0
  WithinBound es (insert base place level content) = written_by es (insert base place level content) ≤ path (list_of es base) place + 2
  WithinBound es (change base place content) = written_by es (change base place content) ≡ path (list_of es base) (suc place)
  WithinBound es (removal base place) = written_by es (removal base place) < two_paths (list_of es base) place

abbrev pub EditsBounded : Type 0 → Type 0
EditsBounded R = (es : List (Edit R)) (e : Edit R) → InPlace es e → WithinBound es e
