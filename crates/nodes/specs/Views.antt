-- What a walk sees at an entry, what it writes, and what a write leaves. Assumes nothing.
use Rattle.std.specs.Prelude.{◌≡◌, ℕ, ◌+◌, ◌<◌, ◌≤◌, min, max, Bool, true, cond, ◌&&◌, List, length, Some, None, Option, nat_lt}
use Rattle.std.specs.List.{slice_get}
use Rattle.summary.specs.Summing.{Summing}
use Rattle.nodes.specs.declared.node.Node.{Node}
use Rattle.nodes.specs.declared.node.Block.{Block}
use Rattle.nodes.specs.declared.node.Shape.{Shape}
use Rattle.nodes.specs.declared.node.Shape.TheVariants.{Leaf, Fork}
use Rattle.nodes.specs.Holding.{WritesFreeOnly, capacity}

-- whether the parts of a shape stand below entry e
abbrev pub parts_below : ℕ → Shape → Bool
parts_below e (Leaf block length None) = true
parts_below e (Leaf block length (Some after)) = nat_lt after e
parts_below e (Fork level below after) = nat_lt below e && nat_lt after e

-- a shape seen at entry e: its parts must stand below it
abbrev pub shape_seen : ℕ → Shape → Option Shape
shape_seen e shape = cond (parts_below e shape) (Some shape) None

-- what is seen at entry e
abbrev pub seen : {Q : Type 0} → ℕ → Option (Node Q) → Option Shape
seen e None = None
seen e (Some n) = shape_seen e n.shape

-- how many blocks the node at an entry counts, 0 where there is none
abbrev pub blocks_in : {Q : Type 0} → Option (Node Q) → ℕ
blocks_in None = 0
blocks_in (Some n) = n.blocks

-- how many readings, likewise
abbrev pub readings_in : {Q : Type 0} → Option (Node Q) → ℕ
readings_in None = 0
readings_in (Some n) = n.readings

-- the summary of its own row that the node at an entry keeps, that of no reading where there is none
abbrev pub row_in : {R Q : Type 0} → Summing R Q → Option (Node Q) → Q
row_in s None = s.none
row_in s (Some n) = n.row

-- the block of a leaf's entry, by the number and length seen there
abbrev pub kept_in : {R Q : Type 0} → Summing R Q → ℕ → ℕ → Option (Node Q) → Block Q
kept_in s number len entry = record { number = number; length = len; row = row_in s entry }

-- A node written at the entry `used`: the table grew by it, where there is room and a next entry has a number; else nothing is counted.
pub record Wrote {Q : Type 0} (before : List (Node Q)) (used : ℕ) (node : Node Q) (after : List (Node Q)) (next : ℕ) : Type 0 where
  pub free_only : WritesFreeOnly before used after next
  pub one : next ≤ max used (min (used + 1) (capacity before))
  pub there : used < capacity before → (slice_get after used ≡ Some node) × (next ≡ used + 1)
