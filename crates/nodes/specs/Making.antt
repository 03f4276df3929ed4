-- A node made from a block or from its parts, and written at the next free entry. Assumes nothing.
use Rattle.std.specs.Prelude.{◌≡◌, ℕ, ◌+◌, ◌<◌, ◌≤◌, min, max, List, length, Some, None, Option}
use Rattle.std.specs.List.{slice_get}
use Rattle.summary.specs.Summing.{Summing, summary_of}
use Rattle.nodes.specs.declared.node.Node.{Node}
use Rattle.nodes.specs.declared.node.Block.{Block}
use Rattle.nodes.specs.Holding.{Content, WritesFreeOnly, capacity, leaf_node, fork_node}

module _ {R Q : Type 0} (s : Summing R Q) where
  -- what follows a leaf: nothing, or the node that stands at an entry
  abbrev pub Follows : List (Node Q) → Option ℕ → Option (ℕ × Node Q) → Type 0
  Follows table None None = Unit {0}
  Follows table None (Some n) = ⊥
  Follows table (Some e) None = ⊥
  Follows table (Some e) (Some n) = (e ≡ n.0) × (slice_get table e ≡ Some n.1)

  -- a block's number, its length and its row's summary, as its leaf keeps them
  pub record LeafOf (c : Content R) (block : Block Q) : Type 0 where
    pub number : block.number ≡ c.number
    pub size : block.length ≡ length c.row
    pub sum : block.row ≡ summary_of s c.row

  -- a leaf written at the entry `used`, for a block and what follows it
  pub record LeafWritten (before : List (Node Q)) (used : ℕ) (block : Block Q) (after : Option ℕ) (left : List (Node Q)) (next : ℕ) : Type 0 where
    pub free_only : WritesFreeOnly before used left next
    pub one : next ≤ max used (min (used + 1) (capacity before))
    pub there : used < capacity before → (c : Content R) → LeafOf c block → (n : Option (ℕ × Node Q)) → Follows before after n →
        (slice_get left used ≡ Some (leaf_node s c n)) × (next ≡ used + 1)

-- a fork written at the entry `used`, over the nodes that stand at two entries
pub record ForkWritten {R Q : Type 0} (s : Summing R Q) (before : List (Node Q)) (used level below after : ℕ) (left : List (Node Q)) (next : ℕ) : Type 0 where
  pub free_only : WritesFreeOnly before used left next
  pub one : next ≤ max used (min (used + 1) (capacity before))
  pub there : used < capacity before → (x y : Node Q) → slice_get before below ≡ Some x → slice_get before after ≡ Some y →
      (slice_get left used ≡ Some (fork_node s level (below, x) (after, y))) × (next ≡ used + 1)
