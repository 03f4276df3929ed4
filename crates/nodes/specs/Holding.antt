-- What stands in a table of nodes for a laid tree, and what a walk over the table leaves. Assumes nothing.
use Rattle.std.specs.Prelude.{◌≡◌, ℕ, ◌+◌, ◌%◌, ◌^◌, ◌<◌, ◌≤◌, min, max, List, length, Some, None, Option}
use Rattle.std.specs.List.{slice_get}
use Rattle.summary.specs.Summing.{Summing, summary_of}
use Rattle.flexlist.specs.Nodes.{leaves}
pub use Rattle.flexlist.specs.Edits.{Content}
use Rattle.nodes.specs.declared.node.Node.{Node}
use Rattle.nodes.specs.declared.node.Shape.TheVariants.{Leaf, Fork}
use Rattle.flexlist.specs.Laid.{Laid, last, leaf, fork, plain, root, leader}

-- how many blocks a leaf of so many readings counts as: the lead has none
abbrev pub own_blocks : ℕ → ℕ
own_blocks n = min 1 n

module _ {R Q : Type 0} (s : Summing R Q) where
  -- a leaf's node, from its block and what follows it: an entry and the node there. It keeps the summary of its own row beside that of its stretch.
  abbrev pub leaf_node : Content R → Option (ℕ × Node Q) → Node Q
  leaf_node c None = record {
    shape = Leaf c.number (length c.row) None;
    readings = length c.row % 2 ^ 32;
    blocks = own_blocks (length c.row);
    summary = summary_of s c.row;
    row = summary_of s c.row;
  }
  leaf_node c (Some n) = record {
    shape = Leaf c.number (length c.row) (Some n.0);
    readings = (length c.row + n.1.readings) % 2 ^ 32;
    blocks = (own_blocks (length c.row) + n.1.blocks) % 2 ^ 32;
    summary = s.join (summary_of s c.row) n.1.summary;
    row = summary_of s c.row;
  }

  -- a fork's node, from what is below and after it; it has no row of its own
  abbrev pub fork_node : ℕ → ℕ × Node Q → ℕ × Node Q → Node Q
  fork_node m x y = record {
    shape = Fork m x.0 y.0;
    readings = (x.1.readings + y.1.readings) % 2 ^ 32;
    blocks = (x.1.blocks + y.1.blocks) % 2 ^ 32;
    summary = s.join x.1.summary y.1.summary;
    row = s.none;
  }

  -- the node that must stand at the root of a laid tree, where c says what each identity's block holds
  unfoldable pub node_of : (ℕ → Content R) → Laid → Node Q
  node_of c (last e a) = leaf_node (c a) None
  node_of c (leaf e a t) = leaf_node (c a) (Some (root t, node_of c t))
  node_of c (fork e m x y) = fork_node m (root x, node_of c x) (root y, node_of c y)

  -- the table holds the tree: each node stands at its entry, and its parts below it
  abbrev pub Holds : (ℕ → Content R) → List (Node Q) → Laid → Type 0
  Holds c table (last e a) = slice_get table e ≡ Some (node_of c (last e a))
  Holds c table (leaf e a t) = (slice_get table e ≡ Some (node_of c (leaf e a t))) × (root t < e) × Holds c table t
  Holds c table (fork e m x y) = (slice_get table e ≡ Some (node_of c (fork e m x y))) × (root x < e) × (root y < e) × Holds c table x × Holds c table y

-- how many entries of a table are used at most
abbrev pub capacity : {A : Type 0} → List A → ℕ
capacity table = min 60000 (length table)

-- what a walk left of a table: entries below `used` and from `next` on stay
pub record WritesFreeOnly {A : Type 0} (before : List A) (used : ℕ) (after : List A) (next : ℕ) : Type 0 where
  pub more : used ≤ next
  pub kept : (k : ℕ) → k < used → slice_get after k ≡ slice_get before k
  pub rest : (k : ℕ) → next ≤ k → slice_get after k ≡ slice_get before k

-- What a walk takes and answers, whatever the table holds: it counts no entry that the table has not or that is past the most that are used, and a root past the entry where it began
-- is the last that it took, or the next free one.
pub record Bounds {A : Type 0} (before : List A) (used at root next : ℕ) : Type 0 where
  pub within : next ≤ max used (capacity before)
  pub newest : at < root → (used ≤ root) × (root ≤ next) × (next ≤ root + 1)

-- nothing written, and the root that was
abbrev pub AsItWas : {A : Type 0} → List A → ℕ → ℕ → List A → ℕ → ℕ → Type 0
AsItWas before used at after root next = (after ≡ before) × (root ≡ at) × (next ≡ used)

-- each leaf but the leader's is of a block with readings; the leader may be the lead; and there are fewer leaves than 2 ^ 32
abbrev pub BlocksAfter : {R : Type 0} → (ℕ → Content R) → Laid → Type 0
BlocksAfter c (last e a) = Unit {0}
BlocksAfter c (leaf e a t) = (1 ≤ length (c (leader t)).row) × BlocksAfter c t
BlocksAfter c (fork e m x y) = BlocksAfter c x × (1 ≤ length (c (leader y)).row) × BlocksAfter c y

pub record Counted {R : Type 0} (c : ℕ → Content R) (t : Laid) : Type 0 where
  pub solid : BlocksAfter c t
  pub few : leaves (plain t) < 2 ^ 32
