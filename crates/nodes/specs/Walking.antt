-- What a walk that builds a tree needs, and what it leaves. Assumes nothing.
use Rattle.std.specs.Prelude.{◌≡◌, ℕ, ◌+◌, ◌-◌, ◌<◌, ◌≤◌, None, List, length}
use Rattle.std.specs.List.{slice_get}
use Rattle.flexlist.specs.Building.{Plan, made}
use Rattle.flexlist.specs.Nodes.{leaves}
use Rattle.summary.specs.Summing.{Summing}
use Rattle.nodes.specs.declared.node.Node.{Node}
use Rattle.flexlist.specs.Laid.{Laid, plain, root, leader, lay}
use Rattle.nodes.specs.Holding.{Content, Holds, Bounds, AsItWas, capacity, Counted, own_blocks}
use Rattle.nodes.specs.Views.{seen, blocks_in}

module _ {R Q : Type 0} (s : Summing R Q) (c : ℕ → Content R) where
  -- the table holds the tree t, whose root is the entry `at`, below the free entries
  pub record Ready (table : List (Node Q)) (used at : ℕ) (t : Laid) : Type 0 where
    pub holds : Holds s c table t
    pub here : root t ≡ at
    pub under : root t < used
    pub counted : Counted c t

  -- there is room for all that the plan makes
  pub record Room (table : List (Node Q)) (used : ℕ) (plan : Plan Laid) : Type 0 where
    pub fits : used + made plan ≤ capacity table

  -- the plan was laid into the free entries: the table holds it, and the walk answered its root and the next free entry
  pub record LaidOut (used : ℕ) (plan : Plan Laid) (after : List (Node Q)) (at next : ℕ) : Type 0 where
    pub holds : Holds s c after (lay plan used)
    pub here : root (lay plan used) ≡ at
    pub under : root (lay plan used) < next
    pub used_up : next ≡ used + made plan

-- a place of a tree, by how many blocks stand up to it and with it: the lead counts as none, and none at all lead to the first place
abbrev pub CountedTo : {R : Type 0} → (ℕ → Content R) → Laid → ℕ → ℕ → Type 0
CountedTo c t place upto = (place < leaves (plain t)) × (place ≡ upto - own_blocks (length (c (leader t)).row))

-- what a walk to a place leaves, for every tree that the table holds where it starts: the plan of an edit at the place, laid out
abbrev pub Walked : {R Q : Type 0} → Summing R Q → (ℕ → Content R) → (Laid → ℕ → Plan Laid) → List (Node Q) → ℕ → ℕ → ℕ → List (Node Q) → ℕ → ℕ → Type 0
Walked s c edit before used at upto after root next =
    (t : Laid) (place : ℕ) → Ready s c before used at t → CountedTo c t place upto →
    Room s c before used (edit t place) → LaidOut s c used (edit t place) after root next

-- What an edit leaves of a table and answers, whatever the table holds: nothing is changed with no entry free, nor where the node at the entry
-- counts fewer blocks than lead to the place, or no walk can begin there.
pub record AnyTable {Q : Type 0} (before : List (Node Q)) (used at upto : ℕ) (after : List (Node Q)) (root next : ℕ) : Type 0 where
  pub bounds : Bounds before used at root next
  pub full : capacity before ≤ used → (after ≡ before) × (next ≡ used)
  pub past : blocks_in (slice_get before at) < upto → AsItWas before used at after root next
  pub unseen : seen at (slice_get before at) ≡ None → AsItWas before used at after root next
