-- The sharing rule between two laid trees: which nodes of the new one are the base's, and where the others stand. Assumes nothing.
use Rattle.std.specs.Prelude.{ℕ, ◌+◌, ◌<◌, ◌≤◌, List, [], ◌∷◌, ◌++◌, ◌≡◌}
use Rattle.flexlist.specs.Nodes.{identities, stretches, Among}
use Rattle.flexlist.specs.Sharing.{written}
use Rattle.flexlist.specs.Building.{Plan, keep, new_last, new_leaf, new_fork, made, New, EachMade}
use Rattle.flexlist.specs.Laid.{Laid, last, leaf, fork, plain, plain_plan, lay}

-- a node of a laid tree: its stretch and its entry
pub record PlacedNode : Type 0 where
  pub stretch : List ℕ
  pub entry : ℕ

-- the nodes of a laid tree
abbrev pub placed_nodes : Laid → List PlacedNode
placed_nodes (last e a) = record { stretch = a ∷ []; entry = e } ∷ []
placed_nodes (leaf e a t) = record { stretch = a ∷ identities (plain t); entry = e } ∷ placed_nodes t
placed_nodes (fork e m s t) = record { stretch = identities (plain s) ++ identities (plain t); entry = e } ∷ (placed_nodes s ++ placed_nodes t)

-- no two nodes have one entry
abbrev pub OwnEntries : Laid → Type 0
OwnEntries t = (x y : PlacedNode) → Among x (placed_nodes t) → Among y (placed_nodes t) → x.entry ≡ y.entry → x ≡ y

-- all entries lie below u
abbrev pub Under : ℕ → Laid → Type 0
Under u t = (x : PlacedNode) → Among x (placed_nodes t) → x.entry < u

-- The rule, for entries free from u on and taken up to top: a node of the new tree over a stretch that the base has is the base's node; every other
-- has an entry of its own among u to top - 1, all of these are used, and there are as many as the rule counts.
pub record Shared (base new : Laid) (u top : ℕ) : Type 0 where
  pub old : (x : PlacedNode) → Among x (placed_nodes new) → Among x.stretch (stretches (plain base)) → Among x (placed_nodes base)
  pub low : (x : PlacedNode) → Among x (placed_nodes new) → New (stretches (plain base)) x.stretch → u ≤ x.entry
  pub high : (x : PlacedNode) → Among x (placed_nodes new) → x.entry < top
  pub all : (k : ℕ) → u ≤ k → k < top → (x : PlacedNode) × Among x (placed_nodes new) × (x.entry ≡ k) × New (stretches (plain base)) x.stretch
  pub own : OwnEntries new
  pub exact : top ≡ u + written (plain base) (plain new)

-- every piece that a plan keeps has its nodes from the base, at their entries
abbrev pub KeepsPlacedNodes : Laid → Plan Laid → Type 0
KeepsPlacedNodes base (keep t) = (x : PlacedNode) → Among x (placed_nodes t) → Among x (placed_nodes base)
KeepsPlacedNodes base (new_last a) = Unit {0}
KeepsPlacedNodes base (new_leaf a x) = KeepsPlacedNodes base x
KeepsPlacedNodes base (new_fork m x y) = KeepsPlacedNodes base x × KeepsPlacedNodes base y

-- A plan that keeps pieces of the base, and makes only nodes that the base lacks, is laid by the rule.
abbrev pub LayingShares : Type 0
LayingShares =
    (base : Laid) (plan : Plan Laid) (u : ℕ) → OwnEntries base → Under u base → KeepsPlacedNodes base plan →
    EachMade (New (stretches (plain base))) (plain_plan plan) → Shared base (lay plan u) u (u + made plan)
