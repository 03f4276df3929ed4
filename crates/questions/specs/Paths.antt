-- What counting the nodes of paths answers. Assumes nothing.
use Rattle.std.specs.Prelude.{◌≡◌, ℕ, suc, ◌+◌, ◌^◌, ◌<◌, List, Some, None, Option}
use Rattle.flexlist.specs.Nodes.{nodes, nodes_of_both, leaves, to_place}
use Rattle.summary.specs.Summing.{Summing}
use Rattle.nodes.specs.declared.node.Node.{Node}
use Rattle.flexlist.specs.Laid.{Laid, plain}
use Rattle.nodes.specs.Holding.{Content, Counted}
use Rattle.nodes.specs.Walking.{CountedTo}
use Rattle.questions.specs.Readings.{Stands}

-- The path to the block to which `upto` blocks lead, in every tree that the table holds there.
abbrev pub PathCounted : {R Q : Type 0} → Summing R Q → List (Node Q) → ℕ → ℕ → Option ℕ → Type 0
PathCounted {R} s table at upto r =
    (c : ℕ → Content R) (t : Laid) (place : ℕ) → Stands s c table at t → Counted c t → CountedTo c t place upto →
    r ≡ Some (nodes (to_place (plain t) place))

-- No path where there is no such block.
abbrev pub PathAbsent : {R Q : Type 0} → Summing R Q → List (Node Q) → ℕ → ℕ → Option ℕ → Type 0
PathAbsent {R} s table at upto r =
    (c : ℕ → Content R) (t : Laid) → Stands s c table at t → Counted c t → ((place : ℕ) → ¬ CountedTo c t place upto) → r ≡ None

-- How many nodes lie on the path to that block, on its left neighbour's, or on both.
abbrev pub PathsCounted : {R Q : Type 0} → Summing R Q → List (Node Q) → ℕ → ℕ → Option ℕ → Type 0
PathsCounted {R} s table at upto r =
    (c : ℕ → Content R) (t : Laid) (place : ℕ) → Stands s c table at t → Counted c t → leaves (plain t) + 1 < 2 ^ 32 → CountedTo c t (suc place) upto →
    r ≡ Some (nodes_of_both (to_place (plain t) place) (to_place (plain t) (suc place)))

-- No paths where no block is before that one.
abbrev pub PathsFirst : {R Q : Type 0} → Summing R Q → List (Node Q) → ℕ → ℕ → Option ℕ → Type 0
PathsFirst {R} s table at upto r =
    (c : ℕ → Content R) (t : Laid) → Stands s c table at t → Counted c t → CountedTo c t 0 upto → r ≡ None

-- No paths where there is no such block, or none before it.
abbrev pub PathsAbsent : {R Q : Type 0} → Summing R Q → List (Node Q) → ℕ → ℕ → Option ℕ → Type 0
PathsAbsent {R} s table at upto r =
    (c : ℕ → Content R) (t : Laid) → Stands s c table at t → Counted c t → ((place : ℕ) → ¬ CountedTo c t (suc place) upto) → r ≡ None
