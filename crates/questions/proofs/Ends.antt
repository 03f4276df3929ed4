-- What is answered past what a node counts, and that a place up to there is one of the tree's. Assumes nothing.
use Rattle.std.proofs.Common.{ℕ, suc, ◌-◌, ◌<◌, ◌≤◌, List, length, None, Option, refl, ⊎_elim, arith}
use Rattle.std.specs.List.{slice_get}
use Rattle.std.proofs.lemmas.Bool.{cases_lt}
use Rattle.summary.specs.Summing.{Summing}
use Rattle.nodes.specs.declared.node.Node.{Node}
use Rattle.flexlist.specs.Laid.{Laid, plain, leader}
use Rattle.nodes.specs.Holding.{Content, own_blocks, Counted}
use Rattle.nodes.specs.Views.{blocks_in, readings_in}
use Rattle.nodes.specs.Walking.{CountedTo}
use Rattle.nodes.proofs.Held.{leaves_some}
use Rattle.questions.specs.Readings.{Stands}
use Rattle.questions.specs.Paths.{PathCounted, PathAbsent, PathsCounted, PathsAbsent, PathsFirst}
use Rattle.questions.specs.Finding.{Reads}
use Rattle.questions.proofs.Counts.{blocks_counted}
use Rattle.questions.proofs.Readings.{readings_counted}

module _ {R Q : Type 0} (s : Summing R Q) (table : List (Node Q)) (at upto : ℕ) where
  -- which place it is, of those that there are
  which : (c : ℕ → Content R) (t : Laid) → Stands s c table at t → Counted c t → upto ≤ blocks_in (slice_get table at) → CountedTo c t (upto - own_blocks (length (c (leader t)).row)) upto
  which c t h k u =
      let count = blocks_counted s c table at (blocks_in (slice_get table at)) t h k refl in
      let some = leaves_some (plain t) in
      (omega arith, refl)

  -- a place that is there is no further than the node counts
  no_further : (c : ℕ → Content R) (t : Laid) (place : ℕ) → Stands s c table at t → Counted c t → CountedTo c t place upto → blocks_in (slice_get table at) < upto → ⊥
  no_further c t place h k i u =
      let count = blocks_counted s c table at (blocks_in (slice_get table at)) t h k refl in
      let low = i.0 in
      let to = i.1 in
      omega arith

  pub path_further : blocks_in (slice_get table at) < upto → PathCounted s table at upto None
  path_further u c t place h k i = absurd (no_further c t place h k i u)

  pub paths_further : blocks_in (slice_get table at) < upto → PathsCounted s table at upto None
  paths_further u c t place h k few i = absurd (no_further c t (suc place) h k i u)

  pub path_within : (r : Option ℕ) → upto ≤ blocks_in (slice_get table at) → PathAbsent s table at upto r
  path_within r u c t h k n = absurd (n _ (which c t h k u))

  pub paths_within : (r : Option ℕ) → upto ≤ blocks_in (slice_get table at) → PathsFirst s table at upto r → PathsAbsent s table at upto r
  paths_within r u w c t h k n =
      let own = own_blocks (length (c (leader t)).row) in
      let i = which c t h k u in
      let low = i.0 in
      ⊎_elim
      (λ l. absurd (n (upto - own - 1) (omega arith, omega arith)))
      (λ g. w c t h k (leaves_some (plain t), omega arith))
      (cases_lt own upto)

module _ {R Q : Type 0} (s : Summing R Q) (rows : List (List R)) (table : List (Node Q)) (at position : ℕ) where
  pub read_past : readings_in (slice_get table at) ≤ position → Reads s rows table at position None
  read_past u c t h st k =
      let count = readings_counted s c table at (readings_in (slice_get table at)) t h k refl in
      omega arith
