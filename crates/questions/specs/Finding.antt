-- The block that has a reading, and that reading. Assumes nothing.
use Rattle.std.specs.Prelude.{◌≡◌, ℕ, ◌<◌, ◌≤◌, List, length, Some, None, Option, slice_index}
use Rattle.std.specs.List.{slice_get}
use Rattle.flexlist.specs.Nodes.{identities, leaves, nodes, to_place}
use Rattle.summary.specs.Summing.{Summing}
use Rattle.nodes.specs.declared.node.Node.{Node}
use Rattle.flexlist.specs.Laid.{Laid, plain}
use Rattle.nodes.specs.Holding.{Content}
use Rattle.questions.specs.Storing.{AllStored}
use Rattle.questions.specs.declared.found.Found.{Found}
use Rattle.questions.specs.declared.found.Answer.{Answer}
use Rattle.questions.specs.Readings.{row_with, rows_of, readings_of, Small, Stands}

-- what the block at a place of a tree holds
abbrev pub block_at : {R : Type 0} → (ℕ → Content R) → Laid → ℕ → Content R
block_at c t k = c (slice_index (identities (plain t)) k)

-- a reading of a tree found in the block at place k: its number, the place in its row, and the path to it
pub record FoundAt {R : Type 0} (c : ℕ → Content R) (t : Laid) (position : ℕ) (f : Found) (k : ℕ) : Type 0 where
  pub there : k < leaves (plain t)
  pub block : f.block ≡ (block_at c t k).number
  pub within : f.place < length (block_at c t k).row
  pub same : slice_get (block_at c t k).row f.place ≡ slice_get (readings_of c t) position
  pub path : f.path ≡ nodes (to_place (plain t) k)

-- a position found in the row that has it, or not found past the end
abbrev pub FoundIn : {R : Type 0} → (ℕ → Content R) → Laid → ℕ → Option Found → Type 0
FoundIn c t position None = length (readings_of c t) ≤ position
FoundIn c t position (Some f) = FoundAt c t position f (row_with (rows_of c t) position)

abbrev pub Finds : {R Q : Type 0} → Summing R Q → List (Node Q) → ℕ → ℕ → Option Found → Type 0
Finds {R} s table at position r = (c : ℕ → Content R) (t : Laid) → Stands s c table at t → Small c t → FoundIn c t position r

-- what was read at a position, with how many nodes lead to the block that has it; or none past the end
abbrev pub Answers : {R : Type 0} → (ℕ → Content R) → Laid → ℕ → Option (Answer R) → Type 0
Answers c t position None = length (readings_of c t) ≤ position
Answers c t position (Some r) = (slice_get (readings_of c t) position ≡ Some r.reading) × (r.path ≡ nodes (to_place (plain t) (row_with (rows_of c t) position)))

abbrev pub Reads : {R Q : Type 0} → Summing R Q → List (List R) → List (Node Q) → ℕ → ℕ → Option (Answer R) → Type 0
Reads {R} s rows table at position r = (c : ℕ → Content R) (t : Laid) → Stands s c table at t → AllStored rows c t → Small c t → Answers c t position r
