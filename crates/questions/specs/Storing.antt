-- A tree's blocks in a store's list of rows. Assumes nothing.
use Rattle.std.specs.Prelude.{◌≡◌, ℕ, ◌<◌, List, length, Some}
use Rattle.std.specs.List.{slice_get}
use Rattle.flexlist.specs.Laid.{Laid, last, leaf, fork}
use Rattle.nodes.specs.Holding.{Content}

-- the row that stands in a list of rows under a block's number; the lead, which has no reading, stands in none
abbrev pub Stored : {R : Type 0} → List (List R) → Content R → Type 0
Stored rows c = 0 < length c.row → slice_get rows c.number ≡ Some c.row

-- every block of a laid tree stands in the list of rows under its number
abbrev pub AllStored : {R : Type 0} → List (List R) → (ℕ → Content R) → Laid → Type 0
AllStored rows c (last e a) = Stored rows (c a)
AllStored rows c (leaf e a t) = Stored rows (c a) × AllStored rows c t
AllStored rows c (fork e m x y) = AllStored rows c x × AllStored rows c y
