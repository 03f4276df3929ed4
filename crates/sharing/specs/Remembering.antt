-- The table of remembered block numbers, newest first, and the first of them that equals a row. Assumes nothing.
use Rattle.std.specs.Prelude.{◌≡◌, ℕ, ◌⊎◌, Bool, cond, ◌&&◌, nat_le, List, [], ◌∷◌, ◌++◌, map, reverse, length, take, drop, Some, None, Option, ◌≢◌}
use Rattle.std.specs.List.{slice_get}
use Rattle.sharing.specs.declared.recent.Entry.{Entry}
use Rattle.sharing.specs.declared.recent.Recent.{Recent}

-- the entries from the one written last to the one that is written next
abbrev pub backwards : List Entry → ℕ → List Entry
backwards entries next = reverse (take next entries) ++ reverse (drop next entries)

-- the block numbers in use, newest first
abbrev pub remembered : Recent → List ℕ
remembered r = map (λ (e : Entry). e.block) (take r.held (backwards r.entries r.next))

-- of the numbers bs, the first whose block in `rows` is the row
abbrev pub First : {R : Type 0} → List (List R) → List R → List ℕ → Option ℕ → Type 0
First rows row [] r = r ≡ None
First rows row (b ∷ bs) r = ((slice_get rows b ≡ Some row) × (r ≡ Some b)) ⊎ ((slice_get rows b ≢ Some row) × First rows row bs r)

-- none of the numbers bs has the row
abbrev pub Unknown : {R : Type 0} → List (List R) → List R → List ℕ → Type 0
Unknown rows row [] = Unit {0}
Unknown rows row (b ∷ bs) = (slice_get rows b ≢ Some row) × Unknown rows row bs

-- may a row be a block, by its length?
abbrev pub is_sized : {R : Type 0} → List R → Bool
is_sized row = nat_le 1 (length row) && nat_le (length row) 1024

-- the numbers that a row is compared with, newest first: all that are remembered, and none where the row may be no block
abbrev pub candidates : {R : Type 0} → List R → Recent → List ℕ
candidates row r = cond (is_sized row) (remembered r) []
