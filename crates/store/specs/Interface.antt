-- What its calls answer and leave is said of a block store by its list of rows, which counts from 0, by what refuses a row now, and by how long its area is.
-- Assumes nothing.
use Rattle.std.specs.Prelude.{◌≡◌, ℕ, ◌+◌, ◌≤◌, List, [], ◌∷◌, ◌++◌, length, take, drop, cond, nat_le, Some, None, Ok, Err, Option, Result}
use Rattle.std.specs.List.{slice_get}
use Rattle.store.specs.declared.cause.Cause.{Cause}

-- Where a row that was taken stands: it is an earlier block, and the list stays; or it was added at the end, under the former count.
pub data Placed {R : Type 0} (before : List (List R)) (row : List R) (n : ℕ) (after : List (List R)) : Type 0 where
  earlier : after ≡ before → slice_get before n ≡ Some row → Placed before row n after
  added : after ≡ before ++ (row ∷ []) → n ≡ length before → Placed before row n after

module _ {S R : Type 0} (rows : S → List (List R)) (refuses : S → List R → Cause → Type 0) (area_long : S → ℕ) where
  -- a row that was taken, under the number n; the area is as long as it was
  pub record Taken (s : S) (row : List R) (n : ℕ) (t : S) : Type 0 where
    pub fits : (c : Cause) → refuses s row c → ⊥
    pub some : 1 ≤ length row
    pub most : length row ≤ 1024
    pub placed : Placed (rows s) row n (rows t)
    pub same_area : area_long t ≡ area_long s

  -- this cause refuses the row, and no other does
  pub record OneCause (s : S) (row : List R) (c : Cause) : Type 0 where
    pub cause : refuses s row c
    pub only : (d : Cause) → refuses s row d → d ≡ c

  -- a row that was refused with the cause c: nothing changes
  pub record Refused (s : S) (row : List R) (c : Cause) (t : S) : Type 0 where
    pub one : OneCause s row c
    pub kept : t ≡ s

  abbrev pub Put : S → List R → Result ℕ Cause → S → Type 0
  Put s row (Ok n) t = Taken s row n t
  Put s row (Err c) t = Refused s row c t

-- the length of a block that is there
abbrev pub size : {R : Type 0} → Option (List R) → Option ℕ
size None = None
size (Some row) = Some (length row)

-- one reading of a block that is there
abbrev pub reading_at : {R : Type 0} → Option (List R) → ℕ → Option R
reading_at None place = None
reading_at (Some row) place = slice_get row place

-- a slice over which the readings of a block that is there stand from a place on; where the block has not so many, the slice as it was
abbrev pub copied : {R : Type 0} → Option (List R) → ℕ → List R → List R
copied None from before = before
copied (Some row) from before = cond (nat_le (from + length before) (length row)) (take (length before) (drop from row)) before
