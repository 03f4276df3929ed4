-- The sharing layer: its list and its area are those below; a row that equals a remembered block is that block, and any other goes below, once.
-- Assumes nothing.
use Rattle.std.specs.Prelude.{◌≡◌, ℕ, List, ◌∷◌, take, Some, None, Ok, Err, Option, Result}
use Rattle.store.specs.declared.cause.Cause.{Cause}
use Rattle.sharing.specs.declared.recent.Recent.{Recent}
use Rattle.sharing.specs.declared.sharing.Sharing.{Sharing}
use Rattle.sharing.specs.Remembering.{remembered, candidates, First, Unknown}

-- the table after an answer from below: a number that was given is the newest of at most 32; a refusal leaves the table
abbrev pub Noted : Recent → Result ℕ Cause → Recent → Type 0
Noted before (Ok n) after = remembered after ≡ take 32 (n ∷ remembered before)
Noted before (Err c) after = after ≡ before

abbrev pub shared_rows : {S R : Type 0} → (S → List (List R)) → Sharing S → List (List R)
shared_rows rows s = rows s.below

abbrev pub shared_long : {S : Type 0} → (S → ℕ) → Sharing S → ℕ
shared_long area_long s = area_long s.below

module _ {S R : Type 0} (rows : S → List (List R)) where
  -- no remembered block equals the row, and the store below refuses it
  abbrev pub shared_refuses : (S → List R → Cause → Type 0) → Sharing S → List R → Cause → Type 0
  shared_refuses refuses s row c = Unknown (rows s.below) row (candidates row s.recent) × refuses s.below row c

  module _ (puts : S → List R → Result ℕ Cause → S → Type 0) where
    -- the row was put below, and the table has the number that came up
    pub record Passed (s : Sharing S) (row : List R) (r : Result ℕ Cause) (t : Sharing S) : Type 0 where
      pub below : puts s.below row r t.below
      pub table : Noted s.recent r t.recent

    -- by the first remembered block that equals the row, if any
    abbrev pub Answered : Sharing S → List R → Option ℕ → Result ℕ Cause → Sharing S → Type 0
    Answered s row (Some n) r t = (r ≡ Ok n) × (t ≡ s)
    Answered s row None r t = Passed s row r t

    -- What a put of the layer does: the newest remembered block that equals the row is answered, and nothing changes; where there is none, the row is
    -- put below, and what that answers is answered.
    pub record Layered (s : Sharing S) (row : List R) (r : Result ℕ Cause) (t : Sharing S) : Type 0 where
      pub found : Option ℕ
      pub first : First (rows s.below) row (candidates row s.recent) found
      pub answered : Answered s row found r t
