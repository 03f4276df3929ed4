-- Piles: layers to any depth over any store. Assumes nothing.
use Rattle.std.specs.Prelude.{◌≡◌, ℕ, zero, suc, List, [], ◌++◌, Some, None, Ok, Option, Result}
use Rattle.store.specs.declared.cause.Cause.{Cause}
use Rattle.sharing.specs.declared.sharing.Sharing.{Sharing}
use Rattle.sharing.specs.Remembering.{candidates, First, Unknown}
use Rattle.sharing.specs.Sharings.{shared_rows, shared_refuses, shared_long, Layered}

-- n layers over S
abbrev pub Layers : ℕ → Type 0 → Type 0
Layers zero S = S
Layers (suc n) S = Sharing (Layers n S)

abbrev pub bottom : {S : Type 0} (n : ℕ) → Layers n S → S
bottom zero s = s
bottom (suc n) s = bottom n s.below

-- the numbers that a row is compared with in all layers, the uppermost layer first and the newest number of each first
abbrev pub numbers : {R : Type 0} → List R → (S : Type 0) (n : ℕ) → Layers n S → List ℕ
numbers row S zero s = []
numbers row S (suc n) s = candidates row s.recent ++ numbers row S n s.below

-- how long the pile's area is, layer by layer
abbrev pub pile_long : {S : Type 0} → (S → ℕ) → (n : ℕ) → Layers n S → ℕ
pile_long area_long zero s = area_long s
pile_long area_long (suc n) s = shared_long (pile_long area_long n) s

module _ {S R : Type 0} (rows : S → List (List R)) where
  -- the pile's list, what refuses a row and what a put does, layer by layer
  abbrev pub pile_rows : (n : ℕ) → Layers n S → List (List R)
  pile_rows zero s = rows s
  pile_rows (suc n) s = shared_rows (pile_rows n) s

  abbrev pub pile_refuses : (S → List R → Cause → Type 0) → (n : ℕ) → Layers n S → List R → Cause → Type 0
  pile_refuses refuses zero s row c = refuses s row c
  pile_refuses refuses (suc n) s row c = shared_refuses (pile_rows n) (pile_refuses refuses n) s row c

  abbrev pub pile_puts : (S → List R → Result ℕ Cause → S → Type 0) → (n : ℕ) → Layers n S → List R → Result ℕ Cause → Layers n S → Type 0
  pile_puts puts zero s row r t = puts s row r t
  pile_puts puts (suc n) s row r t = Layered (pile_rows n) (pile_puts puts n) s row r t

  -- what a put to the pile does to the store at its bottom: nothing, where a layer has a number of the row, and else one put of the store's own
  abbrev pub BottomPut : (S → List R → Result ℕ Cause → S → Type 0) → S → List R → Option ℕ → Result ℕ Cause → S → Type 0
  BottomPut puts s row (Some m) r t = (r ≡ Ok m) × (t ≡ s)
  BottomPut puts s row None r t = puts s row r t

  module _ (refuses : S → List R → Cause → Type 0) (puts : S → List R → Result ℕ Cause → S → Type 0) where
    -- A put to a pile of n layers: the first number of the row in all layers answers it; where there is none, the store's own put does, once.
    pub record PilePut (n : ℕ) (s : Layers n S) (row : List R) (r : Result ℕ Cause) (t : Layers n S) : Type 0 where
      pub found : Option ℕ
      pub first : First (rows (bottom n s)) row (numbers row S n s) found
      pub answered : BottomPut puts (bottom n s) row found r (bottom n t)

    -- Of every pile: its list is the store's, its area is the store's; a row is refused exactly where no layer remembers it and the store refuses it;
    -- and a put puts into the store once or not at all.
    pub record Piled (area_long : S → ℕ) : Type 0 where
      pub list : (n : ℕ) (s : Layers n S) → pile_rows n s ≡ rows (bottom n s)
      pub area : (n : ℕ) (s : Layers n S) → pile_long area_long n s ≡ area_long (bottom n s)
      pub refused : (n : ℕ) (s : Layers n S) (row : List R) (c : Cause) → pile_refuses refuses n s row c →
          Unknown (rows (bottom n s)) row (numbers row S n s) × refuses (bottom n s) row c
      pub back : (n : ℕ) (s : Layers n S) (row : List R) (c : Cause) → Unknown (rows (bottom n s)) row (numbers row S n s) → refuses (bottom n s) row c →
          pile_refuses refuses n s row c
      pub put : (n : ℕ) (s : Layers n S) (row : List R) (r : Result ℕ Cause) (t : Layers n S) → pile_puts puts n s row r t → PilePut n s row r t
