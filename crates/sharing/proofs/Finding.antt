-- Looking through remembered numbers, newest first. Assumes nothing.
use Rattle.std.proofs.Common.{Bool, true, false, cond, subst, ◌≡◌, ℕ, zero, suc, ◌+◌, List, [], ◌∷◌, drop, Some, None, Option, sym, refl, ap, ◌∙◌, inl, inr, add-one, arith}
use Rattle.std.specs.List.{slice_get}
use Rattle.sharing.specs.declared.recent.Recent.{Recent}
use Rattle.sharing.specs.Remembering.{First, remembered, candidates, is_sized}

module _ {R : Type 0} (rows : List (List R)) (row : List R) where
  pub first_none : (bs : List ℕ) (age : ℕ) → None ≡ slice_get bs age → First rows row (drop age bs) None
  first_none [] zero h = refl
  first_none [] (suc age) h = refl
  first_none (b ∷ bs) zero h = let z : ◌≡◌ {A = ℕ} 0 1 = cc in absurd (omega arith)
  first_none (b ∷ bs) (suc age) h = first_none bs age h

  pub first_here : (bs : List ℕ) (age b : ℕ) → Some b ≡ slice_get bs age → slice_get rows b ≡ Some row → First rows row (drop age bs) (Some b)
  first_here [] age b h e = let z : ◌≡◌ {A = ℕ} 0 1 = cc in absurd (omega arith)
  first_here (c ∷ bs) zero b h e = let same : b ≡ c = cc in inl (ap (slice_get rows) (sym same) ∙ e, h)
  first_here (c ∷ bs) (suc age) b h e = first_here bs age b h e

  later : (bs : List ℕ) (age b : ℕ) (r : Option ℕ) → Some b ≡ slice_get bs age → (slice_get rows b ≡ Some row → ⊥) → First rows row (drop (suc age) bs) r → First rows row (drop age bs) r
  later [] age b r h ne f = let z : ◌≡◌ {A = ℕ} 0 1 = cc in absurd (omega arith)
  later (c ∷ bs) zero b r h ne f = let same : b ≡ c = cc in inr (λ e. ne (ap (slice_get rows) same ∙ e), f)
  later (c ∷ bs) (suc age) b r h ne f = later bs age b r h ne f

  pub first_later : (bs : List ℕ) (age b : ℕ) (r : Option ℕ) → Some b ≡ slice_get bs age → (slice_get rows b ≡ Some row → ⊥) → First rows row (drop (age + 1) bs) r → First rows row (drop age bs) r
  first_later bs age b r h ne f = later bs age b r h ne (rw add-one at f)

-- by the row's length: none is found where it may be no block, and else what is found among all numbers
pub first_unsized : {R : Type 0} (rows : List (List R)) (row : List R) (r : Recent) → is_sized row ≡ false → First rows row (candidates row r) None
first_unsized rows row r e = subst (λ b. First rows row (cond b (remembered r) []) None) (sym e) refl

pub first_sized : {R : Type 0} (rows : List (List R)) (row : List R) (r : Recent) (o : Option ℕ) (b : Bool) → b ≡ is_sized row → b ≡ true → First rows row (remembered r) o → First rows row (candidates row r) o
first_sized rows row r o true e h f = subst (λ b. First rows row (cond b (remembered r) []) o) e f
first_sized rows row r o false e h f = cc
