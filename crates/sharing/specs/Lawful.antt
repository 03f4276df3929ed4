-- The layer keeps the laws of a store over every store that does. Assumes nothing.
use Rattle.std.proofs.Common.{◌≡◌, ℕ, Bool, true, false, cond, nat_le, List, [], ◌∷◌, length, Some, None, Ok, Err, Option, Result, refl, ap, ◌∙◌, inl, inr, arith}
use Rattle.std.proofs.Common.{ap₂}
use Rattle.std.specs.List.{slice_get}
use Rattle.std.proofs.lemmas.Bool.{and_parts, leb-true}
use Rattle.store.specs.declared.cause.Cause.{Cause}
use Rattle.store.specs.Interface.{Put, earlier}
use Rattle.sharing.specs.declared.recent.Recent.{Recent}
use Rattle.sharing.specs.declared.sharing.Sharing.{Sharing}
use Rattle.sharing.specs.Remembering.{remembered, candidates, is_sized, First, Unknown}
use Rattle.sharing.specs.Sharings.{shared_rows, shared_refuses, shared_long, Answered, Layered}

module _ {R : Type 0} (rows : List (List R)) (row : List R) where
  -- what was found is the row; where nothing was, no number has it
  found_row : (bs : List ℕ) (n : ℕ) → First rows row bs (Some n) → slice_get rows n ≡ Some row
  found_row [] n f = let z : ◌≡◌ {A = ℕ} 0 1 = cc in absurd (omega arith)
  found_row (b ∷ bs) n (inl (e, s)) = let same : n ≡ b = cc in ap (slice_get rows) same ∙ e
  found_row (b ∷ bs) n (inr (ne, f)) = found_row bs n f

  none_known : (bs : List ℕ) → First rows row bs None → Unknown rows row bs
  none_known [] f = tt
  none_known (b ∷ bs) (inl (e, s)) = let z : ◌≡◌ {A = ℕ} 0 1 = cc in absurd (omega arith)
  none_known (b ∷ bs) (inr (ne, f)) = (ne, none_known bs f)

  known : (bs : List ℕ) (n : ℕ) → First rows row bs (Some n) → Unknown rows row bs → ⊥
  known [] n f u = let z : ◌≡◌ {A = ℕ} 0 1 = cc in omega arith
  known (b ∷ bs) n (inl (e, s)) u = u.0 e
  known (b ∷ bs) n (inr (ne, f)) u = known bs n f u.1

  -- a row that is found among its candidates is as long as a block may be
  sized : (b : Bool) (bs : List ℕ) (n : ℕ) → First rows row (cond b bs []) (Some n) → b ≡ true
  sized true bs n f = refl
  sized false bs n f = let w : ◌≡◌ {A = Option ℕ} (Some n) None = f in cc

module _ {S R : Type 0} (rows : S → List (List R)) (refuses : S → List R → Cause → Type 0) (area_long : S → ℕ) (puts : S → List R → Result ℕ Cause → S → Type 0)
    (lawful : (s : S) (row : List R) (r : Result ℕ Cause) (t : S) → puts s row r t → Put rows refuses area_long s row r t) where
  pub layer_lawful : (s : Sharing S) (row : List R) (r : Result ℕ Cause) (t : Sharing S) → Layered rows puts s row r t →
      Put (shared_rows rows) (shared_refuses rows refuses) (shared_long area_long) s row r t
  layer_lawful s row r t done = by done.found done.first r done.answered
    where
      by : (found : Option ℕ) → First (rows s.below) row (candidates row s.recent) found → (r : Result ℕ Cause) → Answered rows puts s row found r t →
          Put (shared_rows rows) (shared_refuses rows refuses) (shared_long area_long) s row r t
      by (Some n) first (Ok m) (answer, same) =
          let w : ◌≡◌ {A = Result ℕ Cause} (Ok m) (Ok n) = answer in
          let number : m ≡ n = cc in
          let fit : is_sized row ≡ true = sized (rows s.below) row (is_sized row) (remembered s.recent) n first in
          let l = and_parts (nat_le 1 (length row)) (nat_le (length row) 1024) fit in
          record {
            fits = λ c u. known (rows s.below) row (candidates row s.recent) n first u.0;
            some = leb-true _ _ l.0;
            most = leb-true _ _ l.1;
            placed = earlier (ap (λ x. rows x.below) same) (ap (slice_get (rows s.below)) number ∙ found_row (rows s.below) row (candidates row s.recent) n first);
            same_area = ap (λ x. area_long x.below) same;
          }
      by (Some n) first (Err c) (answer, same) = let w : ◌≡◌ {A = Result ℕ Cause} (Err c) (Ok n) = answer in cc
      by None first (Ok m) passed =
          let p = lawful s.below row (Ok m) t.below passed.below in
          record { fits = λ c u. p.fits c u.1; some = p.some; most = p.most; placed = p.placed; same_area = p.same_area }
      by None first (Err c) passed =
          let p = lawful s.below row (Err c) t.below passed.below in
          record {
            one = record { cause = (none_known (rows s.below) row (candidates row s.recent) first, p.one.cause); only = λ d u. p.one.only d u.1 };
            kept = ap₂ (λ (b : S) (r : Recent). let x : Sharing S = record { below = b; recent = r } in x) p.kept passed.table;
          }
