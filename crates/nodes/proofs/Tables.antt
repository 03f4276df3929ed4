-- What a write leaves of a table. Assumes nothing.
use Rattle.std.proofs.Common.{◌≡◌, ℕ, zero, suc, ◌+◌, ◌<◌, ◌≤◌, List, [], ◌∷◌, length, set, Some, Option, refl, ap, ap₂, ◌∙◌, ⊎_elim, arith}
use Rattle.std.specs.List.{slice_get}
use Rattle.std.proofs.lemmas.Bool.{cases_lt}
use Rattle.nodes.specs.Holding.{WritesFreeOnly, Bounds, capacity}

module _ {A : Type 0} where
  pub nth_set_same : (xs : List A) (k : ℕ) (x : A) → k < length xs → slice_get (set xs k x) k ≡ Some x
  nth_set_same [] k x h = absurd (omega arith)
  nth_set_same (y ∷ ys) zero x h = refl
  nth_set_same (y ∷ ys) (suc k) x h = nth_set_same ys k x (omega arith)

  pub nth_set_other : (xs : List A) (k j : ℕ) (x : A) → (j ≡ k → ⊥) → slice_get (set xs k x) j ≡ slice_get xs j
  nth_set_other [] k j x h = refl
  nth_set_other (y ∷ ys) zero zero x h = absurd (h refl)
  nth_set_other (y ∷ ys) zero (suc j) x h = refl
  nth_set_other (y ∷ ys) (suc k) zero x h = refl
  nth_set_other (y ∷ ys) (suc k) (suc j) x h = nth_set_other ys k j x (λ e. h (ap suc e))

  pub grown_set : (xs : List A) (used : ℕ) (x : A) → WritesFreeOnly xs used (set xs used x) (used + 1)
  grown_set xs used x = record {
    more = omega arith;
    kept = λ k h. nth_set_other xs used k x (λ e. absurd (omega arith));
    rest = λ k h. nth_set_other xs used k x (λ e. absurd (omega arith));
  }

  pub grown_none : (xs : List A) (used : ℕ) → WritesFreeOnly xs used xs used
  grown_none xs used = record { more = omega arith; kept = λ k h. refl; rest = λ k h. refl }

  -- one walk after another
  pub grown_then : {xs ys zs : List A} {u v w : ℕ} → WritesFreeOnly xs u ys v → WritesFreeOnly ys v zs w → WritesFreeOnly xs u zs w
  grown_then {u = u} {v = v} {w = w} f g =
      let a = f.more in
      let b = g.more in
      record {
        more = omega arith;
        kept = λ k h. g.kept k (omega arith) ∙ f.kept k h;
        rest = λ k h. g.rest k h ∙ f.rest k (omega arith);
      }

  -- lists of one length that have the same at every place
  same_gets : (xs ys : List A) → length xs ≡ length ys → ((k : ℕ) → slice_get xs k ≡ slice_get ys k) → xs ≡ ys
  same_gets [] [] e f = refl
  same_gets [] (y ∷ ys) e f = absurd (omega arith)
  same_gets (x ∷ xs) [] e f = absurd (omega arith)
  same_gets (x ∷ xs) (y ∷ ys) e f =
      let first : ◌≡◌ {A = Option A} (Some x) (Some y) = f 0 in
      let same : x ≡ y = cc in
      ap₂ (λ a l. a ∷ l) same (same_gets xs ys (omega arith) (λ k. f (suc k)))

  -- with no free entry a walk changes nothing
  pub grown_full : {xs ys : List A} {used at root next : ℕ} → WritesFreeOnly xs used ys next → Bounds xs used at root next → length ys ≡ length xs → capacity xs ≤ used → (ys ≡ xs) × (next ≡ used)
  grown_full {xs} {ys} {used} {next = next} g b size full =
      let more = g.more in
      let within = b.within in
      let same : next ≡ used = omega arith in
      (same_gets ys xs size (λ k. ⊎_elim (λ l. g.kept k l) (λ m. g.rest k (omega arith)) (cases_lt k used)), same)
