-- A pile of any depth, by recursion on its layers. Assumes nothing.
use Rattle.std.proofs.Common.{◌≡◌, ℕ, zero, suc, List, [], ◌∷◌, ◌++◌, Some, None, Option, Result, sym, refl, subst, inl, inr, ap}
use Rattle.store.specs.declared.cause.Cause.{Cause}
use Rattle.sharing.specs.Remembering.{candidates, First, Unknown}
use Rattle.sharing.specs.Sharings.{Answered}
use Rattle.sharing.specs.Piles.{Layers, bottom, numbers, pile_rows, pile_refuses, pile_puts, pile_long, PilePut, Piled}

one_area : {S : Type 0} (area_long : S → ℕ) (n : ℕ) (s : Layers n S) → pile_long area_long n s ≡ area_long (bottom n s)
one_area area_long zero s = refl
one_area area_long (suc n) s = one_area area_long n s.below

-- numbers of one layer, then those of the others
module _ {R : Type 0} (rows : List (List R)) (row : List R) where
  both_unknown : (bs cs : List ℕ) → Unknown rows row bs → Unknown rows row cs → Unknown rows row (bs ++ cs)
  both_unknown [] cs u v = v
  both_unknown (b ∷ bs) cs u v = (u.0, both_unknown bs cs u.1 v)

  first_unknown : (bs cs : List ℕ) → Unknown rows row (bs ++ cs) → Unknown rows row bs
  first_unknown [] cs u = tt
  first_unknown (b ∷ bs) cs u = (u.0, first_unknown bs cs u.1)

  rest_unknown : (bs cs : List ℕ) → Unknown rows row (bs ++ cs) → Unknown rows row cs
  rest_unknown [] cs u = u
  rest_unknown (b ∷ bs) cs u = rest_unknown bs cs u.1

  found_before : (bs cs : List ℕ) (m : ℕ) → First rows row bs (Some m) → First rows row (bs ++ cs) (Some m)
  found_before [] cs m f = let w : ◌≡◌ {A = Option ℕ} (Some m) None = f in cc
  found_before (b ∷ bs) cs m (inl (e, s)) = inl (e, s)
  found_before (b ∷ bs) cs m (inr (n, f)) = inr (n, found_before bs cs m f)

  found_after : (bs cs : List ℕ) (o : Option ℕ) → First rows row bs None → First rows row cs o → First rows row (bs ++ cs) o
  found_after [] cs o f g = g
  found_after (b ∷ bs) cs o (inl (e, s)) g = let w : ◌≡◌ {A = Option ℕ} None (Some b) = s in cc
  found_after (b ∷ bs) cs o (inr (n, f)) g = inr (n, found_after bs cs o f g)

module _ {S R : Type 0} (rows : S → List (List R)) where
  pub one_list : (n : ℕ) (s : Layers n S) → pile_rows rows n s ≡ rows (bottom n s)
  one_list zero s = refl
  one_list (suc n) s = one_list n s.below

  module _ (refuses : S → List R → Cause → Type 0) (puts : S → List R → Result ℕ Cause → S → Type 0) where
    pub down : (n : ℕ) (s : Layers n S) (row : List R) (c : Cause) → pile_refuses rows refuses n s row c →
        Unknown (rows (bottom n s)) row (numbers row S n s) × refuses (bottom n s) row c
    down zero s row c r = (tt, r)
    down (suc n) s row c r =
        let d = down n s.below row c r.1 in
        let u = subst (λ l. Unknown l row (candidates row s.recent)) (one_list n s.below) r.0 in
        (both_unknown (rows (bottom n s.below)) row (candidates row s.recent) (numbers row S n s.below) u d.0, d.1)

    pub up : (n : ℕ) (s : Layers n S) (row : List R) (c : Cause) → Unknown (rows (bottom n s)) row (numbers row S n s) → refuses (bottom n s) row c →
        pile_refuses rows refuses n s row c
    up zero s row c u r = r
    up (suc n) s row c u r =
        let l = rows (bottom n s.below) in
        let here = first_unknown l row (candidates row s.recent) (numbers row S n s.below) u in
        let below = rest_unknown l row (candidates row s.recent) (numbers row S n s.below) u in
        (subst (λ k. Unknown k row (candidates row s.recent)) (sym (one_list n s.below)) here, up n s.below row c below r)

    pub put_once : (n : ℕ) (s : Layers n S) (row : List R) (r : Result ℕ Cause) (t : Layers n S) → pile_puts rows puts n s row r t → PilePut rows refuses puts n s row r t
    put_once zero s row r t p = record { found = None; first = refl; answered = p }
    put_once (suc n) s row r t p = by (λ passed. put_once n s.below row r t.below passed) p.found p.first p.answered
      where
        by : (pile_puts rows puts n s.below row r t.below → PilePut rows refuses puts n s.below row r t.below) → (found : Option ℕ) → First (pile_rows rows n s.below) row (candidates row s.recent) found → Answered (pile_rows rows n) (pile_puts rows puts n) s row found r t →
            PilePut rows refuses puts (suc n) s row r t
        by below (Some m) first (answer, same) =
            let f = subst (λ l. First l row (candidates row s.recent) (Some m)) (one_list n s.below) first in
            record {
              found = Some m;
              first = found_before (rows (bottom n s.below)) row (candidates row s.recent) (numbers row S n s.below) m f;
              answered = (answer, ap (λ x. bottom (suc n) x) same);
            }
        by below None first passed =
            let f = subst (λ l. First l row (candidates row s.recent) None) (one_list n s.below) first in
            let d = below passed.below in
            record {
              found = d.found;
              first = found_after (rows (bottom n s.below)) row (candidates row s.recent) (numbers row S n s.below) d.found f d.first;
              answered = d.answered;
            }

    pub piled : (area_long : S → ℕ) → Piled rows refuses puts area_long
    piled area_long = record { list = one_list; area = one_area area_long; refused = down; back = up; put = put_once }
