-- One edit more: what stays of a history, and what is new. Assumes nothing.
use Rattle.std.proofs.Common.{◌≡◌, ℕ, zero, suc, ◌<◌, ◌≤◌, ◌⊎◌, inl, inr, Bool, true, false, eqb, List, [], ◌∷◌, ◌++◌, length, Some, None, unwrap_or, sym, refl, ap, ◌∙◌, arith, eq-eqb, ne_eqb, eqb-true}
use native.Mathlib.Decide.{dec_le}
use Rattle.std.specs.List.{slice_get}
use Rattle.std.proofs.lemmas.Bool.{cond-true, cond-false}
use Rattle.flexlist.specs.Edits.{Edit, lists, list_of, content_of}
use Rattle.flexlist.specs.Replay.{next_list}
use Rattle.flexlist.proofs.Sound.{histories_sound}
use Rattle.archive.specs.Records.{edit_of, edits_before, record_by, record_of}

module _ {A : Type 0} where
  pub nth_front : (xs ys : List A) (k : ℕ) → k < length xs → slice_get (xs ++ ys) k ≡ slice_get xs k
  nth_front [] ys k h = absurd (omega arith)
  nth_front (x ∷ xs) ys zero h = refl
  nth_front (x ∷ xs) ys (suc k) h = nth_front xs ys k (omega arith)

  pub nth_end : (xs : List A) (x : A) (k : ℕ) → k ≡ length xs → slice_get (xs ++ (x ∷ [])) k ≡ Some x
  nth_end [] x zero e = refl
  nth_end [] x (suc k) e = absurd (omega arith)
  nth_end (y ∷ xs) x zero e = absurd (omega arith)
  nth_end (y ∷ xs) x (suc k) e = nth_end xs x k (omega arith)

  pub same_some : (x y : A) → Some x ≡ Some y → x ≡ y
  same_some x y e = cc

  pub some_none : (x : A) → Some x ≡ None → ⊥
  some_none x e = let z : ◌≡◌ {A = ℕ} 0 1 = cc in omega arith

module _ {R : Type 0} (e : Edit R) (es : List (Edit R)) where
  not_new : (v : ℕ) → v ≤ length es → eqb v (suc (length es)) ≡ false
  not_new v h = ne_eqb v (suc (length es)) (λ i. omega arith)

  is_new : eqb (suc (length es)) (suc (length es)) ≡ true
  is_new = eq-eqb _ _ refl

  pub list_later : (v : ℕ) → v ≤ length es → list_of (e ∷ es) v ≡ list_of es v
  unfolding lists
  list_later v h =
      let n = (histories_sound es).0 in
      ap (λ o. unwrap_or o []) (nth_front (lists es) _ v (omega arith))

  pub list_new : list_of (e ∷ es) (suc (length es)) ≡ next_list es e
  unfolding lists
  list_new = ap (λ o. unwrap_or o []) (nth_end (lists es) (next_list es e) (suc (length es)) (sym (histories_sound es).0))

  pub content_later : (i : ℕ) → i ≤ length es → content_of (e ∷ es) i ≡ content_of es i
  content_later i h = cond-false (eqb i (suc (length es))) _ _ (not_new i h)

  pub edit_later : (v : ℕ) → v ≤ length es → edit_of (e ∷ es) v ≡ edit_of es v
  edit_later v h = cond-false (eqb v (suc (length es))) _ _ (not_new v h)

  pub before_later : (v : ℕ) → v ≤ length es → edits_before (e ∷ es) v ≡ edits_before es v
  before_later v h = cond-false (eqb v (suc (length es))) _ _ (not_new v h)

  pub edit_new : edit_of (e ∷ es) (suc (length es)) ≡ Some e
  edit_new = cond-true (eqb (suc (length es)) (suc (length es))) _ _ is_new

  pub before_new : edits_before (e ∷ es) (suc (length es)) ≡ es
  before_new = cond-true (eqb (suc (length es)) (suc (length es))) _ _ is_new

  pub record_later : (v root : ℕ) → v ≤ length es → record_of (e ∷ es) v root ≡ record_of es v root
  record_later v root h =
      ap (λ o. record_by o (edits_before (e ∷ es) v) (list_of (e ∷ es) v) root) (edit_later v h)
      ∙ ap (λ b. record_by (edit_of es v) b (list_of (e ∷ es) v) root) (before_later v h)
      ∙ ap (λ l. record_by (edit_of es v) (edits_before es v) l root) (list_later v h)

  pub record_new : (root : ℕ) → record_of (e ∷ es) (suc (length es)) root ≡ record_by (Some e) es (next_list es e) root
  record_new root =
      ap (λ o. record_by o (edits_before (e ∷ es) (suc (length es))) (list_of (e ∷ es) (suc (length es))) root) edit_new
      ∙ ap (λ b. record_by (Some e) b (list_of (e ∷ es) (suc (length es))) root) before_new
      ∙ ap (λ l. record_by (Some e) es l root) list_new

-- a version is one of the older ones or the new one
pub older_or_new : {R : Type 0} (es : List (Edit R)) (v : ℕ) → v ≤ suc (length es) → (v ≤ length es) ⊎ (v ≡ suc (length es))
older_or_new es v h = elim (dec_le v (length es)) [ yes i ↦ inl i | no i ↦ inr (omega arith) ]

-- no edit gave a version past the last
pub edit_past : {R : Type 0} (es : List (Edit R)) (v : ℕ) (e : Edit R) → edit_of es v ≡ Some e → v ≤ length es
edit_past [] v e h = let z : ◌≡◌ {A = ℕ} 0 1 = cc in absurd (omega arith)
edit_past (f ∷ es) v e h = go (edit_past es v e) (eqb v (suc (length es))) refl
  where
    go : (edit_of es v ≡ Some e → v ≤ length es) → (b : Bool) → eqb v (suc (length es)) ≡ b → v ≤ suc (length es)
    go ih true q = let i = eqb-true v (suc (length es)) q in omega arith
    go ih false q = let r = ih (sym (cond-false (eqb v (suc (length es))) (Some f) (edit_of es v) q) ∙ h) in omega arith
