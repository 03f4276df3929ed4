-- The edits of a version's chain, done anew on the empty version, give its list. Assumes nothing.
use Rattle.std.proofs.Common.{◌≡◌, ℕ, zero, suc, ◌<◌, Bool, true, false, eqb, leb, List, [], ◌∷◌, ◌++◌, length, Some, unwrap_or, sym, refl, ap, ◌∙◌, arith, eqb-true, leb-false, leb-true}
use borrow.Author.Tests.{eqb-false}
use Rattle.std.specs.List.{slice_get}
use Rattle.std.proofs.lemmas.Bool.{cond-true, cond-false}
use Rattle.flexlist.specs.Edits.{Edit, base_of, done, lists, list_of}
use Rattle.flexlist.specs.Chains.{chain_of, replayed, ChainsReplayed}
use Rattle.flexlist.proofs.Sound.{histories_sound}

module _ {A : Type 0} where
  -- a list with one element more: the elements before it, it, and nothing past it
  before_last : (xs : List A) (x : A) (k : ℕ) → k < length xs → slice_get (xs ++ (x ∷ [])) k ≡ slice_get xs k
  before_last [] x k h = absurd (omega arith)
  before_last (y ∷ xs) x zero h = refl
  before_last (y ∷ xs) x (suc k) h = before_last xs x k (omega arith)

  at_last : (xs : List A) (x : A) (k : ℕ) → k ≡ length xs → slice_get (xs ++ (x ∷ [])) k ≡ Some x
  at_last [] x zero h = refl
  at_last [] x (suc k) h = absurd (omega arith)
  at_last (y ∷ xs) x zero h = absurd (omega arith)
  at_last (y ∷ xs) x (suc k) h = at_last xs x k (omega arith)

  past_last : (xs : List A) (x : A) (k : ℕ) → length xs < k → slice_get (xs ++ (x ∷ [])) k ≡ slice_get xs k
  past_last [] x zero h = absurd (omega arith)
  past_last [] x (suc k) h = refl
  past_last (y ∷ xs) x zero h = absurd (omega arith)
  past_last (y ∷ xs) x (suc k) h = past_last xs x k (omega arith)

module _ {R : Type 0} where
  list_newest : (e : Edit R) (es : List (Edit R)) (v : ℕ) → v ≡ suc (length es) → list_of (e ∷ es) v ≡ done (suc (length es)) e (list_of es (base_of e))
  unfolding lists
  list_newest e es v h = let n = (histories_sound es).0 in ap (λ o. unwrap_or o []) (at_last (lists es) (done (suc (length es)) e (list_of es (base_of e))) v (omega arith))

  list_older : (e : Edit R) (es : List (Edit R)) (v : ℕ) → (v ≡ suc (length es) → ⊥) → list_of (e ∷ es) v ≡ list_of es v
  unfolding lists
  list_older e es v other = go (leb (suc v) (length (lists es))) refl
    where
      go : (b : Bool) → leb (suc v) (length (lists es)) ≡ b → list_of (e ∷ es) v ≡ list_of es v
      go true q = let h = leb-true (suc v) (length (lists es)) q in ap (λ o. unwrap_or o []) (before_last (lists es) (done (suc (length es)) e (list_of es (base_of e))) v (omega arith))
      go false q =
          let h = leb-false (suc v) (length (lists es)) q in
          let n = (histories_sound es).0 in
          let past : length (lists es) < v = far other n h in
          ap (λ o. unwrap_or o []) (past_last (lists es) (done (suc (length es)) e (list_of es (base_of e))) v past)
        where
          far : (v ≡ suc (length es) → ⊥) → length (lists es) ≡ suc (length es) → length (lists es) < suc v → length (lists es) < v
          far o n h = apart (length (lists es)) v h (λ m. o (sym m ∙ n))
            where
              apart : (m k : ℕ) → m < suc k → (m ≡ k → ⊥) → m < k
              apart zero zero h o = absurd (o refl)
              apart zero (suc k) h o = omega arith
              apart (suc m) zero h o = absurd (omega arith)
              apart (suc m) (suc k) h o = let i = apart m k (omega arith) (λ p. o (ap suc p)) in omega arith

  pub chains_replayed : ChainsReplayed R
  unfolding lists
  chains_replayed [] zero = refl
  chains_replayed [] (suc v) = refl
  chains_replayed (e ∷ es) v = go (chains_replayed es) (eqb v (suc (length es))) refl
    where
      go : ((w : ℕ) → list_of es w ≡ replayed (chain_of es w)) → (b : Bool) → eqb v (suc (length es)) ≡ b → list_of (e ∷ es) v ≡ replayed (chain_of (e ∷ es) v)
      go older true q =
          list_newest e es v (eqb-true v (suc (length es)) q) ∙ (ap (done (suc (length es)) e) (older (base_of e))
          ∙ ap replayed (sym (cond-true (eqb v (suc (length es))) ((suc (length es), e) ∷ chain_of es (base_of e)) (chain_of es v) q)))
      go older false q =
          list_older e es v (eqb-false v (suc (length es)) q)
          ∙ (older v ∙ ap replayed (sym (cond-false (eqb v (suc (length es))) ((suc (length es), e) ∷ chain_of es (base_of e)) (chain_of es v) q)))
