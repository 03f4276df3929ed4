-- What is known of a result, past a `?` and a `map_err`. Assumes nothing.
use Rattle.std.proofs.Common.{◌≡◌, Ok, Err, MatchResult, IsErrAnd, Result, sym, ◌∙◌, subst}
use Rattle.std.proofs.lemmas.Result.{err_from_is_err_and}

-- what a `?` answers with, where it hands a refusal on
pub handed_on : {A E : Type 0} (Told : Result A E → Type 0) (f : E) (r : Result A E) → IsErrAnd r (λ y. y ≡ f) → Told (Err f) → Told r
handed_on Told f r h told =
    let p = err_from_is_err_and r h in
    subst Told (sym p.1) (subst (λ y. Told (Err y)) (sym p.2) told)

module _ {A E F : Type 0} (Told : Result A E → Type 0) (Post : E → F → Type 0) (r : Result A E) (m : Result A F) (told : Told r) (cases : MatchResult r (λ x. m ≡ Ok x) (λ e. IsErrAnd m (Post e))) where
  -- a value
  pub value_told : (x : A) → m ≡ Ok x → Told (Ok x)
  value_told x is = go r told cases
    where
      go : (q : Result A E) → Told q → MatchResult q (λ z. m ≡ Ok z) (λ e. IsErrAnd m (Post e)) → Told (Ok x)
      go (Ok z) t c = let e : ◌≡◌ {A = Result A F} (Ok z) (Ok x) = sym c ∙ is in let same : z ≡ x = cc in subst (λ w. Told (Ok w)) same t
      go (Err e) t c = absurd (subst (λ q. IsErrAnd q (Post e)) is c)

  -- a refusal, and the one that was made of it
  pub refusal_told : (f : F) → m ≡ Err f → (e : E) × Told (Err e) × Post e f
  refusal_told f is = go r told cases
    where
      go : (q : Result A E) → Told q → MatchResult q (λ z. m ≡ Ok z) (λ e. IsErrAnd m (Post e)) → (e : E) × Told (Err e) × Post e f
      go (Ok z) t c = let e : ◌≡◌ {A = Result A F} (Ok z) (Err f) = sym c ∙ is in absurd (cc)
      go (Err e) t c = (e, t, subst (λ q. IsErrAnd q (Post e)) is c)
