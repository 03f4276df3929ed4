-- Membership, distinct identities, and a list cut at a place.
use Rattle.std.proofs.Common.{◌≡◌, ℕ, true, false, eqb, ◌⊎◌, List, [], ◌∷◌, ◌++◌, map, length, refl, ap, subst, ap₂, inl, inr, ⊎_elim, arith}
use Rattle.std.proofs.lemmas.Bool.{eqb-true, eq-eqb, and_parts, and_from, or_cases, or_left, or_right, cases_Bool}
use Rattle.flexlist.specs.Nodes.{Among, Distinct}
use Rattle.flexlist.specs.Sharing.{same, one_of}

pub among_left : {A : Type 0} (x : A) (xs ys : List A) → Among x xs → Among x (xs ++ ys)
among_left x [] ys h = absurd h
among_left x (y ∷ xs) ys (inl e) = inl e
among_left x (y ∷ xs) ys (inr h) = inr (among_left x xs ys h)

pub among_right : {A : Type 0} (x : A) (xs ys : List A) → Among x ys → Among x (xs ++ ys)
among_right x [] ys h = h
among_right x (y ∷ xs) ys h = inr (among_right x xs ys h)

pub among_cases : {A : Type 0} (x : A) (xs ys : List A) → Among x (xs ++ ys) → Among x xs ⊎ Among x ys
among_cases x [] ys h = inr h
among_cases x (y ∷ xs) ys (inl e) = inl (inl e)
among_cases x (y ∷ xs) ys (inr h) = ⊎_elim (λ l. inl (inr l)) (λ r. inr r) (among_cases x xs ys h)

pub among_map : {A B : Type 0} (x : A) (f : A → B) (xs : List A) → Among x xs → Among (f x) (map f xs)
among_map x f [] h = absurd h
among_map x f (y ∷ xs) (inl e) = inl (ap f e)
among_map x f (y ∷ xs) (inr h) = inr (among_map x f xs h)

-- of two lists without a common identity
pub apart : (x : ℕ) (xs ys : List ℕ) → Distinct (xs ++ ys) → Among x xs → Among x ys → ⊥
apart x [] ys d h g = h
apart x (y ∷ xs) ys d (inl e) g = d.0 (among_right y xs ys (subst (λ z. Among z ys) e g))
apart x (y ∷ xs) ys d (inr h) g = apart x xs ys d.1 h g

pub distinct_left : (xs ys : List ℕ) → Distinct (xs ++ ys) → Distinct xs
distinct_left [] ys d = tt
distinct_left (x ∷ xs) ys d = (λ h. d.0 (among_left x xs ys h), distinct_left xs ys d.1)

pub distinct_right : (xs ys : List ℕ) → Distinct (xs ++ ys) → Distinct ys
distinct_right [] ys d = d
distinct_right (x ∷ xs) ys d = distinct_right xs ys d.1

pub distinct_append : {A : Type 0} (xs ys : List A) → Distinct xs → Distinct ys → ((x : A) → Among x xs → Among x ys → ⊥) → Distinct (xs ++ ys)
distinct_append [] ys d e h = e
distinct_append (x ∷ xs) ys d e h =
    (λ k. ⊎_elim d.0 (h x (inl refl)) (among_cases x xs ys k), distinct_append xs ys d.1 e (λ y i. h y (inr i)))

-- two ways to cut a list at one place
pub same_cut : {A : Type 0} (as' bs cs ds : List A) → as' ++ bs ≡ cs ++ ds → length as' ≡ length cs → (as' ≡ cs) × (bs ≡ ds)
same_cut [] bs [] ds e l = (refl, e)
same_cut [] bs (c ∷ cs) ds e l = absurd (omega arith)
same_cut (a ∷ as') bs [] ds e l = absurd (omega arith)
same_cut (a ∷ as') bs (c ∷ cs) ds e l =
    let heads : a ≡ c = cc in
    let tails : as' ++ bs ≡ cs ++ ds = cc in
    let more = same_cut as' bs cs ds tails (omega arith) in
    (ap₂ ◌∷◌ heads more.0, more.1)

same_equal : (xs ys : List ℕ) → same xs ys ≡ true → xs ≡ ys
same_equal [] [] e = refl
same_equal [] (y ∷ ys) e = let z : ◌≡◌ {A = ℕ} 0 1 = cc in absurd (omega arith)
same_equal (x ∷ xs) [] e = let z : ◌≡◌ {A = ℕ} 0 1 = cc in absurd (omega arith)
same_equal (x ∷ xs) (y ∷ ys) e =
    let both = and_parts (eqb x y) (same xs ys) e in
    ap₂ ◌∷◌ (eqb-true x y both.0) (same_equal xs ys both.1)

same_refl : (xs : List ℕ) → same xs xs ≡ true
same_refl [] = refl
same_refl (x ∷ xs) = and_from (eqb x x) (same xs xs) (eq-eqb x x refl) (same_refl xs)

pub one_of_among : (x : List ℕ) (ys : List (List ℕ)) → one_of x ys ≡ true → Among x ys
one_of_among x [] e = let z : ◌≡◌ {A = ℕ} 0 1 = cc in absurd (omega arith)
one_of_among x (y ∷ ys) e =
    ⊎_elim (λ l. inl (same_equal x y l)) (λ r. inr (one_of_among x ys r)) (or_cases (same x y) (one_of x ys) e)

pub among_one_of : (x : List ℕ) (ys : List (List ℕ)) → Among x ys → one_of x ys ≡ true
among_one_of x [] h = absurd h
among_one_of x (y ∷ ys) (inl e) = or_left (same x y) (one_of x ys) (subst (λ z. same x z ≡ true) e (same_refl x))
among_one_of x (y ∷ ys) (inr h) = or_right (same x y) (one_of x ys) (among_one_of x ys h)

pub none_of : (x : List ℕ) (ys : List (List ℕ)) → (Among x ys → ⊥) → one_of x ys ≡ false
none_of x ys h = ⊎_elim (λ e. absurd (h (one_of_among x ys e))) (λ e. e) (cases_Bool (one_of x ys))
