-- A plan that keeps only pieces of the base writes no more nodes than it makes, and just as many if all that it makes is new.
use Rattle.std.proofs.Common.{◌≡◌, ℕ, zero, suc, ◌+◌, ◌<◌, ◌≤◌, Bool, cond, ltb, leb, List, [], ◌∷◌, ◌++◌, refl, ap, inl, inr, arith}
use Rattle.std.proofs.lemmas.Bool.{cond_both, cond-true}
use Rattle.flexlist.specs.Shape.{Tree, last, leaf, fork}
use Rattle.flexlist.specs.Nodes.{identities, stretches, Path, end, stop, on, below, after, nodes, nodes_of_both, Among}
use Rattle.flexlist.specs.Sharing.{one_of, missing}
use Rattle.flexlist.specs.Building.{Covers, Keeps, EachMade, New, Plan, keep, new_last, new_leaf, new_fork, built, made, at_end, left, right, cut, insert, change, lead_by, Gap, here, further, in_below, between, in_after, to_first, to_last, to_this, to_before, remove}
use Rattle.flexlist.proofs.Lists.{among_left, among_right, among_one_of, none_of}
use Rattle.flexlist.proofs.Merges.{Merging, kept, joined, past_leaf, past_fork, under_fork, merging}

pub each_weaker : (P Q : List ℕ → Type 0) → ((x : List ℕ) → P x → Q x) → (x : Plan Tree) → EachMade P x → EachMade Q x
each_weaker P Q f (keep t) h = tt
each_weaker P Q f (new_last a) h = f (a ∷ []) h
each_weaker P Q f (new_leaf a x) h = (f (a ∷ identities (built x)) h.0, each_weaker P Q f x h.1)
each_weaker P Q f (new_fork m x y) h =
    (f (identities (built x) ++ identities (built y)) h.0, each_weaker P Q f x h.1, each_weaker P Q f y h.2)

pub covers_next : (base : List (List ℕ)) (a : ℕ) (t : Tree) → Covers base (leaf a t) → Covers base t
covers_next base a t c x h = c x (inr h)

pub covers_below : (base : List (List ℕ)) (m : ℕ) (s t : Tree) → Covers base (fork m s t) → Covers base s
covers_below base m s t c x h = c x (inr (among_left x (stretches s) (stretches t) h))

pub covers_after : (base : List (List ℕ)) (m : ℕ) (s t : Tree) → Covers base (fork m s t) → Covers base t
covers_after base m s t c x h = c x (inr (among_right x (stretches s) (stretches t) h))

missing_append : (base xs ys : List (List ℕ)) → missing base (xs ++ ys) ≡ missing base xs + missing base ys
unfolding missing
missing_append base [] ys = omega arith
missing_append base (x ∷ xs) ys = let more = missing_append base xs ys in omega arith

missing_none : (base xs : List (List ℕ)) → ((x : List ℕ) → Among x xs → Among x base) → missing base xs ≡ 0
unfolding missing
missing_none base [] h = refl
missing_none base (x ∷ xs) h =
    let one : ◌≡◌ {A = ℕ} (cond (one_of x base) 0 1) 0 = cond-true (one_of x base) 0 1 (among_one_of x base (h x (inl refl))) in
    let more = missing_none base xs (λ y g. h y (inr g)) in
    omega arith

at_most_one : (b : Bool) → cond b 0 1 ≤ 1
at_most_one b = cond_both b 0 1 (λ n. n ≤ 1) (λ _. omega arith) (λ _. omega arith)

pub written_at_most : (base : List (List ℕ)) (x : Plan Tree) → Keeps base x → missing base (stretches (built x)) ≤ made x
unfolding missing made built
written_at_most base (keep t) h = let none = missing_none base (stretches t) h in omega arith
written_at_most base (new_last a) h = omega (arith, at_most_one (one_of (a ∷ []) base))
written_at_most base (new_leaf a x) h =
    let more = written_at_most base x h in omega (arith, at_most_one (one_of (a ∷ identities (built x)) base))
written_at_most base (new_fork m x y) h =
    let first = written_at_most base x h.0 in
    let second = written_at_most base y h.1 in
    let both = missing_append base (stretches (built x)) (stretches (built y)) in
    omega (arith, at_most_one (one_of (identities (built x) ++ identities (built y)) base))

pub written_exactly : (base : List (List ℕ)) (x : Plan Tree) → Keeps base x → EachMade (New base) x → missing base (stretches (built x)) ≡ made x
unfolding missing made built
written_exactly base (keep t) h f = missing_none base (stretches t) h
written_exactly base (new_last a) h f = rw (none_of (a ∷ []) base f) (omega arith)
written_exactly base (new_leaf a x) h f =
    let more = written_exactly base x h f.1 in
    rw (none_of (a ∷ identities (built x)) base f.0) (omega arith)
written_exactly base (new_fork m x y) h f =
    let first = written_exactly base x h.0 f.1 in
    let second = written_exactly base y h.1 f.2 in
    let both = missing_append base (stretches (built x)) (stretches (built y)) in
    rw (none_of (identities (built x) ++ identities (built y)) base f.0) (omega arith)

-- the edits keep only pieces of the base
keeps_left : {t : Tree} (base : List (List ℕ)) (w : Path t) → Covers base t → Keeps base (left w)
unfolding left
keeps_left base end c = c
keeps_left base stop c = tt
keeps_left base (on {a} {t} w) c =
    cond_both (at_end w) _ _ (λ x. Keeps base x) (λ _. c) (λ _. keeps_left base w (covers_next base a t c))
keeps_left base (below {m} {s} {t} w) c = keeps_left base w (covers_below base m s t c)
keeps_left base (after {m} {s} {t} w) c =
    cond_both (at_end w) _ _ (λ x. Keeps base x) (λ _. c)
    (λ _. (covers_below base m s t c, keeps_left base w (covers_after base m s t c)))

keeps_right : {t : Tree} (base : List (List ℕ)) (n : ℕ) (w : Path t) → Covers base t → Keeps base (right n w)
unfolding right
keeps_right base n end c = tt
keeps_right base n (stop {a} {t}) c = covers_next base a t c
keeps_right base n (on {a} {t} w) c = keeps_right base n w (covers_next base a t c)
keeps_right base n (below {m} {s} {t} w) c = (keeps_right base n w (covers_below base m s t c), covers_after base m s t c)
keeps_right base n (after {m} {s} {t} w) c = keeps_right base n w (covers_after base m s t c)

keeps_cut : {t : Tree} (base : List (List ℕ)) (n k : ℕ) (w : Path t) → Covers base t → Keeps base (cut n k w)
unfolding cut
keeps_cut base n k w c = (keeps_left base w c, keeps_right base n w c)

pub keeps_insert : {t : Tree} (base : List (List ℕ)) (n k : ℕ) (w : Path t) → Covers base t → Keeps base (insert n k w)
unfolding insert
keeps_insert base n zero end c = tt
keeps_insert base n (suc k) (end {a}) c = keeps_cut base n (suc k) (end {a = a}) c
keeps_insert base n zero (stop {a} {t}) c = covers_next base a t c
keeps_insert base n (suc k) (stop {a} {t}) c = keeps_cut base n (suc k) (stop {a = a} {t = t}) c
keeps_insert base n zero (on {a} {t} w) c = keeps_insert base n zero w (covers_next base a t c)
keeps_insert base n (suc k) (on {a} w) c = keeps_cut base n (suc k) (on {a = a} w) c
keeps_insert base n k (below {m} {s} {t} w) c =
    cond_both (leb m k) _ _ (λ x. Keeps base x) (λ _. keeps_cut base n k (below {m = m} {t = t} w) c)
    (λ _. (keeps_insert base n k w (covers_below base m s t c), covers_after base m s t c))
keeps_insert base n k (after {m} {s} {t} w) c =
    cond_both (ltb m k) _ _ (λ x. Keeps base x) (λ _. keeps_cut base n k (after {m = m} {s = s} w) c)
    (λ _. (covers_below base m s t c, keeps_insert base n k w (covers_after base m s t c)))

pub keeps_change : {t : Tree} (base : List (List ℕ)) (n : ℕ) (w : Path t) → Covers base t → Keeps base (change n w)
unfolding change
keeps_change base n end c = tt
keeps_change base n (stop {a} {t}) c = covers_next base a t c
keeps_change base n (on {a} {t} w) c = keeps_change base n w (covers_next base a t c)
keeps_change base n (below {m} {s} {t} w) c = (keeps_change base n w (covers_below base m s t c), covers_after base m s t c)
keeps_change base n (after {m} {s} {t} w) c = (covers_below base m s t c, keeps_change base n w (covers_after base m s t c))

keeps_lead_by : (base : List (List ℕ)) (n : ℕ) (t : Tree) → Covers base t → Keeps base (lead_by n t)
unfolding lead_by
keeps_lead_by base n (last a) c = tt
keeps_lead_by base n (leaf a t) c = covers_next base a t c
keeps_lead_by base n (fork m s t) c = (keeps_lead_by base n s (covers_below base m s t c), covers_after base m s t c)

keeps_merge : {s t : Tree} {x : Plan Tree} (base : List (List ℕ)) → Merging s t x → Covers base s → Covers base t → Keeps base x
keeps_merge base kept c d = c
keeps_merge base (joined {a} {j} {t}) c d = covers_next base j t d
keeps_merge base (past_leaf {a} {j} {s} m) c d = keeps_merge base m (covers_next base a s c) d
keeps_merge base (past_fork {m} {r} {s} l h g) c d = (covers_below base m r s c, keeps_merge base g (covers_after base m r s c) d)
keeps_merge base (under_fork {n} {s} {u} {v} h g) c d = (keeps_merge base g c (covers_below base n u v d), covers_after base n u v d)

pub keeps_remove : {t : Tree} (base : List (List ℕ)) (g : Gap t) → Covers base t → Keeps base (remove g)
unfolding remove
keeps_remove base (here {a} {t}) c = keeps_lead_by base a t (covers_next base a t c)
keeps_remove base (further {a} {t} g) c = keeps_remove base g (covers_next base a t c)
keeps_remove base (in_below {m} {s} {t} g) c = (keeps_remove base g (covers_below base m s t c), covers_after base m s t c)
keeps_remove base (between {m} {s} {t}) c = keeps_merge base (merging s t) (covers_below base m s t c) (covers_after base m s t c)
keeps_remove base (in_after {m} {s} {t} g) c = (covers_below base m s t c, keeps_remove base g (covers_after base m s t c))

-- how many nodes they make, against the paths
made_cut : {t : Tree} (n : ℕ) (w : Path t) → made (left w) + made (right n w) ≤ nodes w + 1
unfolding made left right nodes
made_cut n end = omega arith
made_cut n stop = omega arith
made_cut n (on w) =
    let more = made_cut n w in
    cond_both (at_end w) _ _ (λ (x : Plan Tree). made x + made (right n w) ≤ suc (nodes w) + 1) (λ _. omega arith) (λ _. omega arith)
made_cut n (below w) = let more = made_cut n w in omega arith
made_cut n (after w) =
    let more = made_cut n w in
    cond_both (at_end w) _ _ (λ (x : Plan Tree). made x + made (right n w) ≤ suc (nodes w) + 1) (λ _. omega arith) (λ _. omega arith)

pub made_insert : {t : Tree} (n k : ℕ) (w : Path t) → made (insert n k w) ≤ nodes w + 2
unfolding made insert nodes cut
made_insert n zero end = omega arith
made_insert n (suc k) (end {a}) = omega (arith, made_cut n (end {a = a}))
made_insert n zero stop = omega arith
made_insert n (suc k) (stop {a} {t}) = omega (arith, made_cut n (stop {a = a} {t = t}))
made_insert n zero (on w) = let more = made_insert n zero w in omega arith
made_insert n (suc k) (on {a} w) = omega (arith, made_cut n (on {a = a} w))
made_insert n k (below {m} {s} {t} w) =
    let more = made_insert n k w in
    cond_both (leb m k) _ _ (λ (x : Plan Tree). made x ≤ suc (nodes w) + 2) (λ _. omega (arith, made_cut n (below {m = m} {t = t} w))) (λ _. omega arith)
made_insert n k (after {m} {s} {t} w) =
    let more = made_insert n k w in
    cond_both (ltb m k) _ _ (λ (x : Plan Tree). made x ≤ suc (nodes w) + 2) (λ _. omega (arith, made_cut n (after {m = m} {s = s} w))) (λ _. omega arith)

pub made_change : {t : Tree} (n : ℕ) (w : Path t) → made (change n w) ≡ nodes w
unfolding made change nodes
made_change n end = refl
made_change n stop = refl
made_change n (on w) = ap suc (made_change n w)
made_change n (below w) = let more = made_change n w in omega arith
made_change n (after w) = let more = made_change n w in omega arith

made_lead_by : (n : ℕ) (t : Tree) → made (lead_by n t) ≡ nodes (to_first t)
unfolding made lead_by nodes to_first
made_lead_by n (last a) = refl
made_lead_by n (leaf a t) = refl
made_lead_by n (fork m s t) = let more = made_lead_by n s in omega arith

made_merge : {s t : Tree} {x : Plan Tree} → Merging s t x → made x < nodes (to_last s) + nodes (to_first t)
unfolding made nodes to_last to_first
made_merge (kept {s}) = omega arith
made_merge joined = omega arith
made_merge (past_leaf m) = let more = made_merge m in omega arith
made_merge (past_fork l h m) = let more = made_merge m in omega arith
made_merge (under_fork h m) = let more = made_merge m in omega arith

pub made_remove : {t : Tree} (g : Gap t) → made (remove g) < nodes_of_both (to_before g) (to_this g)
unfolding made remove nodes_of_both to_before to_this
made_remove (here {a} {t}) = let more = made_lead_by a t in omega arith
made_remove (further g) = let more = made_remove g in omega arith
made_remove (in_below g) = let more = made_remove g in omega arith
made_remove (between {m} {s} {t}) = let more = made_merge (merging s t) in omega arith
made_remove (in_after g) = let more = made_remove g in omega arith
