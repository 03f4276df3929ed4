-- The path to a block by its identity is the path to its place by counting.
use Rattle.std.proofs.Common.{◌≡◌, ℕ, zero, suc, ◌+◌, ◌-◌, ◌<◌, Bool, true, false, cond, ◌||◌, eqb, List, [], ◌∷◌, ◌++◌, length, get_or, sym, refl, ap, ◌∙◌, subst, ap₂, inl, inr, ⊎_elim, arith, length-append}
use Rattle.std.proofs.lemmas.Bool.{eq-eqb, ne_eqb, or_left, or_right, or_from, cases_lt, cond-true, cond-false}
use Rattle.std.proofs.lemmas.List.{get_or_append_left, get_or-append_right}
use Rattle.flexlist.specs.Shape.{Tree, last, leaf, fork}
use Rattle.flexlist.specs.Nodes.{identities, leaves, Path, end, stop, on, below, after, has, to_block, to_place, Among, Distinct, OwnStretches, SamePath, stretches, nodes, nodes_of_both, how_many, PathsHaveNodes}
use Rattle.flexlist.proofs.Shape.{lead, lead_among}
use Rattle.flexlist.proofs.Places.{to_place_below, to_place_after}
use Rattle.flexlist.proofs.Lists.{among_left, among_right, among_cases, apart, distinct_left, distinct_right, distinct_append}

leaves_identities : (t : Tree) → leaves t ≡ length (identities t)
unfolding leaves
leaves_identities (last a) = refl
leaves_identities (leaf a t) = ap suc (leaves_identities t)
leaves_identities (fork m s t) =
    let first = leaves_identities s in
    let second = leaves_identities t in
    omega (arith, length-append (identities s) (identities t))

among_getD : (xs : List ℕ) (p : ℕ) → p < length xs → Among (get_or xs p 0) xs
among_getD [] p h = absurd (omega arith)
among_getD (x ∷ xs) zero h = inl refl
among_getD (x ∷ xs) (suc p) h = inr (among_getD xs p (omega arith))

has_among : (x : ℕ) (xs : List ℕ) → Among x xs → has x xs ≡ true
has_among x [] h = absurd h
has_among x (y ∷ xs) (inl e) = or_left (eqb x y) (has x xs) (eq-eqb x y e)
has_among x (y ∷ xs) (inr h) = or_right (eqb x y) (has x xs) (has_among x xs h)

has_not : (x : ℕ) (xs : List ℕ) → (Among x xs → ⊥) → has x xs ≡ false
has_not x [] h = refl
has_not x (y ∷ xs) h = or_from (eqb x y) (has x xs) (ne_eqb x y (λ e. h (inl e))) (has_not x xs (λ k. h (inr k)))

-- the path to an identity that stands at a place
path_to : (t : Tree) (p x : ℕ) → get_or (identities t) p 0 ≡ x → Distinct (identities t) → p < length (identities t) → to_block x t ≡ to_place t p
unfolding to_block to_place
path_to (last a) p x e d h = refl
path_to (leaf a t) zero x e d h = cond-true (eqb x a) _ _ (eq-eqb x a (sym e))
path_to (leaf a t) (suc p) x e d h =
    let inside : Among x (identities t) = subst (λ v. Among v (identities t)) e (among_getD (identities t) p (omega arith)) in
    cond-false (eqb x a) _ _ (ne_eqb x a (λ k. d.0 (subst (λ v. Among v (identities t)) k inside))) ∙
    ap on (path_to t p x e d.1 (omega arith))
path_to (fork m s t) p x e d h =
    let count = leaves_identities s in
    ⊎_elim
    (λ l. let here : get_or (identities s) p 0 ≡ x = sym (get_or_append_left (identities s) (identities t) 0 p l) ∙ e in
    let inside : Among x (identities s) = subst (λ v. Among v (identities s)) here (among_getD (identities s) p l) in
    cond-true _ _ _ (has_among x (identities s) inside) ∙
    ap below (path_to s p x here (distinct_left (identities s) (identities t) d) l) ∙
    sym (to_place_below m s t p (omega arith)))
    (λ g. let q : ℕ = p - leaves s in
    let here : get_or (identities t) q 0 ≡ x = sym (get_or-append_right (identities s) (identities t) (leaves s) p 0 (sym count) (omega arith)) ∙ e in
    let short : q < length (identities t) = omega (arith, length-append (identities s) (identities t)) in
    let inside : Among x (identities t) = subst (λ v. Among v (identities t)) here (among_getD (identities t) q short) in
    cond-false _ _ _ (has_not x (identities s) (λ k. apart x (identities s) (identities t) d k inside)) ∙
    ap after (path_to t q x here (distinct_right (identities s) (identities t) d) short) ∙
    sym (to_place_after m s t p q (omega arith)))
    (cases_lt p (length (identities s)))

pub same_path : SamePath
same_path t p d h = path_to t p _ refl d h

-- a node's stretch has only identities of its tree
pub within : (v : ℕ) (x : List ℕ) (t : Tree) → Among x (stretches t) → Among v x → Among v (identities t)
within v x (last a) (inl e) g = subst (Among v) e g
within v x (last a) (inr h) g = absurd h
within v x (leaf a t) (inl e) g = subst (Among v) e g
within v x (leaf a t) (inr h) g = inr (within v x t h g)
within v x (fork m s t) (inl e) g = subst (Among v) e g
within v x (fork m s t) (inr h) g =
    ⊎_elim (λ l. among_left v (identities s) (identities t) (within v x s l g))
    (λ r. among_right v (identities s) (identities t) (within v x t r g))
    (among_cases x (stretches s) (stretches t) h)

-- and it has its leader's
some_within : (x : List ℕ) (t : Tree) → Among x (stretches t) → (v : ℕ) × Among v x
some_within x (last a) (inl e) = (a, subst (Among a) (sym e) (inl refl))
some_within x (last a) (inr h) = absurd h
some_within x (leaf a t) (inl e) = (a, subst (Among a) (sym e) (inl refl))
some_within x (leaf a t) (inr h) = some_within x t h
some_within x (fork m s t) (inl e) = (lead s, subst (Among (lead s)) (sym e) (among_left (lead s) (identities s) (identities t) (lead_among s)))
some_within x (fork m s t) (inr h) = ⊎_elim (some_within x s) (some_within x t) (among_cases x (stretches s) (stretches t) h)

pub own_stretches : OwnStretches
own_stretches (last a) d = (λ h. h, tt)
own_stretches (leaf a t) d = (λ h. d.0 (within a (a ∷ identities t) t h (inl refl)), own_stretches t d.1)
own_stretches (fork m s t) d =
    let whole : List ℕ = identities s ++ identities t in (
      λ h. ⊎_elim
          (λ l. apart (lead t) _ _ d (within (lead t) whole s l (among_right (lead t) (identities s) (identities t) (lead_among t))) (lead_among t))
          (λ r. apart (lead s) _ _ d (lead_among s) (within (lead s) whole t r (among_left (lead s) (identities s) (identities t) (lead_among s))))
          (among_cases whole (stretches s) (stretches t) h),
      distinct_append (stretches s) (stretches t) (own_stretches s (distinct_left _ _ d)) (own_stretches t (distinct_right _ _ d))
          (λ x l r. let v = some_within x s l in apart v.0 _ _ d (within v.0 x s l v.1) (within v.0 x t r v.1)),
    )

how_many_append : (f : List ℕ → Bool) (xs ys : List (List ℕ)) → how_many f (xs ++ ys) ≡ how_many f xs + how_many f ys
unfolding how_many
how_many_append f [] ys = omega arith
how_many_append f (x ∷ xs) ys = let more = how_many_append f xs ys in omega arith

how_many_same : (f g : List ℕ → Bool) (xs : List (List ℕ)) → ((x : List ℕ) → Among x xs → f x ≡ g x) → how_many f xs ≡ how_many g xs
unfolding how_many
how_many_same f g [] h = refl
how_many_same f g (x ∷ xs) h = ap₂ ◌+◌ (ap (λ b. cond b 1 0) (h x (inl refl))) (how_many_same f g xs (λ y k. h y (inr k)))

how_many_none : (f : List ℕ → Bool) (xs : List (List ℕ)) → ((x : List ℕ) → Among x xs → f x ≡ false) → how_many f xs ≡ 0
unfolding how_many
how_many_none f [] h = refl
how_many_none f (x ∷ xs) h = rw (h x (inl refl)) (omega (arith, how_many_none f xs (λ y k. h y (inr k))))

how_many_first : (f : List ℕ → Bool) (x : List ℕ) (xs : List (List ℕ)) → f x ≡ true → how_many f (x ∷ xs) ≡ suc (how_many f xs)
unfolding how_many
how_many_first f x xs h = rw h (omega arith)

-- a node lacks an identity that its tree lacks
lacks : (v : ℕ) (t : Tree) → (Among v (identities t) → ⊥) → (x : List ℕ) → Among x (stretches t) → has v x ≡ false
lacks v t h x k = has_not v x (λ g. h (within v x t k g))

-- the identity at the end of a path
name : {t : Tree} → Path t → ℕ
name (end {a}) = a
name (stop {a}) = a
name (on w) = name w
name (below w) = name w
name (after w) = name w

name_among : {t : Tree} (w : Path t) → Among (name w) (identities t)
unfolding name
name_among end = inl refl
name_among stop = inl refl
name_among (on w) = inr (name_among w)
name_among (below {m} {s} {t} w) = among_left (name w) (identities s) (identities t) (name_among w)
name_among (after {m} {s} {t} w) = among_right (name w) (identities s) (identities t) (name_among w)

-- so the root of every path has it
root_has : {t : Tree} (w : Path t) → has (name w) (identities t) ≡ true
root_has {t} w = has_among (name w) (identities t) (name_among w)

-- what is counted under a root that passes the test
leaf_count : (f : List ℕ → Bool) (a : ℕ) (t : Tree) → f (a ∷ identities t) ≡ true → how_many f (stretches (leaf a t)) ≡ suc (how_many f (stretches t))
leaf_count f a t h = how_many_first f (a ∷ identities t) (stretches t) h

fork_count :
    (f : List ℕ → Bool) (m : ℕ) (s t : Tree) → f (identities s ++ identities t) ≡ true →
    how_many f (stretches (fork m s t)) ≡ suc (how_many f (stretches s) + how_many f (stretches t))
fork_count f m s t h =
    how_many_first f (identities s ++ identities t) (stretches s ++ stretches t) h ∙ ap suc (how_many_append f (stretches s) (stretches t))

-- each side of a fork lacks the identities of the other
after_lacks : (s t : Tree) → Distinct (identities s ++ identities t) → (w : Path s) (x : List ℕ) → Among x (stretches t) → has (name w) x ≡ false
after_lacks s t d w = lacks (name w) t (apart (name w) (identities s) (identities t) d (name_among w))

below_lacks : (s t : Tree) → Distinct (identities s ++ identities t) → (w : Path t) (x : List ℕ) → Among x (stretches s) → has (name w) x ≡ false
below_lacks s t d w = lacks (name w) s (λ h. apart (name w) (identities s) (identities t) d h (name_among w))

one_path : {t : Tree} (w : Path t) → Distinct (identities t) → nodes w ≡ how_many (has (name w)) (stretches t)
unfolding nodes name
one_path (end {a}) d = sym (how_many_first (has a) (a ∷ []) [] (root_has (end {a = a})) ∙ ap suc (how_many_none (has a) [] (λ x h. absurd h)))
one_path (stop {a} {t}) d =
    sym (leaf_count (has a) a t (root_has (stop {a = a} {t = t})) ∙ ap suc (how_many_none (has a) (stretches t) (lacks a t d.0)))
one_path (on {a} {t} w) d = ap suc (one_path w d.1) ∙ sym (leaf_count (has (name w)) a t (root_has (on {a = a} w)))
one_path (below {m} {s} {t} w) d =
    let more = one_path w (distinct_left (identities s) (identities t) d) in
    let others = how_many_none (has (name w)) (stretches t) (after_lacks s t d w) in
    omega (arith, fork_count (has (name w)) m s t (root_has (below {m = m} {t = t} w)))
one_path (after {m} {s} {t} w) d =
    let more = one_path w (distinct_right (identities s) (identities t) d) in
    let others = how_many_none (has (name w)) (stretches s) (below_lacks s t d w) in
    omega (arith, fork_count (has (name w)) m s t (root_has (after {m = m} {s = s} w)))

abbrev either : ℕ → ℕ → List ℕ → Bool
either a b x = has a x || has b x

-- where one of two identities is in no stretch, only the other counts
only_first : (a b : ℕ) (xs : List (List ℕ)) → ((x : List ℕ) → Among x xs → has b x ≡ false) → how_many (either a b) xs ≡ how_many (has a) xs
only_first a b xs h = how_many_same (either a b) (has a) xs (λ x k. rw (h x k) (right_false (has a x)))
  where
    right_false : (b : Bool) → (b || false) ≡ b
    right_false true = refl
    right_false false = refl

only_second : (a b : ℕ) (xs : List (List ℕ)) → ((x : List ℕ) → Among x xs → has a x ≡ false) → how_many (either a b) xs ≡ how_many (has b) xs
only_second a b xs h = how_many_same (either a b) (has b) xs (λ x k. rw (h x k))

neither : (a b : ℕ) (xs : List (List ℕ)) → ((x : List ℕ) → Among x xs → has a x ≡ false) → ((x : List ℕ) → Among x xs → has b x ≡ false) → how_many (either a b) xs ≡ 0
neither a b xs h g = how_many_none (either a b) xs (λ x k. or_from (has a x) (has b x) (h x k) (g x k))

root_either : {t : Tree} (v w : Path t) → either (name v) (name w) (identities t) ≡ true
root_either {t} v w = or_left (has (name v) (identities t)) (has (name w) (identities t)) (root_has v)

two_paths : {t : Tree} (v w : Path t) → Distinct (identities t) → nodes_of_both v w ≡ how_many (either (name v) (name w)) (stretches t)
unfolding nodes_of_both nodes name
two_paths (end {a}) end d = one_path (end {a = a}) d ∙ sym (how_many_same (either a a) (has a) _ (λ x h. same_twice (has a x)))
  where
    same_twice : (b : Bool) → (b || b) ≡ b
    same_twice true = refl
    same_twice false = refl
two_paths (stop {a} {t}) stop d =
    let others = neither a a (stretches t) (lacks a t d.0) (lacks a t d.0) in
    omega (arith, leaf_count (either a a) a t (root_either (stop {a = a} {t = t}) stop))
two_paths (stop {a} {t}) (on w) d =
    let more = one_path w d.1 in
    let others = only_second a (name w) (stretches t) (lacks a t d.0) in
    omega (arith, leaf_count (either a (name w)) a t (root_either (stop {a = a} {t = t}) (on w)))
two_paths (on {a} {t} v) stop d =
    let more = one_path v d.1 in
    let others = only_first (name v) a (stretches t) (lacks a t d.0) in
    omega (arith, leaf_count (either (name v) a) a t (root_either (on {a = a} v) stop))
two_paths (on {a} {t} v) (on w) d =
    ap suc (two_paths v w d.1) ∙ sym (leaf_count (either (name v) (name w)) a t (root_either (on {a = a} v) (on w)))
two_paths (below {m} {s} {t} v) (below w) d =
    let more = two_paths v w (distinct_left (identities s) (identities t) d) in
    let others = neither (name v) (name w) (stretches t) (after_lacks s t d v) (after_lacks s t d w) in
    omega (arith, fork_count (either (name v) (name w)) m s t (root_either (below {m = m} {t = t} v) (below w)))
two_paths (below {m} {s} {t} v) (after w) d =
    let first = one_path v (distinct_left (identities s) (identities t) d) in
    let second = one_path w (distinct_right (identities s) (identities t) d) in
    let in_below = only_first (name v) (name w) (stretches s) (below_lacks s t d w) in
    let in_after = only_second (name v) (name w) (stretches t) (after_lacks s t d v) in
    omega (arith, fork_count (either (name v) (name w)) m s t (root_either (below {m = m} {t = t} v) (after w)))
two_paths (after {m} {s} {t} v) (below w) d =
    let first = one_path v (distinct_right (identities s) (identities t) d) in
    let second = one_path w (distinct_left (identities s) (identities t) d) in
    let in_below = only_second (name v) (name w) (stretches s) (below_lacks s t d v) in
    let in_after = only_first (name v) (name w) (stretches t) (after_lacks s t d w) in
    omega (arith, fork_count (either (name v) (name w)) m s t (root_either (after {m = m} {s = s} v) (below w)))
two_paths (after {m} {s} {t} v) (after w) d =
    let more = two_paths v w (distinct_right (identities s) (identities t) d) in
    let others = neither (name v) (name w) (stretches s) (below_lacks s t d v) (below_lacks s t d w) in
    omega (arith, fork_count (either (name v) (name w)) m s t (root_either (after {m = m} {s = s} v) (after w)))

name_place : (t : Tree) (p : ℕ) → p < length (identities t) → name (to_place t p) ≡ get_or (identities t) p 0
unfolding name to_place
name_place (last a) zero h = refl
name_place (last a) (suc p) h = absurd (omega arith)
name_place (leaf a t) zero h = refl
name_place (leaf a t) (suc p) h = name_place t p (omega arith)
name_place (fork m s t) p h =
    let count = leaves_identities s in
    ⊎_elim
    (λ l. ap name (to_place_below m s t p (omega arith)) ∙ name_place s p l ∙ sym (get_or_append_left (identities s) (identities t) 0 p l))
    (λ g. let q : ℕ = p - leaves s in
    ap name (to_place_after m s t p q (omega arith)) ∙ name_place t q (omega (arith, length-append (identities s) (identities t))) ∙
    sym (get_or-append_right (identities s) (identities t) (leaves s) p 0 (sym count) (omega arith)))
    (cases_lt p (length (identities s)))

pub paths_have_nodes : PathsHaveNodes
paths_have_nodes t p q d h g =
    let first = name_place t p h in
    let second = name_place t q g in
    record {
      one = one_path (to_place t p) d ∙ ap (λ (a : ℕ). how_many (has a) (stretches t)) first;
      two = two_paths (to_place t p) (to_place t q) d ∙ ap₂ (λ (a b : ℕ). how_many (either a b) (stretches t)) first second;
    }
