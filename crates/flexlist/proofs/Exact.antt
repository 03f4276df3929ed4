-- All that a sharing edit makes is new, where identities are distinct and an inserted one is fresh.
use Rattle.std.proofs.Common.{◌≡◌, ℕ, zero, suc, false, ltb, leb, ◌⊎◌, List, [], ◌∷◌, ◌++◌, map, length, sym, refl, ap, ◌∙◌, subst, inl, inr, ⊎_elim, arith}
use Rattle.std.proofs.lemmas.Bool.{cond_both}
use Rattle.std.proofs.lemmas.List.{append_assoc, append-nil, map-append}
use Rattle.flexlist.specs.Shape.{Block, block, Tree, last, leaf, fork, FlexList}
use Rattle.flexlist.specs.Nodes.{identities, stretches, Path, end, stop, on, below, after, nodes, to_place, Among, Distinct}
use Rattle.flexlist.specs.Sharing.{written, ChangeBound}
use Rattle.flexlist.specs.Building.{Keeps, EachMade, New, Builds, Plan, built, at_end, left, right, cut, insert, change, lead_by, Gap, here, further, in_below, between, in_after, remove, InsertBuilds, ChangeBuilds, RemovalBuilds}
use Rattle.flexlist.proofs.Lists.{among_left, among_right, among_cases, among_map, apart, distinct_left, distinct_right}
use Rattle.flexlist.proofs.Paths.{within}
use Rattle.flexlist.proofs.Shape.{cells, lead, tail_of, lead_tail, lead_among, identities_cells}
use Rattle.flexlist.proofs.Cuts.{prior, at, behind, cells_path, cells_left, cells_right, cells_insert, cells_change}
use Rattle.flexlist.proofs.Merges.{Longer, Merging, kept, joined, past_leaf, past_fork, under_fork, merging}
use Rattle.flexlist.proofs.Written.{each_weaker, written_exactly, keeps_insert, keeps_change, keeps_remove, made_change}
use Rattle.flexlist.proofs.Bounds.{insert_gives, change_gives, remove_gives, gap_at, any_other}

among_cells : (b : Block) (t : Tree) → Among b (cells 0 t) → Among b.identity (identities t)
among_cells b t h = rw (identities_cells 0 t) (among_map b (λ x. x.identity) (cells 0 t) h)

-- all that is made around the identity n has it
among_right_of : {t : Tree} (n : ℕ) (w : Path t) → Among n (identities (built (right n w)))
among_right_of n w = among_cells (block n 0) (built (right n w)) (rw (cells_right n 0 w) (inl refl))

among_change : {t : Tree} (n : ℕ) (w : Path t) → Among n (identities (built (change n w)))
among_change n w =
    let b : Block = block n (at 0 w).level in
    among_cells b (built (change n w)) (rw (cells_change n 0 w) (among_right b (prior 0 w) (b ∷ behind w) (inl refl)))

among_insert : {t : Tree} (n k : ℕ) (w : Path t) → Among n (identities (built (insert n k w)))
among_insert n k w =
    let b : Block = block n k in
    among_cells b (built (insert n k w)) (rw (cells_insert n k 0 w) (among_right b (prior 0 w) (at 0 w ∷ b ∷ behind w) (inr (inl refl))))

each_right : {t : Tree} (n : ℕ) (w : Path t) → EachMade (Among n) (right n w)
unfolding built right
each_right n end = inl refl
each_right n stop = (inl refl, tt)
each_right n (on w) = each_right n w
each_right n (below {m} {s} {t} w) = (among_left n _ (identities t) (among_right_of n w), each_right n w, tt)
each_right n (after w) = each_right n w

each_change : {t : Tree} (n : ℕ) (w : Path t) → EachMade (Among n) (change n w)
unfolding built change
each_change n end = inl refl
each_change n stop = (inl refl, tt)
each_change n (on w) = (inr (among_change n w), each_change n w)
each_change n (below {m} {s} {t} w) = (among_left n _ (identities t) (among_change n w), each_change n w, tt)
each_change n (after {m} {s} {t} w) = (among_right n (identities s) _ (among_change n w), tt, each_change n w)

-- no node of a tree has an identity that the tree lacks
pub lacking : (n : ℕ) (t : Tree) → (Among n (identities t) → ⊥) → (x : List ℕ) → Among n x → New (stretches t) x
lacking n t h x g k = h (within n x t k g)

-- a plan that keeps only what the base has, and makes only what it has not
builds :
    (l : ℕ) (bs : List Block) (base : Tree) (apart : Type 0) (x : Plan Tree) →
    FlexList l bs (built x) → Keeps (stretches base) x → (apart → EachMade (New (stretches base)) x) → Builds l bs base apart x
unfolding written
builds l bs base apart x f h new =
    record { gives = f; keeps = h; makes_new = new; exact = λ d. sym (written_exactly (stretches base) x h (new d)) }

pub change_builds : ChangeBuilds
change_builds l xs ys b c base f e =
    let n : ℕ = c.identity in
    let w : Path base = to_place base (suc (length xs)) in
    builds l _ base _ (change n w) (change_gives l xs ys b c base f e) (keeps_change (stretches base) n w (λ y k. k))
    (λ h. each_weaker (Among n) (New (stretches base)) (lacking n base h) (change n w) (each_change n w))

pub change_bound : ChangeBound
change_bound l xs ys b c base new f g e h =
    let w : Path base = to_place base (suc (length xs)) in
    let x = change_builds l xs ys b c base f e in
    any_other l _ (λ t. written base t ≡ nodes w) _ new x.gives g (sym (x.exact h) ∙ made_change c.identity w)

-- Every one of these stretches is a node of the tree, or has none of its identities, or all.
abbrev Nested : List (List ℕ) → Tree → Type 0
Nested base t =
    (x : List ℕ) → Among x base →
    Among x (stretches t) ⊎ (((v : ℕ) → Among v (identities t) → Among v x → ⊥) ⊎ ((v : ℕ) → Among v (identities t) → Among v x))

-- a part of a tree, where the tree's own nodes are nested about it
nested_part : (base : List (List ℕ)) (whole part : Tree) → ((v : ℕ) → Among v (identities part) → Among v (identities whole)) → Nested (stretches whole) part → Nested base whole → Nested base part
nested_part base whole part sub own c x h =
    ⊎_elim (own x) (λ o. inr (⊎_elim (λ k. inl (λ v i. k v (sub v i))) (λ k. inr (λ v i. k v (sub v i))) o)) (c x h)

nested_next : (base : List (List ℕ)) (a : ℕ) (t : Tree) → Nested base (leaf a t) → Nested base t
nested_next base a t =
    nested_part base (leaf a t) t (λ v i. inr i)
    (λ x. ⊎_elim (λ e. inr (inr (λ v i. subst (Among v) (sym e) (inr i)))) (λ k. inl k))

nested_below : (base : List (List ℕ)) (m : ℕ) (s t : Tree) → Distinct (identities s ++ identities t) → Nested base (fork m s t) → Nested base s
nested_below base m s t d =
    let sub : (v : ℕ) → Among v (identities s) → Among v (identities s ++ identities t) = λ v. among_left v (identities s) (identities t) in
    nested_part base (fork m s t) s sub
    (λ x. ⊎_elim (λ e. inr (inr (λ v i. subst (Among v) (sym e) (sub v i))))
    (λ k. ⊎_elim (λ l. inl l) (λ r. inr (inl (λ v i j. apart v (identities s) (identities t) d i (within v x t r j)))) (among_cases x (stretches s) (stretches t) k)))

nested_after : (base : List (List ℕ)) (m : ℕ) (s t : Tree) → Distinct (identities s ++ identities t) → Nested base (fork m s t) → Nested base t
nested_after base m s t d =
    let sub : (v : ℕ) → Among v (identities t) → Among v (identities s ++ identities t) = λ v. among_right v (identities s) (identities t) in
    nested_part base (fork m s t) t sub
    (λ x. ⊎_elim (λ e. inr (inr (λ v i. subst (Among v) (sym e) (sub v i))))
    (λ k. ⊎_elim (λ l. inr (inl (λ v i j. apart v (identities s) (identities t) d (within v x s l j) i))) (λ r. inl r) (among_cases x (stretches s) (stretches t) k)))

-- an identity that one list has and another lacks
abbrev Lost : List ℕ → List ℕ → Type 0
Lost ys x = (v : ℕ) × Among v ys × (Among v x → ⊥)

-- a stretch with a leaf's identity, but not with all under the leaf, is new
new_at_leaf : (base : List (List ℕ)) (a : ℕ) (t : Tree) (x : List ℕ) → Nested base (leaf a t) → Distinct (a ∷ identities t) → Among a x → Lost (a ∷ identities t) x → New base x
new_at_leaf base a t x c d h l k =
    ⊎_elim
    (⊎_elim (λ e. l.2 (subst (Among l.0) (sym e) l.1)) (λ i. d.0 (within a x t i h)))
    (⊎_elim (λ o. o a (inl refl) h) (λ o. l.2 (o l.0 l.1)))
    (c x k)

-- a stretch with identities of both sides of a fork, but not with all, is new
new_at_fork :
    (base : List (List ℕ)) (m : ℕ) (s t : Tree) (x : List ℕ) → Nested base (fork m s t) → Distinct (identities s ++ identities t) →
    (v w : ℕ) → Among v (identities s) → Among v x → Among w (identities t) → Among w x → Lost (identities s ++ identities t) x → New base x
new_at_fork base m s t x c d v w vs vx wt wx l k =
    ⊎_elim
    (⊎_elim (λ e. l.2 (subst (Among l.0) (sym e) l.1))
    (λ i. ⊎_elim (λ p. apart w _ _ d (within w x s p wx) wt) (λ q. apart v _ _ d vs (within v x t q vx)) (among_cases x (stretches s) (stretches t) i)))
    (⊎_elim (λ o. o v (among_left v _ _ vs) vx) (λ o. l.2 (o l.0 l.1)))
    (c x k)

lost_append : (zs ys x : List ℕ) → Distinct (zs ++ ys) → Lost ys x → Lost (zs ++ ys) (zs ++ x)
lost_append zs ys x d l =
    (l.0, among_right l.0 zs ys l.1, λ h. ⊎_elim (λ z. apart l.0 zs ys d z l.1) l.2 (among_cases l.0 zs x h))

left_identities : {t : Tree} (w : Path t) → identities t ≡ identities (built (left w)) ++ map (λ b. b.identity) (behind w)
left_identities {t} w =
    identities_cells 0 t ∙
    ap (map (λ b. b.identity)) (cells_path 0 w ∙ sym (append_assoc (prior 0 w) (at 0 w ∷ []) (behind w))) ∙
    map-append (λ b. b.identity) (prior 0 w ++ at 0 w ∷ []) (behind w) ∙
    ap {B = List ℕ} (λ x. x ++ map (λ b. b.identity) (behind w)) (sym (identities_cells 0 (built (left w)) ∙ ap (map (λ b. b.identity)) (cells_left 0 w)))

-- a path that does not lead to the last leaf leaves some identity behind
some_behind : {t : Tree} (w : Path t) → at_end w ≡ false → (v : ℕ) × Among v (map (λ b. b.identity) (behind w))
unfolding at_end behind
some_behind end e = let z : ◌≡◌ {A = ℕ} 0 1 = cc in absurd (omega arith)
some_behind (stop {a} {t}) e = (lead t, subst (Among (lead t)) (identities_cells 0 t) (lead_among t))
some_behind (on w) e = some_behind w e
some_behind (below {m} {s} {t} w) e =
    (lead t, rw (map-append (λ b. b.identity) (behind w) (cells m t)) (among_right (lead t) _ _ (subst (Among (lead t)) (identities_cells m t) (lead_among t))))
some_behind (after w) e = some_behind w e

lost_left : {t : Tree} (w : Path t) → at_end w ≡ false → Distinct (identities t) → Lost (identities t) (identities (built (left w)))
lost_left {t} w e d =
    let b = some_behind w e in (
      b.0,
      rw (left_identities w) (among_right b.0 (identities (built (left w))) _ b.1),
      λ h. apart b.0 (identities (built (left w))) _ (subst Distinct (left_identities w) d) h b.1,
    )

new_left : {t : Tree} (base : List (List ℕ)) (w : Path t) → Nested base t → Distinct (identities t) → EachMade (New base) (left w)
unfolding left built at_end
new_left base end c d = tt
new_left base (stop {a} {t}) c d = new_at_leaf base a t (a ∷ []) c d (inl refl) (lost_left (stop {a = a} {t = t}) refl d)
new_left base (on {a} {t} w) c d =
    cond_both (at_end w) _ _ (EachMade (New base)) (λ _. tt)
    (λ e. (
      new_at_leaf base a t (a ∷ identities (built (left w))) c d (inl refl) (lost_append (a ∷ []) _ _ d (lost_left w e d.1)),
      new_left base w (nested_next base a t c) d.1,
    ))
new_left base (below {m} {s} {t} w) c d = new_left base w (nested_below base m s t d c) (distinct_left (identities s) (identities t) d)
new_left base (after {m} {s} {t} w) c d =
    let part : Tree = built (left w) in
    let dt : Distinct (identities t) = distinct_right (identities s) (identities t) d in
    cond_both (at_end w) _ _ (EachMade (New base)) (λ _. tt)
    (λ e. (
      new_at_fork base m s t (identities s ++ identities part) c d (lead s) (lead part)
          (lead_among s) (among_left (lead s) (identities s) (identities part) (lead_among s))
          (rw (left_identities w) (among_left (lead part) (identities part) _ (lead_among part)))
          (among_right (lead part) (identities s) (identities part) (lead_among part))
          (lost_append (identities s) _ _ d (lost_left w e dt)),
      tt,
      new_left base w (nested_after base m s t d c) dt,
    ))

-- what an insert makes has the fresh identity, or is a part cut off
module _ (base : List (List ℕ)) (n : ℕ) (has_n : (x : List ℕ) → Among n x → New base x) where
  new_cut : {t : Tree} (k : ℕ) (w : Path t) → Nested base t → Distinct (identities t) → EachMade (New base) (cut n k w)
  unfolding cut
  new_cut k w c d = (
    has_n (identities (built (left w)) ++ identities (built (right n w))) (among_right n _ _ (among_right_of n w)),
    new_left base w c d,
    each_weaker (Among n) (New base) has_n (right n w) (each_right n w),
  )

  new_insert : {t : Tree} (k : ℕ) (w : Path t) → Nested base t → Distinct (identities t) → EachMade (New base) (insert n k w)
  unfolding insert built
  new_insert zero (end {a}) c d = (has_n (a ∷ n ∷ []) (inr (inl refl)), has_n (n ∷ []) (inl refl))
  new_insert (suc k) (end {a}) c d = new_cut (suc k) (end {a = a}) c d
  new_insert zero (stop {a} {t}) c d =
      (has_n (a ∷ n ∷ identities t) (inr (inl refl)), (has_n (n ∷ identities t) (inl refl), tt))
  new_insert (suc k) (stop {a} {t}) c d = new_cut (suc k) (stop {a = a} {t = t}) c d
  new_insert zero (on {a} {t} w) c d =
      (has_n (a ∷ identities (built (insert n zero w))) (inr (among_insert n zero w)), new_insert zero w (nested_next base a t c) d.1)
  new_insert (suc k) (on {a} w) c d = new_cut (suc k) (on {a = a} w) c d
  new_insert k (below {m} {s} {t} w) c d =
      cond_both (leb m k) _ _ (EachMade (New base)) (λ _. new_cut k (below {m = m} {t = t} w) c d)
      (λ _. (
        has_n (identities (built (insert n k w)) ++ identities t) (among_left n _ _ (among_insert n k w)),
        new_insert k w (nested_below base m s t d c) (distinct_left (identities s) (identities t) d),
        tt,
      ))
  new_insert k (after {m} {s} {t} w) c d =
      cond_both (ltb m k) _ _ (EachMade (New base)) (λ _. new_cut k (after {m = m} {s = s} w) c d)
      (λ _. (
        has_n (identities s ++ identities (built (insert n k w))) (among_right n _ _ (among_insert n k w)),
        tt,
        new_insert k w (nested_after base m s t d c) (distinct_right (identities s) (identities t) d),
      ))

pub insert_builds : InsertBuilds
insert_builds l xs ys b base f =
    let n : ℕ = b.identity in
    let w : Path base = to_place base (length xs) in
    builds l _ base _ (insert n b.level w) (insert_gives l xs ys b base f) (keeps_insert (stretches base) n b.level w (λ y k. k))
    (λ d. new_insert (stretches base) n (lacking n base d.0) b.level w (λ x h. inl h) d.1)

lead_by_identities : (n : ℕ) (t : Tree) → identities (built (lead_by n t)) ≡ n ∷ tail_of t
unfolding built lead_by tail_of
lead_by_identities n (last a) = refl
lead_by_identities n (leaf a t) = refl
lead_by_identities n (fork m s t) = ap {B = List ℕ} (λ x. x ++ identities t) (lead_by_identities n s)

new_lead_by :
    (base : List (List ℕ)) (n : ℕ) (t : Tree) → ((x : List ℕ) → Among n x → (Among (lead t) x → ⊥) → New base x) →
    (Among (lead t) (identities (built (lead_by n t))) → ⊥) → EachMade (New base) (lead_by n t)
unfolding built lead_by lead
new_lead_by base n (last a) new out = new (n ∷ []) (inl refl) out
new_lead_by base n (leaf a t) new out = (new (n ∷ identities t) (inl refl) out, tt)
new_lead_by base n (fork m s t) new out = (
  new (identities (built (lead_by n s)) ++ identities t)
      (among_left n _ (identities t) (rw (lead_by_identities n s) (inl refl))) out,
  new_lead_by base n s new (λ h. out (among_left (lead s) _ _ h)),
  tt,
)

merge_identities : {s t : Tree} {x : Plan Tree} → Merging s t x → identities (built x) ≡ identities s ++ tail_of t
unfolding built tail_of
merge_identities (kept {s}) = sym (append-nil (identities s))
merge_identities joined = refl
merge_identities (past_leaf {a} g) = ap {B = List ℕ} (λ x. a ∷ x) (merge_identities g)
merge_identities (past_fork {m} {r} {s} {t} l h g) =
    ap {B = List ℕ} (λ x. identities r ++ x) (merge_identities g) ∙ sym (append_assoc (identities r) (identities s) (tail_of t))
merge_identities (under_fork {n} {s} {u} {v} h g) =
    ap {B = List ℕ} (λ x. x ++ identities v) (merge_identities g) ∙ append_assoc (identities s) (tail_of u) (identities v)

some_tail : (t : Tree) → Longer t → (v : ℕ) × Among v (tail_of t)
unfolding tail_of
some_tail (last a) l = absurd l
some_tail (leaf a t) l = (lead t, lead_among t)
some_tail (fork m s t) l = (lead t, among_right (lead t) (tail_of s) (identities t) (lead_among t))

-- a stretch with identities of both trees, but not the one taken out, is new
abbrev NewAcross : List (List ℕ) → ℕ → Tree → Tree → Type 0
NewAcross base j s t =
    (x : List ℕ) (v w : ℕ) → Among v (identities s) → Among v x → Among w (tail_of t) → Among w x → (Among j x → ⊥) → New base x

new_merge :
    {s t : Tree} {x : Plan Tree} (base : List (List ℕ)) (j : ℕ) → Merging s t x → NewAcross base j s t →
    (Among j (identities (built x)) → ⊥) → EachMade (New base) x
unfolding built tail_of
new_merge base j kept new out = tt
new_merge base j (joined {a} {j = i} {t}) new out =
    (new (a ∷ identities t) a (lead t) (inl refl) (inl refl) (lead_among t) (inr (lead_among t)) out, tt)
new_merge base j (past_leaf {a} {j = i} {s} {t} {x} g) new out = (
  new (a ∷ identities (built x)) a (lead t) (inl refl) (inl refl) (lead_among t)
      (inr (rw (merge_identities g) (among_right (lead t) (identities s) (identities t) (lead_among t)))) out,
  new_merge base j g (λ y v w p. new y v w (inr p)) (λ h. out (inr h)),
)
new_merge base j (past_fork {m} {r} {s} {t} {x} l h g) new out =
    let b = some_tail t l in (
      new (identities r ++ identities (built x)) (lead r) b.0
          (among_left (lead r) (identities r) (identities s) (lead_among r)) (among_left (lead r) (identities r) (identities (built x)) (lead_among r)) b.1
          (among_right b.0 (identities r) (identities (built x)) (rw (merge_identities g) (among_right b.0 (identities s) (tail_of t) b.1))) out,
      tt,
      new_merge base j g (λ y v w p. new y v w (among_right v (identities r) (identities s) p)) (λ k. out (among_right j (identities r) (identities (built x)) k)),
    )
new_merge base j (under_fork {n} {s} {u} {v} {x} h g) new out = (
  new (identities (built x) ++ identities v) (lead s) (lead v) (lead_among s)
      (among_left (lead s) (identities (built x)) (identities v) (rw (merge_identities g) (among_left (lead s) (identities s) (tail_of u) (lead_among s))))
      (among_right (lead v) (tail_of u) (identities v) (lead_among v)) (among_right (lead v) (identities (built x)) (identities v) (lead_among v)) out,
  new_merge base j g (λ y a b p q r. new y a b p q (among_left b (tail_of u) (identities v) r)) (λ k. out (among_left j (identities (built x)) (identities v) k)),
  tt,
)

-- the identity that a removal takes out
gone : {t : Tree} → Gap t → ℕ
gone (here {a} {t}) = lead t
gone (further g) = gone g
gone (in_below g) = gone g
gone (between {m} {s} {t}) = lead t
gone (in_after g) = gone g

was : {t : Tree} (g : Gap t) → Among (gone g) (identities t)
unfolding gone
was (here {a} {t}) = inr (lead_among t)
was (further g) = inr (was g)
was (in_below {m} {s} {t} g) = among_left (gone g) (identities s) (identities t) (was g)
was (between {m} {s} {t}) = among_right (lead t) (identities s) (identities t) (lead_among t)
was (in_after {m} {s} {t} g) = among_right (gone g) (identities s) (identities t) (was g)

tail_lacks : (t : Tree) → Distinct (identities t) → Among (lead t) (tail_of t) → ⊥
tail_lacks t d h = let e : Distinct (lead t ∷ tail_of t) = subst Distinct (lead_tail t) d in e.0 h

is_gone : {t : Tree} (g : Gap t) → Distinct (identities t) → Among (gone g) (identities (built (remove g))) → ⊥
unfolding gone built remove
is_gone (here {a} {t}) d h =
    ⊎_elim (λ e. d.0 (subst (λ v. Among v (identities t)) e (lead_among t))) (tail_lacks t d.1)
    (subst (Among (lead t)) (lead_by_identities a t) h)
is_gone (further {a} {t} g) d (inl e) = d.0 (subst (λ v. Among v (identities t)) e (was g))
is_gone (further {a} {t} g) d (inr h) = is_gone g d.1 h
is_gone (in_below {m} {s} {t} g) d h =
    ⊎_elim (is_gone g (distinct_left (identities s) (identities t) d)) (apart (gone g) (identities s) (identities t) d (was g))
    (among_cases (gone g) (identities (built (remove g))) (identities t) h)
is_gone (between {m} {s} {t}) d h =
    ⊎_elim (λ k. apart (lead t) (identities s) (identities t) d k (lead_among t)) (tail_lacks t (distinct_right (identities s) (identities t) d))
    (among_cases (lead t) (identities s) (tail_of t) (subst (Among (lead t)) (merge_identities (merging s t)) h))
is_gone (in_after {m} {s} {t} g) d h =
    ⊎_elim (λ k. apart (gone g) (identities s) (identities t) d k (was g)) (is_gone g (distinct_right (identities s) (identities t) d))
    (among_cases (gone g) (identities s) (identities (built (remove g))) h)

lead_stays : {t : Tree} (g : Gap t) → Among (lead t) (identities (built (remove g)))
unfolding lead built remove
lead_stays (here {a} {t}) = rw (lead_by_identities a t) (inl refl)
lead_stays (further g) = inl refl
lead_stays (in_below {m} {s} {t} g) = among_left (lead s) _ (identities t) (lead_stays g)
lead_stays (between {m} {s} {t}) = rw (merge_identities (merging s t)) (among_left (lead s) (identities s) (tail_of t) (lead_among s))
lead_stays (in_after {m} {s} {t} g) = among_left (lead s) (identities s) _ (lead_among s)

new_remove : {t : Tree} (base : List (List ℕ)) (g : Gap t) → Nested base t → Distinct (identities t) → EachMade (New base) (remove g)
unfolding gone remove built
new_remove base (here {a} {t}) c d =
    new_lead_by base a t (λ x h out. new_at_leaf base a t x c d h (lead t, inr (lead_among t), out)) (is_gone (here {a = a} {t = t}) d)
new_remove base (further {a} {t} g) c d = (
  new_at_leaf base a t (a ∷ identities (built (remove g))) c d (inl refl) (gone g, inr (was g), is_gone (further {a = a} g) d),
  new_remove base g (nested_next base a t c) d.1,
)
new_remove base (in_below {m} {s} {t} g) c d =
    let part : Tree = built (remove g) in (
      new_at_fork base m s t (identities part ++ identities t) c d (lead s) (lead t)
          (lead_among s) (among_left (lead s) (identities part) (identities t) (lead_stays g))
          (lead_among t) (among_right (lead t) (identities part) (identities t) (lead_among t))
          (gone g, was (in_below {m = m} {t = t} g), is_gone (in_below {m = m} {t = t} g) d),
      new_remove base g (nested_below base m s t d c) (distinct_left (identities s) (identities t) d),
      tt,
    )
new_remove base (between {m} {s} {t}) c d =
    new_merge base (lead t) (merging s t)
    (λ x v w p q r k out. new_at_fork base m s t x c d v w p q (subst (Among w) (sym (lead_tail t)) (inr r)) k
    (lead t, was (between {m = m} {s = s} {t = t}), out))
    (is_gone (between {m = m} {s = s} {t = t}) d)
new_remove base (in_after {m} {s} {t} g) c d =
    let part : Tree = built (remove g) in (
      new_at_fork base m s t (identities s ++ identities part) c d (lead s) (lead t)
          (lead_among s) (among_left (lead s) (identities s) (identities part) (lead_among s))
          (lead_among t) (among_right (lead t) (identities s) (identities part) (lead_stays g))
          (gone g, was (in_after {m = m} {s = s} g), is_gone (in_after {m = m} {s = s} g) d),
      tt,
      new_remove base g (nested_after base m s t d c) (distinct_right (identities s) (identities t) d),
    )

pub removal_builds : RemovalBuilds
removal_builds l xs ys b base f =
    let found = gap_at l xs b ys base f in
    record {
      gap = found.gap;
      this = found.this;
      before = found.before;
      builds =
          builds l _ base _ (remove found.gap) (remove_gives l xs ys b base f) (keeps_remove (stretches base) found.gap (λ y k. k))
          (new_remove (stretches base) found.gap (λ x h. inl h));
    }
