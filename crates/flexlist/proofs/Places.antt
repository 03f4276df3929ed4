-- A place and the path to it: as many blocks stand before the path's end as the place says.
use Rattle.std.proofs.Common.{◌≡◌, ℕ, zero, suc, ◌+◌, ◌-◌, ◌<◌, ◌⊎◌, List, [], ◌∷◌, ◌++◌, length, sym, refl, ap, ◌∙◌, inl, inr, ⊎_elim, arith, length-append}
use Rattle.std.proofs.lemmas.Bool.{cases_lt, lt-ltb, le-ltb, cond-true, cond-false}
use Rattle.std.proofs.lemmas.List.{append_assoc}
use Rattle.flexlist.specs.Shape.{Block, block, Tree, last, leaf, fork, FlexList}
use Rattle.flexlist.specs.Nodes.{Path, end, stop, on, below, after, leaves, to_place, place, Places}
use Rattle.flexlist.specs.Building.{Gap, here, further, in_below, between, in_after, to_first, to_last, to_this, to_before}
use Rattle.flexlist.proofs.Shape.{cells, flex_cells}
use Rattle.flexlist.proofs.Cuts.{prior, at, behind, cells_path}
use Rattle.flexlist.proofs.Lists.{same_cut}

leaves_cells : (k : ℕ) (t : Tree) → length (cells k t) ≡ leaves t
unfolding cells leaves
leaves_cells k (last a) = refl
leaves_cells k (leaf a t) = ap suc (leaves_cells 0 t)
leaves_cells k (fork m s t) =
    let first = leaves_cells k s in
    let second = leaves_cells m t in
    omega (arith, length-append (cells k s) (cells m t))

prior_length : {t : Tree} (k : ℕ) (w : Path t) → length (prior k w) ≡ place w
unfolding prior place
prior_length k end = refl
prior_length k stop = refl
prior_length k (on w) = ap suc (prior_length 0 w)
prior_length k (below w) = prior_length k w
prior_length k (after {m} {s} w) =
    let more = prior_length m w in omega (arith, length-append (cells k s) (prior m w), leaves_cells k s)

pub to_place_below : (m : ℕ) (s t : Tree) (p : ℕ) → p < leaves s → to_place (fork m s t) p ≡ below (to_place s p)
unfolding to_place
to_place_below m s t p h = cond-true _ _ _ (lt-ltb p (leaves s) h)

pub to_place_after : (m : ℕ) (s t : Tree) (p q : ℕ) → p ≡ leaves s + q → to_place (fork m s t) p ≡ after (to_place t q)
unfolding to_place
to_place_after m s t p q e =
    let over : p - leaves s ≡ q = omega arith in
    cond-false _ _ _ (le-ltb p (leaves s) (omega arith)) ∙ ap (λ n. after (to_place t n)) over

pub place_to_place : (t : Tree) (p : ℕ) → p < leaves t → place (to_place t p) ≡ p
unfolding place to_place leaves
place_to_place (last a) p h = omega arith
place_to_place (leaf a t) zero h = refl
place_to_place (leaf a t) (suc p) h = ap suc (place_to_place t p (omega arith))
place_to_place (fork m s t) p h =
    ⊎_elim
    (λ l. ap place (to_place_below m s t p l) ∙ place_to_place s p l)
    (λ g. let more = place_to_place t (p - leaves s) (omega arith) in
    let here : place (to_place (fork m s t) p) ≡ leaves s + place (to_place t (p - leaves s)) = ap place (to_place_after m s t p (p - leaves s) (omega arith)) in
    omega arith)
    (cases_lt p (leaves s))

pub place_less : {t : Tree} (w : Path t) → place w < leaves t
unfolding place leaves
place_less end = omega arith
place_less stop = omega arith
place_less (on w) = let more = place_less w in omega arith
place_less (below w) = let more = place_less w in omega arith
place_less (after w) = let more = place_less w in omega arith

pub to_place_place : {t : Tree} (w : Path t) → to_place t (place w) ≡ w
unfolding place to_place
to_place_place end = refl
to_place_place stop = refl
to_place_place (on w) = ap on (to_place_place w)
to_place_place (below {m} {s} {t} w) = to_place_below m s t (place w) (place_less w) ∙ ap below (to_place_place w)
to_place_place (after {m} {s} {t} w) = to_place_after m s t (leaves s + place w) (place w) refl ∙ ap after (to_place_place w)

pub places : (t : Tree) → Places t
places t = record { path_of_place = λ w. to_place_place w; place_of_path = place_to_place t }

first_or_gap : {t : Tree} (w : Path t) → (w ≡ to_first t) ⊎ ((g : Gap t) × (to_this g ≡ w))
unfolding to_first to_this
first_or_gap end = inl refl
first_or_gap stop = inl refl
first_or_gap (on w) = ⊎_elim (λ e. inr (here, ap on (sym e))) (λ g. inr (further g.0, ap on g.1)) (first_or_gap w)
first_or_gap (below w) = ⊎_elim (λ e. inl (ap below e)) (λ g. inr (in_below g.0, ap below g.1)) (first_or_gap w)
first_or_gap (after w) = ⊎_elim (λ e. inr (between, ap after (sym e))) (λ g. inr (in_after g.0, ap after g.1)) (first_or_gap w)

pub place_first : (t : Tree) → place (to_first t) ≡ 0
unfolding place to_first
place_first (last a) = refl
place_first (leaf a t) = refl
place_first (fork m s t) = place_first s

pub place_last : (t : Tree) → suc (place (to_last t)) ≡ leaves t
unfolding place to_last leaves
place_last (last a) = refl
place_last (leaf a t) = ap suc (place_last t)
place_last (fork m s t) = let more = place_last t in omega arith

pub place_gap : {t : Tree} (g : Gap t) → place (to_this g) ≡ suc (place (to_before g))
unfolding place to_this to_before
place_gap (here {a} {t}) = ap suc (place_first t)
place_gap (further g) = ap suc (place_gap g)
place_gap (in_below g) = place_gap g
place_gap (between {m} {s} {t}) = omega (arith, place_first t, place_last s)
place_gap (in_after g) = let more = place_gap g in omega arith

-- the gap before a place that is not the leader's
pub record Found (t : Tree) (p : ℕ) : Type 0 where
  pub gap : Gap t
  pub this : to_this gap ≡ to_place t (suc p)
  pub before : to_before gap ≡ to_place t p

pub found : (t : Tree) (p : ℕ) → suc p < leaves t → Found t p
found t p h =
    let far : place (to_place t (suc p)) ≡ suc p = place_to_place t (suc p) h in
    ⊎_elim
    (λ e. let none : place (to_place t (suc p)) ≡ 0 = ap place e ∙ place_first t in absurd (omega arith))
    (λ g. let same : place (to_this g.0) ≡ place (to_place t (suc p)) = ap place g.1 in
    let one_less : place (to_before g.0) ≡ p = omega (arith, place_gap g.0) in
    record { gap = g.0; this = g.1; before = sym (to_place_place (to_before g.0)) ∙ ap (to_place t) one_less })
    (first_or_gap (to_place t (suc p)))

-- where the path to a place of a FlexList cuts its list
pub record Cut (l : ℕ) (xs : List Block) (b : Block) (ys : List Block) (t : Tree) (w : Path t) : Type 0 where
  pub prior_is : prior 0 w ≡ block l 0 ∷ xs
  pub at_is : at 0 w ≡ b
  pub behind_is : behind w ≡ ys

pub long_enough : {l : ℕ} {bs : List Block} {t : Tree} → FlexList l bs t → leaves t ≡ suc (length bs)
long_enough {t = t} f = sym (leaves_cells 0 t) ∙ ap length (flex_cells 0 f)

pub cut_at : (l : ℕ) (xs : List Block) (b : Block) (ys : List Block) {t : Tree} → FlexList l (xs ++ b ∷ ys) t → Cut l xs b ys t (to_place t (suc (length xs)))
cut_at l xs b ys {t} f =
    let w : Path t = to_place t (suc (length xs)) in
    let fits : suc (length xs) < leaves t = omega (arith, long_enough f, length-append xs (b ∷ ys)) in
    let parts = same_cut (prior 0 w) (at 0 w ∷ behind w) (block l 0 ∷ xs) (b ∷ ys) (sym (cells_path 0 w) ∙ flex_cells 0 f) (prior_length 0 w ∙ place_to_place t _ fits) in
    let tails : at 0 w ∷ behind w ≡ b ∷ ys = parts.1 in
    record { prior_is = parts.0; at_is = cc; behind_is = cc }

-- the same for the place before a cut between two blocks
pub record CutAfter (l : ℕ) (xs ys : List Block) (t : Tree) (w : Path t) : Type 0 where
  pub upto_is : prior 0 w ++ at 0 w ∷ [] ≡ block l 0 ∷ xs
  pub behind_is : behind w ≡ ys

pub cut_after : (l : ℕ) (xs ys : List Block) {t : Tree} → FlexList l (xs ++ ys) t → CutAfter l xs ys t (to_place t (length xs))
cut_after l xs ys {t} f =
    let w : Path t = to_place t (length xs) in
    let fits : length xs < leaves t = omega (arith, long_enough f, length-append xs ys) in
    let parts =
    same_cut (prior 0 w ++ at 0 w ∷ []) (behind w) (block l 0 ∷ xs) ys
    (append_assoc (prior 0 w) (at 0 w ∷ []) (behind w) ∙ sym (cells_path 0 w) ∙ flex_cells 0 f)
    (omega (arith, length-append (prior 0 w) (at 0 w ∷ []), prior_length 0 w ∙ place_to_place t (length xs) fits)) in
    record { upto_is = parts.0; behind_is = parts.1 }
