-- The plans of the edits without their entries: those of the FlexList at the path to the place. Assumes nothing.
use Rattle.std.proofs.Common.{◌≡◌, ℕ, zero, suc, ◌+◌, ◌-◌, ◌<◌, ◌≤◌, Bool, true, false, cond, ltb, leb, sym, refl, ap, ◌∙◌, ⊎_elim, arith}
use Rattle.std.proofs.lemmas.Bool.{cases_lt, lt-ltb, le-ltb, le-leb, lt-leb, cond-true, cond-false}
use Rattle.flexlist.specs.Shape.{Tree}
use Rattle.flexlist.specs.Shape as flat
use Rattle.flexlist.specs.Nodes.{leaves, to_place}
use Rattle.flexlist.specs.Building.{Plan, keep, new_leaf, new_fork, at_end, left, right, cut, insert, change}
use Rattle.flexlist.proofs.Places.{to_place_below, to_place_after}
use Rattle.flexlist.specs.Laid.{Laid, last, leaf, fork, plain, plain_plan}
use Rattle.nodes.specs.Changing.{change_at}
use Rattle.nodes.specs.Cutting.{ends_at, left_at, right_at, cut_at, insert_at}
use Rattle.nodes.proofs.Changes.{change_below_is, change_after_is}
use Rattle.nodes.proofs.Held.{leaves_some}
use Rattle.nodes.proofs.Cuts.{left_below_is, right_below_is, right_after_is}

pub plain_cond : (b : Bool) (x y : Plan Laid) → plain_plan (cond b x y) ≡ cond b (plain_plan x) (plain_plan y)
plain_cond true x y = refl
plain_cond false x y = refl

pub cond_same : {A : Type 0} (b c : Bool) (x y x' y' : A) → b ≡ c → x ≡ x' → y ≡ y' → cond b x y ≡ cond c x' y'
cond_same b c x y x' y' e f g = ap (λ i. cond i x y) e ∙ ap (λ i. cond c i y) f ∙ ap (cond c x') g

same_test : (a b c d : ℕ) → (a ≤ b → c ≤ d) → (b < a → d < c) → leb a b ≡ leb c d
same_test a b c d f g =
    ⊎_elim
    (λ h. lt-leb a b h ∙ sym (lt-leb c d (g h)))
    (λ h. le-leb a b h ∙ sym (le-leb c d (f h)))
    (cases_lt b a)

pub change_plain : (n : ℕ) (t : Laid) (p : ℕ) → plain_plan (change_at n t p) ≡ change n (to_place (plain t) p)
unfolding change_at change to_place
change_plain n (last e a) p = refl
change_plain n (leaf e a t) zero = refl
change_plain n (leaf e a t) (suc p) = ap (new_leaf a) (change_plain n t p)
change_plain n (fork e m x y) p =
    ⊎_elim
    (λ h. ap plain_plan (change_below_is n e m x y p h) ∙ ap (λ i. new_fork m i (keep (plain y))) (change_plain n x p) ∙ sym (ap (λ w. change n w) (to_place_below m (plain x) (plain y) p h)))
    (λ h. let q = p - leaves (plain x) in
    let over : p ≡ leaves (plain x) + q = omega arith in
    ap plain_plan (change_after_is n e m x y p h) ∙ ap (λ i. new_fork m (keep (plain x)) i) (change_plain n y q) ∙ sym (ap (λ w. change n w) (to_place_after m (plain x) (plain y) p q over)))
    (cases_lt p (leaves (plain x)))

-- whether the path to a place leads to the last leaf
pub ends_plain : (t : Tree) (p : ℕ) → at_end (to_place t p) ≡ leb (leaves t) (suc p)
unfolding at_end to_place leaves
ends_plain (flat.Tree.last a) p = sym (le-leb 1 (suc p) (omega arith))
ends_plain (flat.Tree.leaf a t) zero = sym (lt-leb (suc (leaves t)) 1 (omega (arith, leaves_some t)))
ends_plain (flat.Tree.leaf a t) (suc p) = ends_plain t p ∙ same_test (leaves t) (suc p) (suc (leaves t)) (suc (suc p)) (λ h. omega arith) (λ h. omega arith)
ends_plain (flat.Tree.fork m s t) p =
    ⊎_elim
    (λ h. ap at_end (to_place_below m s t p h) ∙ sym (lt-leb (leaves s + leaves t) (suc p) (omega (arith, leaves_some t))))
    (λ h. let q = p - leaves s in
    let over : p ≡ leaves s + q = omega arith in
    ap at_end (to_place_after m s t p q over) ∙ ends_plain t q ∙ same_test (leaves t) (suc q) (leaves s + leaves t) (suc p) (λ h. omega arith) (λ h. omega arith))
    (cases_lt p (leaves s))

pub left_plain : (t : Laid) (p : ℕ) → plain_plan (left_at t p) ≡ left (to_place (plain t) p)
unfolding left_at left to_place
left_plain (last e a) p = refl
left_plain (leaf e a t) zero = refl
left_plain (leaf e a t) (suc p) = plain_cond (ends_at t p) _ _ ∙ cond_same _ _ _ _ _ _ (sym (ends_plain (plain t) p)) refl (ap (new_leaf a) (left_plain t p))
left_plain (fork e m x y) p =
    ⊎_elim
    (λ h. ap plain_plan (left_below_is e m x y p h) ∙ left_plain x p ∙ sym (ap (λ w. left w) (to_place_below m (plain x) (plain y) p h)))
    (λ h. let q = p - leaves (plain x) in
    let over : p ≡ leaves (plain x) + q = omega arith in
    ap plain_plan (cond-false _ _ _ (le-ltb p (leaves (plain x)) h)) ∙ plain_cond (ends_at y q) _ _
    ∙ cond_same _ _ _ _ _ _ (sym (ends_plain (plain y) q)) refl (ap (new_fork m (keep (plain x))) (left_plain y q))
    ∙ sym (ap (λ w. left w) (to_place_after m (plain x) (plain y) p q over)))
    (cases_lt p (leaves (plain x)))

pub right_plain : (n : ℕ) (t : Laid) (p : ℕ) → plain_plan (right_at n t p) ≡ right n (to_place (plain t) p)
unfolding right_at right to_place
right_plain n (last e a) p = refl
right_plain n (leaf e a t) zero = refl
right_plain n (leaf e a t) (suc p) = right_plain n t p
right_plain n (fork e m x y) p =
    ⊎_elim
    (λ h. ap plain_plan (right_below_is n e m x y p h) ∙ ap (λ i. new_fork m i (keep (plain y))) (right_plain n x p) ∙ sym (ap (λ w. right n w) (to_place_below m (plain x) (plain y) p h)))
    (λ h. let q = p - leaves (plain x) in
    let over : p ≡ leaves (plain x) + q = omega arith in
    ap plain_plan (right_after_is n e m x y p h) ∙ right_plain n y q ∙ sym (ap (λ w. right n w) (to_place_after m (plain x) (plain y) p q over)))
    (cases_lt p (leaves (plain x)))

pub cut_plain : (n k : ℕ) (t : Laid) (p : ℕ) → plain_plan (cut_at n k t p) ≡ cut n k (to_place (plain t) p)
unfolding cut_at cut
cut_plain n k t p = ap (λ i. new_fork k i (plain_plan (right_at n t p))) (left_plain t p) ∙ ap (new_fork k (left (to_place (plain t) p))) (right_plain n t p)

pub insert_plain : (n k : ℕ) (t : Laid) (p : ℕ) → plain_plan (insert_at n k t p) ≡ insert n k (to_place (plain t) p)
unfolding insert_at insert to_place
insert_plain n zero (last e a) p = refl
insert_plain n (suc k) (last e a) p = cut_plain n (suc k) (last e a) p
insert_plain n zero (leaf e a t) zero = refl
insert_plain n zero (leaf e a t) (suc p) = ap (new_leaf a) (insert_plain n zero t p)
insert_plain n (suc k) (leaf e a t) zero = cut_plain n (suc k) (leaf e a t) zero
insert_plain n (suc k) (leaf e a t) (suc p) = cut_plain n (suc k) (leaf e a t) (suc p)
insert_plain n k (fork e m x y) p =
    ⊎_elim
    (λ h. let way = to_place_below m (plain x) (plain y) p h in
    ap plain_plan (cond-true _ _ _ (lt-ltb p (leaves (plain x)) h)) ∙ plain_cond (leb m k) _ _
    ∙ cond_same _ _ _ _ _ _ refl (cut_plain n k (fork e m x y) p ∙ ap (λ w. cut n k w) way) (ap (λ i. new_fork m i (keep (plain y))) (insert_plain n k x p))
    ∙ sym (ap (λ w. insert n k w) way))
    (λ h. let q = p - leaves (plain x) in
    let over : p ≡ leaves (plain x) + q = omega arith in
    let way = to_place_after m (plain x) (plain y) p q over in
    ap plain_plan (cond-false _ _ _ (le-ltb p (leaves (plain x)) h)) ∙ plain_cond (ltb m k) _ _
    ∙ cond_same _ _ _ _ _ _ refl (cut_plain n k (fork e m x y) p ∙ ap (λ w. cut n k w) way) (ap (new_fork m (keep (plain x))) (insert_plain n k y q))
    ∙ sym (ap (λ w. insert n k w) way))
    (cases_lt p (leaves (plain x)))
