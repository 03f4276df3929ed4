-- The plans of removal without their entries: that of the FlexList at the gap before the block. Assumes nothing.
use Rattle.std.proofs.Common.{◌≡◌, ℕ, ◌-◌, ◌<◌, ltb, sym, refl, ap, ◌∙◌, arith}
use Rattle.flexlist.specs.Shape.{Tree}
use Rattle.flexlist.specs.Nodes.{leaves, to_place, place}
use Rattle.flexlist.specs.Building.{Plan, keep, new_leaf, new_fork, lead_by, merge_last, merge_leaf, merge_fork, merge, Gap, here, further, in_below, between, in_after, to_this, remove}
use Rattle.flexlist.proofs.Places.{place_gap, place_first, place_less, place_to_place}
use Rattle.flexlist.specs.Laid.{Laid, last, leaf, fork, plain, plain_plan}
use Rattle.nodes.specs.Removing.{led_by, joined_last, joined_leaf, joined_fork, joined, remove_at}
use Rattle.nodes.proofs.Plans.{plain_cond, cond_same}
use Rattle.nodes.proofs.Removals.{remove_here_is, remove_on_is, remove_below_is, remove_between_is, remove_after_is}

pub led_plain : (n : ℕ) (t : Laid) → plain_plan (led_by n t) ≡ lead_by n (plain t)
unfolding led_by lead_by
led_plain n (last e a) = refl
led_plain n (leaf e a t) = refl
led_plain n (fork e m x y) = ap (λ i. new_fork m i (keep (plain y))) (led_plain n x)

joined_last_plain : (e a : ℕ) (t : Laid) → plain_plan (joined_last e a t) ≡ merge_last a (plain t)
unfolding joined_last merge_last
joined_last_plain e a (last f j) = refl
joined_last_plain e a (leaf f j t) = refl
joined_last_plain e a (fork f n u v) = ap (λ i. new_fork n i (keep (plain v))) (joined_last_plain e a u)

joined_leaf_plain : (e a : ℕ) (s : Laid) (go : Laid → Plan Laid) (flat : Tree → Plan Tree) → ((t : Laid) → plain_plan (go t) ≡ flat (plain t)) → (t : Laid) → plain_plan (joined_leaf e a s go t) ≡ merge_leaf a (plain s) flat (plain t)
unfolding joined_leaf merge_leaf
joined_leaf_plain e a s go flat more (last f j) = refl
joined_leaf_plain e a s go flat more (leaf f j t) = ap (new_leaf a) (more (leaf f j t))
joined_leaf_plain e a s go flat more (fork f n u v) = ap (λ i. new_fork n i (keep (plain v))) (joined_leaf_plain e a s go flat more u)

joined_fork_plain : (e m : ℕ) (r s : Laid) (go : Laid → Plan Laid) (flat : Tree → Plan Tree) → ((t : Laid) → plain_plan (go t) ≡ flat (plain t)) → (t : Laid) → plain_plan (joined_fork e m r s go t) ≡ merge_fork m (plain r) (plain s) flat (plain t)
unfolding joined_fork merge_fork
joined_fork_plain e m r s go flat more (last f j) = refl
joined_fork_plain e m r s go flat more (leaf f j t) = ap (new_fork m (keep (plain r))) (more (leaf f j t))
joined_fork_plain e m r s go flat more (fork f n u v) =
    plain_cond (ltb m n) _ _ ∙ cond_same _ _ _ _ _ _ refl (ap (λ i. new_fork n i (keep (plain v))) (joined_fork_plain e m r s go flat more u)) (ap (new_fork m (keep (plain r))) (more (fork f n u v)))

pub joined_plain : (s t : Laid) → plain_plan (joined s t) ≡ merge (plain s) (plain t)
unfolding joined merge
joined_plain (last e a) t = joined_last_plain e a t
joined_plain (leaf e a s) t = joined_leaf_plain e a s (joined s) (merge (plain s)) (joined_plain s) t
joined_plain (fork e m r s) t = joined_fork_plain e m r s (joined s) (merge (plain s)) (joined_plain s) t

-- at the place of the block after a gap
pub remove_gap : (t : Laid) (g : Gap (plain t)) (p : ℕ) → p ≡ place (to_this g) → plain_plan (remove_at t p) ≡ remove g
unfolding remove to_this place leaves
remove_gap (last e a) g p i = elim g [ ]
remove_gap (leaf e a t) here p i =
    let first = place_first (plain t) in
    ap plain_plan (remove_here_is e a t p (omega arith)) ∙ led_plain a t
remove_gap (leaf e a t) (further g) p i =
    let far = place_gap g in
    ap plain_plan (remove_on_is e a t p (omega arith)) ∙ ap (new_leaf a) (remove_gap t g (p - 1) (omega arith))
remove_gap (fork e m x y) (in_below g) p i =
    let low = place_less (to_this g) in
    ap plain_plan (remove_below_is e m x y p (omega arith)) ∙ ap (λ j. new_fork m j (keep (plain y))) (remove_gap x g p i)
remove_gap (fork e m x y) between p i =
    let first = place_first (plain y) in
    ap plain_plan (remove_between_is e m x y p (omega arith)) ∙ joined_plain x y
remove_gap (fork e m x y) (in_after g) p i =
    let far = place_gap g in
    ap plain_plan (remove_after_is e m x y p (omega arith)) ∙ ap (new_fork m (keep (plain x))) (remove_gap y g (p - leaves (plain x)) (omega arith))

pub remove_plain : (t : Laid) (p : ℕ) (g : Gap (plain t)) → to_this g ≡ to_place (plain t) p → p < leaves (plain t) → plain_plan (remove_at t p) ≡ remove g
remove_plain t p g this low = remove_gap t g p (sym (ap place this ∙ place_to_place (plain t) p low))
