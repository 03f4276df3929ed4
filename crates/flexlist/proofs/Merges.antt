-- The merge of two trees as a relation with one case for each step, and that removal gives the FlexList of the edited list.
use Rattle.std.proofs.Common.{◌≡◌, ℕ, suc, ◌<◌, ◌≤◌, ltb, List, [], ◌∷◌, ◌++◌, sym, refl, ap, ◌∙◌, arith}
use Rattle.std.proofs.lemmas.Bool.{ltb-true, ltb-false, cond_both}
use Rattle.std.proofs.lemmas.List.{append_assoc, append-nil}
use Rattle.flexlist.specs.Shape.{Block, block, Tree, last, leaf, fork}
use Rattle.flexlist.specs.Building.{Plan, keep, new_leaf, new_fork, built, lead_by, merge_last, merge_leaf, merge_fork, merge, Gap, here, further, in_below, between, in_after, to_first, to_this, remove}
use Rattle.flexlist.proofs.Shape.{top, cells, Falls, rest}
use Rattle.flexlist.proofs.Cuts.{prior, behind}

-- a tree with more than its leader
abbrev pub Longer : Tree → Type 0
Longer (last a) = ⊥
Longer (leaf a t) = Unit {0}
Longer (fork m s t) = Unit {0}

-- how the plan of a merge comes about
pub data Merging : Tree → Tree → Plan Tree → Type 0 where
  kept : {s : Tree} {j : ℕ} → Merging s (last j) (keep s)
  joined : {a j : ℕ} {t : Tree} → Merging (last a) (leaf j t) (new_leaf a (keep t))
  past_leaf : {a j : ℕ} {s t : Tree} {x : Plan Tree} → Merging s (leaf j t) x → Merging (leaf a s) (leaf j t) (new_leaf a x)
  past_fork : {m : ℕ} {r s t : Tree} {x : Plan Tree} → Longer t → top t ≤ m → Merging s t x → Merging (fork m r s) t (new_fork m (keep r) x)
  under_fork : {n : ℕ} {s u v : Tree} {x : Plan Tree} → (0 < n → top s < n) → Merging s u x → Merging s (fork n u v) (new_fork n x (keep v))

merging_last : (a : ℕ) (t : Tree) → Merging (last a) t (merge_last a t)
unfolding merge_last top
merging_last a (last j) = kept
merging_last a (leaf j t) = joined
merging_last a (fork n u v) = under_fork (λ h. h) (merging_last a u)

merging_leaf : (a : ℕ) (s : Tree) (go : Tree → Plan Tree) → ((t : Tree) → Merging s t (go t)) → (t : Tree) → Merging (leaf a s) t (merge_leaf a s go t)
unfolding merge_leaf top
merging_leaf a s go h (last j) = kept
merging_leaf a s go h (leaf j t) = past_leaf (h (leaf j t))
merging_leaf a s go h (fork n u v) = under_fork (λ h. h) (merging_leaf a s go h u)

merging_fork : (m : ℕ) (r s : Tree) (go : Tree → Plan Tree) → ((t : Tree) → Merging s t (go t)) → (t : Tree) → Merging (fork m r s) t (merge_fork m r s go t)
unfolding merge_fork top
merging_fork m r s go h (last j) = kept
merging_fork m r s go h (leaf j t) = past_fork tt (omega arith) (h (leaf j t))
merging_fork m r s go h (fork n u v) =
    cond_both (ltb m n) _ _ (λ x. Merging (fork m r s) (fork n u v) x)
    (λ e. under_fork (λ _. ltb-true m n e) (merging_fork m r s go h u))
    (λ e. past_fork tt (ltb-false m n e) (h (fork n u v)))

pub merging : (s t : Tree) → Merging s t (merge s t)
unfolding merge
merging (last a) t = merging_last a t
merging (leaf a s) t = merging_leaf a s (merge s) (merging s) t
merging (fork m r s) t = merging_fork m r s (merge s) (merging s) t

pub cells_merge : {s t : Tree} {x : Plan Tree} (k : ℕ) → Merging s t x → cells k (built x) ≡ cells k s ++ rest t
unfolding cells built rest
cells_merge k (kept {s}) = sym (append-nil (cells k s))
cells_merge k joined = refl
cells_merge k (past_leaf {a} g) = ap {B = List Block} (λ x. block a k ∷ x) (cells_merge 0 g)
cells_merge k (past_fork {m} {r} {s} {t} l h g) =
    ap {B = List Block} (λ x. cells k r ++ x) (cells_merge m g) ∙ sym (append_assoc (cells k r) (cells m s) (rest t))
cells_merge k (under_fork {n} {s} {u} {v} h g) =
    ap {B = List Block} (λ x. x ++ cells n v) (cells_merge k g) ∙ append_assoc (cells k s) (rest u) (cells n v)

top_merge : {s t : Tree} {x : Plan Tree} (b : ℕ) → Merging s t x → top s < b → top t < b → top (built x) < b
unfolding top built
top_merge b kept h g = h
top_merge b joined h g = h
top_merge b (past_leaf m) h g = h
top_merge b (past_fork l k m) h g = h
top_merge b (under_fork k m) h g = g

falls_merge : {s t : Tree} {x : Plan Tree} → Merging s t x → Falls s → Falls t → Falls (built x)
unfolding top built
falls_merge kept f g = f
falls_merge joined f g = g
falls_merge (past_leaf {x = x} m) f g =
    let low : top (built x) < 1 = top_merge 1 m (omega arith) (omega arith) in
    (omega arith, falls_merge m f.1 g)
falls_merge (past_fork {m = k} {x = x} l h m) f g =
    let low : top (built x) < suc k = top_merge (suc k) m (omega arith) (omega arith) in
    (f.0, omega arith, f.2, falls_merge m f.3 g)
falls_merge (under_fork {n} {s} h m) f g =
    let pos : 0 < n = omega arith in
    (top_merge n m (h pos) g.0, g.1, falls_merge m f g.2, g.3)

cells_lead_by : (n k : ℕ) (t : Tree) → cells k (built (lead_by n t)) ≡ block n k ∷ rest t
unfolding cells built lead_by rest
cells_lead_by n k (last a) = refl
cells_lead_by n k (leaf a t) = refl
cells_lead_by n k (fork m s t) = ap {B = List Block} (λ x. x ++ cells m t) (cells_lead_by n k s)

top_lead_by : (n : ℕ) (t : Tree) → top (built (lead_by n t)) ≡ top t
unfolding top built lead_by
top_lead_by n (last a) = refl
top_lead_by n (leaf a t) = refl
top_lead_by n (fork m s t) = refl

falls_lead_by : (n : ℕ) (t : Tree) → Falls t → Falls (built (lead_by n t))
unfolding built lead_by
falls_lead_by n (last a) f = tt
falls_lead_by n (leaf a t) f = f
falls_lead_by n (fork m s t) f = (rw (top_lead_by n s) f.0, f.1, falls_lead_by n s f.2, f.3)

prior_first : (k : ℕ) (t : Tree) → prior k (to_first t) ≡ []
unfolding prior to_first
prior_first k (last a) = refl
prior_first k (leaf a t) = refl
prior_first k (fork m s t) = prior_first k s

behind_first : (t : Tree) → behind (to_first t) ≡ rest t
unfolding behind to_first rest
behind_first (last a) = refl
behind_first (leaf a t) = refl
behind_first (fork m s t) = ap {B = List Block} (λ x. x ++ cells m t) (behind_first s)

pub cells_remove : {t : Tree} (k : ℕ) (g : Gap t) → cells k (built (remove g)) ≡ prior k (to_this g) ++ behind (to_this g)
unfolding cells built remove prior behind to_this
cells_remove k (here {a} {t}) = rw (prior_first 0 t, behind_first t) (cells_lead_by a k t)
cells_remove k (further {a} g) = ap {B = List Block} (λ x. block a k ∷ x) (cells_remove 0 g)
cells_remove k (in_below {m} {s} {t} g) =
    ap {B = List Block} (λ x. x ++ cells m t) (cells_remove k g) ∙ append_assoc (prior k (to_this g)) (behind (to_this g)) (cells m t)
cells_remove k (between {m} {s} {t}) = rw (prior_first m t, behind_first t, append-nil) (cells_merge k (merging s t))
cells_remove k (in_after {m} {s} g) =
    ap {B = List Block} (λ x. cells k s ++ x) (cells_remove m g) ∙ sym (append_assoc (cells k s) (prior m (to_this g)) (behind (to_this g)))

top_remove : {t : Tree} (b : ℕ) (g : Gap t) → Falls t → top t < b → top (built (remove g)) < b
unfolding top built remove
top_remove b (here {a} {t}) f h = rw (top_lead_by a t) (omega arith)
top_remove b (further g) f h = h
top_remove b (in_below g) f h = h
top_remove b (between {m} {s} {t}) f h = top_merge b (merging s t) (omega arith) (omega arith)
top_remove b (in_after g) f h = h

pub falls_remove : {t : Tree} (g : Gap t) → Falls t → Falls (built (remove g))
unfolding built remove
falls_remove (here {a} {t}) f = falls_lead_by a t f.1
falls_remove (further g) f =
    let low : top (built (remove g)) < 1 = top_remove 1 g f.1 (omega arith) in
    (omega arith, falls_remove g f.1)
falls_remove (in_below {m} g) f = (top_remove m g f.2 f.0, f.1, falls_remove g f.2, f.3)
falls_remove (between {m} {s} {t}) f = falls_merge (merging s t) f.2 f.3
falls_remove (in_after {m} g) f =
    let low : top (built (remove g)) < suc m = top_remove (suc m) g f.3 (omega arith) in
    (f.0, omega arith, f.2, falls_remove g f.3)
