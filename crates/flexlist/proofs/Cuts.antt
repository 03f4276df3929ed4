-- What is before, at and after the end of a path, and that insert and change give the FlexList of the edited list.
use Rattle.std.proofs.Common.{◌≡◌, ℕ, zero, suc, ◌<◌, ◌≤◌, true, ltb, leb, List, [], ◌∷◌, ◌++◌, sym, refl, ap, ◌∙◌, ap₂, arith}
use Rattle.std.proofs.lemmas.Bool.{leb-true, leb-false, ltb-true, ltb-false, cond_both}
use Rattle.std.proofs.lemmas.List.{append_assoc}
use Rattle.flexlist.specs.Shape.{Block, block, Tree}
use Rattle.flexlist.specs.Nodes.{Path, end, stop, on, below, after}
use Rattle.flexlist.specs.Building.{built, at_end, left, right, cut, insert, change}
use Rattle.flexlist.proofs.Shape.{top, cells, Falls}

-- the blocks before the end of a path, the leader of level k among them
unfoldable pub prior : {t : Tree} → ℕ → Path t → List Block
prior k end = []
prior k stop = []
prior k (on {a} w) = block a k ∷ prior 0 w
prior k (below w) = prior k w
prior k (after {m} {s} w) = cells k s ++ prior m w

-- the block at its end
unfoldable pub at : {t : Tree} → ℕ → Path t → Block
at k (end {a}) = block a k
at k (stop {a}) = block a k
at k (on w) = at 0 w
at k (below w) = at k w
at k (after {m} w) = at m w

-- the blocks after it
unfoldable pub behind : {t : Tree} → Path t → List Block
behind end = []
behind (stop {a} {t}) = cells 0 t
behind (on w) = behind w
behind (below {m} {s} {t} w) = behind w ++ cells m t
behind (after w) = behind w

pub cells_path : {t : Tree} (k : ℕ) (w : Path t) → cells k t ≡ prior k w ++ at k w ∷ behind w
unfolding cells prior at behind
cells_path k end = refl
cells_path k stop = refl
cells_path k (on {a} w) = ap {B = List Block} (λ x. block a k ∷ x) (cells_path 0 w)
cells_path k (below {m} {s} {t} w) =
    ap {B = List Block} (λ x. x ++ cells m t) (cells_path k w) ∙ append_assoc (prior k w) (at k w ∷ behind w) (cells m t)
cells_path k (after {m} {s} w) =
    ap {B = List Block} (λ x. cells k s ++ x) (cells_path m w) ∙ sym (append_assoc (cells k s) (prior m w) (at m w ∷ behind w))

behind_end : {t : Tree} (w : Path t) → at_end w ≡ true → behind w ≡ []
unfolding at_end behind
behind_end end e = refl
behind_end stop e = let z : ◌≡◌ {A = ℕ} 0 1 = cc in absurd (omega arith)
behind_end (on w) e = behind_end w e
behind_end (below w) e = let z : ◌≡◌ {A = ℕ} 0 1 = cc in absurd (omega arith)
behind_end (after w) e = behind_end w e

-- a whole piece that ends at the path's end
whole : {t : Tree} (k : ℕ) (w : Path t) → at_end w ≡ true → cells k t ≡ prior k w ++ at k w ∷ []
whole k w e = cells_path k w ∙ ap {B = List Block} (λ x. prior k w ++ at k w ∷ x) (behind_end w e)

pub cells_left : {t : Tree} (k : ℕ) (w : Path t) → cells k (built (left w)) ≡ prior k w ++ at k w ∷ []
unfolding cells built left prior at at_end
cells_left k end = refl
cells_left k stop = refl
cells_left k (on {a} {t} w) =
    cond_both (at_end w) _ _ (λ x. cells k (built x) ≡ block a k ∷ (prior 0 w ++ at 0 w ∷ []))
    (λ e. whole k (on {a = a} w) e)
    (λ _. ap {B = List Block} (λ x. block a k ∷ x) (cells_left 0 w))
cells_left k (below w) = cells_left k w
cells_left k (after {m} {s} {t} w) =
    cond_both (at_end w) _ _ (λ x. cells k (built x) ≡ (cells k s ++ prior m w) ++ at m w ∷ [])
    (λ e. whole k (after {m = m} {s = s} w) e)
    (λ _. ap {B = List Block} (λ x. cells k s ++ x) (cells_left m w) ∙ sym (append_assoc (cells k s) (prior m w) (at m w ∷ [])))

pub cells_right : {t : Tree} (n k : ℕ) (w : Path t) → cells k (built (right n w)) ≡ block n k ∷ behind w
unfolding cells built right behind
cells_right n k end = refl
cells_right n k stop = refl
cells_right n k (on w) = cells_right n k w
cells_right n k (below {m} {s} {t} w) = ap {B = List Block} (λ x. x ++ cells m t) (cells_right n k w)
cells_right n k (after w) = cells_right n k w

cells_cut : {t : Tree} (n j k : ℕ) (w : Path t) → cells k (built (cut n j w)) ≡ prior k w ++ at k w ∷ block n j ∷ behind w
unfolding cells built cut
cells_cut n j k w = ap₂ ◌++◌ (cells_left k w) (cells_right n j w) ∙ append_assoc (prior k w) (at k w ∷ []) (block n j ∷ behind w)

pub cells_insert : {t : Tree} (n j k : ℕ) (w : Path t) → cells k (built (insert n j w)) ≡ prior k w ++ at k w ∷ block n j ∷ behind w
unfolding cells built insert prior at behind
cells_insert n zero k end = refl
cells_insert n (suc j) k end = cells_cut n (suc j) k end
cells_insert n zero k stop = refl
cells_insert n (suc j) k (stop {a} {t}) = cells_cut n (suc j) k (stop {a = a} {t = t})
cells_insert n zero k (on {a} w) = ap {B = List Block} (λ x. block a k ∷ x) (cells_insert n zero 0 w)
cells_insert n (suc j) k (on {a} w) = cells_cut n (suc j) k (on {a = a} w)
cells_insert n j k (below {m} {s} {t} w) =
    cond_both (leb m j) _ _ (λ x. cells k (built x) ≡ prior k w ++ at k w ∷ block n j ∷ (behind w ++ cells m t))
    (λ _. cells_cut n j k (below {m = m} {t = t} w))
    (λ _. ap {B = List Block} (λ x. x ++ cells m t) (cells_insert n j k w) ∙ append_assoc (prior k w) (at k w ∷ block n j ∷ behind w) (cells m t))
cells_insert n j k (after {m} {s} {t} w) =
    cond_both (ltb m j) _ _ (λ x. cells k (built x) ≡ (cells k s ++ prior m w) ++ at m w ∷ block n j ∷ behind w)
    (λ _. cells_cut n j k (after {m = m} {s = s} w))
    (λ _. ap {B = List Block} (λ x. cells k s ++ x) (cells_insert n j m w) ∙ sym (append_assoc (cells k s) (prior m w) (at m w ∷ block n j ∷ behind w)))

pub cells_change : {t : Tree} (n k : ℕ) (w : Path t) → cells k (built (change n w)) ≡ prior k w ++ block n (at k w).level ∷ behind w
unfolding cells built change prior at behind
cells_change n k end = refl
cells_change n k stop = refl
cells_change n k (on {a} w) = ap {B = List Block} (λ x. block a k ∷ x) (cells_change n 0 w)
cells_change n k (below {m} {s} {t} w) =
    ap {B = List Block} (λ x. x ++ cells m t) (cells_change n k w) ∙ append_assoc (prior k w) (block n (at k w).level ∷ behind w) (cells m t)
cells_change n k (after {m} {s} w) =
    ap {B = List Block} (λ x. cells k s ++ x) (cells_change n m w) ∙ sym (append_assoc (cells k s) (prior m w) (block n (at m w).level ∷ behind w))

-- the greatest level of a part is no more than that of the whole
pub top_left : {t : Tree} (b : ℕ) (w : Path t) → Falls t → top t < b → top (built (left w)) < b
unfolding top built left
top_left b end f h = h
top_left b stop f h = h
top_left b (on w) f h = cond_both (at_end w) _ _ (λ x. top (built x) < b) (λ _. h) (λ _. h)
top_left b (below w) f h = top_left b w f.2 (omega arith)
top_left b (after w) f h = cond_both (at_end w) _ _ (λ x. top (built x) < b) (λ _. h) (λ _. h)

pub top_right : {t : Tree} (n b : ℕ) (w : Path t) → Falls t → top t < b → top (built (right n w)) < b
unfolding top built right
top_right n b end f h = h
top_right n b stop f h = h
top_right n b (on w) f h = top_right n b w f.1 (omega arith)
top_right n b (below w) f h = h
top_right n b (after w) f h = top_right n b w f.3 (omega arith)

pub falls_left : {t : Tree} (w : Path t) → Falls t → Falls (built (left w))
unfolding built left
falls_left end f = f
falls_left stop f = tt
falls_left (on {a} {t} w) f =
    let low : top (built (left w)) < 1 = top_left 1 w f.1 (omega arith) in
    cond_both (at_end w) _ _ (λ x. Falls (built x)) (λ _. f) (λ _. (omega arith, falls_left w f.1))
falls_left (below w) f = falls_left w f.2
falls_left (after {m} {s} {t} w) f =
    let low : top (built (left w)) < suc m = top_left (suc m) w f.3 (omega arith) in
    cond_both (at_end w) _ _ (λ x. Falls (built x)) (λ _. f) (λ _. (f.0, omega arith, f.2, falls_left w f.3))

pub falls_right : {t : Tree} (n : ℕ) (w : Path t) → Falls t → Falls (built (right n w))
unfolding built right
falls_right n end f = tt
falls_right n stop f = f
falls_right n (on w) f = falls_right n w f.1
falls_right n (below {m} w) f = (top_right n m w f.2 f.0, f.1, falls_right n w f.2, f.3)
falls_right n (after w) f = falls_right n w f.3

falls_cut : {t : Tree} (n k : ℕ) (w : Path t) → Falls t → top (built (left w)) < k → top t ≤ k → Falls (built (cut n k w))
unfolding built cut
falls_cut n k w f h g =
    let low : top (built (right n w)) < suc k = top_right n (suc k) w f (omega arith) in
    (h, omega arith, falls_left w f, falls_right n w f)

top_insert : {t : Tree} (n k b : ℕ) (w : Path t) → top t < b → k < b → top (built (insert n k w)) < b
unfolding top built insert cut
top_insert n zero b end h g = h
top_insert n (suc k) b end h g = g
top_insert n zero b stop h g = h
top_insert n (suc k) b stop h g = g
top_insert n zero b (on w) h g = h
top_insert n (suc k) b (on w) h g = g
top_insert n k b (below {m} w) h g = cond_both (leb m k) _ _ (λ x. top (built x) < b) (λ _. g) (λ _. h)
top_insert n k b (after {m} w) h g = cond_both (ltb m k) _ _ (λ x. top (built x) < b) (λ _. g) (λ _. h)

pub falls_insert : {t : Tree} (n k : ℕ) (w : Path t) → Falls t → Falls (built (insert n k w))
unfolding built insert top left
falls_insert n zero end f = (refl, tt)
falls_insert n (suc k) end f = falls_cut n (suc k) end f (omega arith) (omega arith)
falls_insert n zero stop f = (refl, f)
falls_insert n (suc k) (stop {a} {t}) f = falls_cut n (suc k) (stop {a = a} {t = t}) f (omega arith) (omega arith)
falls_insert n zero (on w) f =
    let low : top (built (insert n zero w)) < 1 = top_insert n zero 1 w (omega arith) (omega arith) in
    (omega arith, falls_insert n zero w f.1)
falls_insert n (suc k) (on {a} w) f =
    falls_cut n (suc k) (on {a = a} w) f (top_left (suc k) (on {a = a} w) f (omega arith)) (omega arith)
falls_insert n k (below {m} {s} {t} w) f =
    cond_both (leb m k) _ _ (λ x. Falls (built x))
    (λ e. let h : m ≤ k = leb-true m k e in
    falls_cut n k (below {m = m} {t = t} w) f (top_left k w f.2 (omega arith)) h)
    (λ e. (top_insert n k m w f.0 (leb-false m k e), f.1, falls_insert n k w f.2, f.3))
falls_insert n k (after {m} {s} {t} w) f =
    cond_both (ltb m k) _ _ (λ x. Falls (built x))
    (λ e. let h : m < k = ltb-true m k e in
    falls_cut n k (after {m = m} {s = s} w) f (top_left k (after {m = m} {s = s} w) f h) (omega arith))
    (λ e. let h : k ≤ m = ltb-false m k e in
    let low : top (built (insert n k w)) < suc m = top_insert n k (suc m) w (omega arith) (omega arith) in
    (f.0, omega arith, f.2, falls_insert n k w f.3))

top_change : {t : Tree} (n : ℕ) (w : Path t) → top (built (change n w)) ≡ top t
unfolding top built change
top_change n end = refl
top_change n stop = refl
top_change n (on w) = refl
top_change n (below w) = refl
top_change n (after w) = refl

pub falls_change : {t : Tree} (n : ℕ) (w : Path t) → Falls t → Falls (built (change n w))
unfolding built change
falls_change n end f = tt
falls_change n stop f = f
falls_change n (on w) f = (top_change n w ∙ f.0, falls_change n w f.1)
falls_change n (below w) f = (rw (top_change n w) f.0, f.1, falls_change n w f.2, f.3)
falls_change n (after w) f = (f.0, rw (top_change n w) f.1, f.2, falls_change n w f.3)
