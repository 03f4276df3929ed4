-- A FlexList is a tree whose levels fall along it, and every stretch has exactly one.
use Rattle.std.proofs.Common.{◌≡◌, ℕ, zero, suc, ◌-◌, ◌<◌, ◌≤◌, ltb, List, [], ◌∷◌, ◌++◌, map, sym, refl, ap, ◌∙◌, ap₂, subst₂, inl, arith}
use Rattle.std.specs.List.{AllByRecursion}
use Rattle.std.proofs.lemmas.Bool.{ltb-true, ltb-false, lt-ltb, le-ltb, cond_both, cond-true, cond-false}
use Rattle.std.proofs.ByRecursion.{All-weaker, All-append}
use Rattle.std.proofs.lemmas.List.{map-append}
use Rattle.flexlist.specs.Shape.{Block, block, Tree, last, leaf, fork, front, led, flexlist, FlexList, alone, level_0, first_greatest, ExactlyOne}
use Rattle.flexlist.specs.Nodes.{identities, Among}

-- how high the highest block behind the leader is
unfoldable pub top : Tree → ℕ
top (last a) = 0
top (leaf a t) = 0
top (fork m s t) = m

led_stops : (l k : ℕ) (t : Tree) → top t ≤ k → led l k t ≡ front l k t
unfolding led top
led_stops l k (last a) h = refl
led_stops l k (leaf a t) h = refl
led_stops l k (fork m s t) h = cond-false (ltb k m) _ _ (le-ltb k m h)

top_front : (b l k : ℕ) (t : Tree) → k ≤ b → top (front l k t) ≤ b
unfolding front top
top_front b l zero t h = omega arith
top_front b l (suc k) t h = h

top_led : (b l k : ℕ) (t : Tree) → k ≤ b → top t ≤ b → top (led l k t) ≤ b
unfolding led top
top_led b l k (last a) h g = top_front b l k (last a) h
top_led b l k (leaf a t) h g = top_front b l k (leaf a t) h
top_led b l k (fork m s t) h g =
    cond_both (ltb k m) _ _ (λ x. top x ≤ b) (λ _. g) (λ _. top_front b l k (fork m s t) h)

top_flex : (b l : ℕ) (bs : List Block) → AllByRecursion (λ x. x.level ≤ b) bs → top (flexlist l bs) ≤ b
unfolding flexlist top
top_flex b l [] h = omega arith
top_flex b l (x ∷ bs) h = top_led b l x.level (flexlist x.identity bs) h.0 (top_flex b x.identity bs h.1)

front_fork : (l k : ℕ) (t : Tree) → 0 < k → front l k t ≡ fork k (last l) t
unfolding front
front_fork l zero t p = absurd (omega arith)
front_fork l (suc k) t p = refl

flex_split :
    (l : ℕ) (xs : List Block) (j : Block) (ys : List Block) → 0 < j.level →
    AllByRecursion (λ x. x.level < j.level) xs → AllByRecursion (λ x. x.level ≤ j.level) ys →
    flexlist l (xs ++ j ∷ ys) ≡ fork j.level (flexlist l xs) (flexlist j.identity ys)
unfolding flexlist led
flex_split l [] j ys p h g =
    led_stops l j.level (flexlist j.identity ys) (top_flex _ _ ys g) ∙ front_fork l j.level _ p
flex_split l (x ∷ xs) j ys p h g =
    ap (led l x.level) (flex_split x.identity xs j ys p h.1 g) ∙
    cond-true (ltb x.level j.level) _ _ (lt-ltb _ _ h.0)

-- any FlexList of a stretch is the one that is made block by block
pub flex_only : {l : ℕ} {bs : List Block} {t : Tree} → FlexList l bs t → t ≡ flexlist l bs
unfolding flexlist front
flex_only alone = refl
flex_only (level_0 {leader = l} {b = b} {bs = bs} zs f) =
    ap (leaf l) (flex_only f) ∙
    sym (rw zs.0 (led_stops l 0 (flexlist b.identity bs) (top_flex 0 _ bs (All-weaker _ _ (λ x e. omega arith) bs zs.1))))
flex_only (first_greatest {leader = l} xs j ys p h g f₁ f₂) =
    ap₂ (fork j.level) (flex_only f₁) (flex_only f₂) ∙ sym (flex_split l xs j ys p h g)

-- All blocks of a tree, where the leader is given the level k.
unfoldable pub cells : ℕ → Tree → List Block
cells k (last a) = block a k ∷ []
cells k (leaf a t) = block a k ∷ cells 0 t
cells k (fork m s t) = cells k s ++ cells m t

pub identities_cells : (k : ℕ) (t : Tree) → identities t ≡ map (λ b. b.identity) (cells k t)
unfolding cells
identities_cells k (last a) = refl
identities_cells k (leaf a t) = ap {B = List ℕ} (λ x. a ∷ x) (identities_cells 0 t)
identities_cells k (fork m s t) =
    ap₂ ◌++◌ (identities_cells k s) (identities_cells m t) ∙ sym (map-append (λ b. b.identity) (cells k s) (cells m t))

-- Levels fall along the tree: 0 after a leaf, less below a fork, no more after it.
abbrev pub Falls : Tree → Type 0
Falls (last a) = Unit {0}
Falls (leaf a t) = (top t ≡ 0) × Falls t
Falls (fork m s t) = (top s < m) × (top t ≤ m) × Falls s × Falls t

pub flex_cells : {l : ℕ} {bs : List Block} {t : Tree} (k : ℕ) → FlexList l bs t → cells k t ≡ block l k ∷ bs
unfolding cells
flex_cells k alone = refl
flex_cells k (level_0 {leader = l} {b = b} {bs = bs} zs f) =
    ap {B = List Block} (λ x. block l k ∷ x)
    (flex_cells 0 f ∙ ap {B = List Block} (λ (n : ℕ). block b.identity n ∷ bs) (sym zs.0))
flex_cells k (first_greatest xs j ys p h g f₁ f₂) = ap₂ ◌++◌ (flex_cells k f₁) (flex_cells j.level f₂)

pub flex_identities : {l : ℕ} {bs : List Block} {t : Tree} → FlexList l bs t → identities t ≡ l ∷ map (λ b. b.identity) bs
flex_identities {t = t} f = identities_cells 0 t ∙ ap (map (λ b. b.identity)) (flex_cells 0 f)

flex_top : {l : ℕ} {bs : List Block} {t : Tree} (b : ℕ) → FlexList l bs t → AllByRecursion (λ x. x.level ≤ b) bs → top t ≤ b
flex_top {l} {bs} {t} b f h = rw (flex_only f) (top_flex b l bs h)

pub flex_falls : {l : ℕ} {bs : List Block} {t : Tree} → FlexList l bs t → Falls t
flex_falls alone = tt
flex_falls (level_0 {bs = bs} {t = t} zs f) =
    let low : top t ≤ 0 = flex_top 0 f (All-weaker _ _ (λ x e. omega arith) bs zs.1) in
    (omega arith, flex_falls f)
flex_falls (first_greatest xs j ys {s = s} p h g f₁ f₂) =
    let low : top s ≤ j.level - 1 = flex_top _ f₁ (All-weaker _ _ (λ x e. omega arith) xs h) in
    (omega arith, flex_top _ f₂ g, flex_falls f₁, flex_falls f₂)

unfoldable pub lead : Tree → ℕ
lead (last a) = a
lead (leaf a t) = a
lead (fork m s t) = lead s

-- the identities after the leader's
unfoldable pub tail_of : Tree → List ℕ
tail_of (last a) = []
tail_of (leaf a t) = identities t
tail_of (fork m s t) = tail_of s ++ identities t

pub lead_tail : (t : Tree) → identities t ≡ lead t ∷ tail_of t
unfolding lead tail_of
lead_tail (last a) = refl
lead_tail (leaf a t) = refl
lead_tail (fork m s t) = ap {B = List ℕ} (λ x. x ++ identities t) (lead_tail s)

pub lead_among : (t : Tree) → Among (lead t) (identities t)
lead_among t = rw (lead_tail t) (inl refl)

unfoldable pub rest : Tree → List Block
rest (last a) = []
rest (leaf a t) = cells 0 t
rest (fork m s t) = rest s ++ cells m t

pub cells_rest : (k : ℕ) (t : Tree) → cells k t ≡ block (lead t) k ∷ rest t
unfolding cells lead rest
cells_rest k (last a) = refl
cells_rest k (leaf a t) = refl
cells_rest k (fork m s t) = ap {B = List Block} (λ x. x ++ cells m t) (cells_rest k s)

rest_low : (b : ℕ) (t : Tree) → Falls t → top t ≤ b → AllByRecursion (λ x. x.level ≤ b) (rest t)
unfolding rest top
rest_low b (last a) f h = tt
rest_low b (leaf a t) f h = rw (cells_rest 0 t) (omega arith, rest_low b t f.1 (omega arith))
rest_low b (fork m s t) f h =
    All-append _ (rest s) (cells m t) (rest_low b s f.2 (omega arith))
    (rw (cells_rest m t) (h, rest_low b t f.3 (omega arith)))

falls_rest : (t : Tree) → Falls t → FlexList (lead t) (rest t) t
unfolding rest lead
falls_rest (last a) f = alone
falls_rest (leaf a t) f =
    rw (cells_rest 0 t)
    (level_0 (refl, All-weaker (λ x. x.level ≤ 0) (λ x. x.level ≡ 0) (λ x e. omega arith) (rest t) (rest_low 0 t f.1 (omega arith))) (falls_rest t f.1))
falls_rest (fork m s t) f =
    rw (cells_rest m t)
    (first_greatest (rest s) (block (lead t) m) (rest t) (omega arith)
    (All-weaker (λ x. x.level ≤ top s) (λ x. x.level < m) (λ x e. omega arith) (rest s) (rest_low (top s) s f.2 (omega arith)))
    (rest_low m t f.3 f.1) (falls_rest s f.2) (falls_rest t f.3))

pub falls_flex : (t : Tree) (l k : ℕ) (bs : List Block) → Falls t → cells k t ≡ block l k ∷ bs → FlexList l bs t
falls_flex t l k bs h e =
    let same : block (lead t) k ∷ rest t ≡ block l k ∷ bs = sym (cells_rest k t) ∙ e in
    let heads : ◌≡◌ {A = Block} (block (lead t) k) (block l k) = cc in
    let tails : rest t ≡ bs = cc in
    subst₂ (λ (x : ℕ) (xs : List Block). FlexList x xs t) (ap (λ b. b.identity) heads) tails (falls_rest t h)

cells_led : (k l j : ℕ) (t : Tree) → cells k (led l j t) ≡ block l k ∷ cells j t
unfolding cells led front
cells_led k l zero (last a) = refl
cells_led k l (suc j) (last a) = refl
cells_led k l zero (leaf a t) = refl
cells_led k l (suc j) (leaf a t) = refl
cells_led k l j (fork m s t) =
    cond_both (ltb j m) _ _ (λ x. cells k x ≡ block l k ∷ cells j (fork m s t))
    (λ _. ap {B = List Block} (λ x. x ++ cells m t) (cells_led k l j s)) (λ _. before k l j (fork m s t))
  where
    before : (k l j : ℕ) (t : Tree) → cells k (front l j t) ≡ block l k ∷ cells j t
    before k l zero t = refl
    before k l (suc j) t = refl

falls_front : (l j : ℕ) (t : Tree) → Falls t → top t ≤ j → Falls (front l j t)
unfolding front top
falls_front l zero t f h = (omega arith, f)
falls_front l (suc j) t f h = (omega arith, h, tt, f)

falls_led : (l j : ℕ) (t : Tree) → Falls t → Falls (led l j t)
unfolding led top
falls_led l j (last a) f = falls_front l j (last a) f (omega arith)
falls_led l j (leaf a t) f = falls_front l j (leaf a t) f (omega arith)
falls_led l j (fork m s t) f =
    cond_both (ltb j m) _ _ Falls
    (λ e. let k : j < m = ltb-true j m e in
    let low : top (led l j s) ≤ m - 1 = top_led (m - 1) l j s (omega arith) (omega arith) in
    (omega arith, f.1, falls_led l j s f.2, f.3))
    (λ e. falls_front l j (fork m s t) f (ltb-false j m e))

flex_is : (k l : ℕ) (bs : List Block) → (cells k (flexlist l bs) ≡ block l k ∷ bs) × Falls (flexlist l bs)
unfolding flexlist cells
flex_is k l [] = (refl, tt)
flex_is k l (b ∷ bs) =
    let more = flex_is b.level b.identity bs in (
      cells_led k l b.level (flexlist b.identity bs) ∙ ap {B = List Block} (λ x. block l k ∷ x) more.0,
      falls_led l b.level (flexlist b.identity bs) more.1,
    )

pub exactly_one : ExactlyOne
exactly_one l bs =
    let made = flex_is 0 l bs in
    record { is = falls_flex (flexlist l bs) l 0 bs made.1 made.0; only = λ t f. flex_only f }
