-- The bounds on what an edit writes: its plan gives the edited list's FlexList, which is the only one, and makes few nodes.
use Rattle.std.proofs.Common.{◌≡◌, ℕ, suc, ◌+◌, ◌<◌, ◌≤◌, List, [], ◌∷◌, ◌++◌, length, sym, ap, ◌∙◌, subst, ap₂, subst₂, arith, length-append}
use Rattle.std.proofs.lemmas.List.{append_assoc}
use Rattle.flexlist.specs.Shape.{Block, block, Tree, FlexList}
use Rattle.flexlist.specs.Nodes.{stretches, Path, nodes, nodes_of_both, to_place}
use Rattle.flexlist.specs.Sharing.{written, InsertBound, RemovalBound}
use Rattle.flexlist.specs.Building.{Plan, built, insert, change, to_this, to_before, remove}
use Rattle.flexlist.proofs.Shape.{flex_falls, falls_flex, exactly_one}
use Rattle.flexlist.proofs.Cuts.{prior, at, behind, cells_insert, falls_insert, cells_change, falls_change}
use Rattle.flexlist.proofs.Merges.{cells_remove, falls_remove}
use Rattle.flexlist.proofs.Places.{Found, found, long_enough, cut_at, cut_after}
use Rattle.flexlist.proofs.Written.{written_at_most, keeps_insert, keeps_remove, made_insert, made_remove}

pub insert_gives :
    (l : ℕ) (xs ys : List Block) (b : Block) (base : Tree) → FlexList l (xs ++ ys) base →
    FlexList l (xs ++ b ∷ ys) (built (insert b.identity b.level (to_place base (length xs))))
insert_gives l xs ys b base f =
    let w : Path base = to_place base (length xs) in
    let c = cut_after l xs ys f in
    falls_flex _ l 0 _ (falls_insert b.identity b.level w (flex_falls f))
    (cells_insert b.identity b.level 0 w ∙ sym (append_assoc (prior 0 w) (at 0 w ∷ []) (b ∷ behind w)) ∙
    ap₂ (λ (x y : List Block). x ++ b ∷ y) c.upto_is c.behind_is)

pub change_gives :
    (l : ℕ) (xs ys : List Block) (b c : Block) (base : Tree) → FlexList l (xs ++ b ∷ ys) base → c.level ≡ b.level →
    FlexList l (xs ++ c ∷ ys) (built (change c.identity (to_place base (suc (length xs)))))
change_gives l xs ys b c base f e =
    let w : Path base = to_place base (suc (length xs)) in
    let p = cut_at l xs b ys f in
    let same : block c.identity (at 0 w).level ≡ c = ap (block c.identity) (ap (λ x. x.level) p.at_is ∙ sym e) in
    falls_flex _ l 0 _ (falls_change c.identity w (flex_falls f))
    (cells_change c.identity 0 w ∙ ap₂ (λ (x y : List Block). x ++ y) p.prior_is (ap₂ ◌∷◌ same p.behind_is))

-- the gap at which a block of the list is taken out
pub gap_at : (l : ℕ) (xs : List Block) (b : Block) (ys : List Block) (base : Tree) → FlexList l (xs ++ b ∷ ys) base → Found base (length xs)
gap_at l xs b ys base f = found base (length xs) (omega (arith, long_enough f, length-append xs (b ∷ ys)))

pub remove_gives :
    (l : ℕ) (xs ys : List Block) (b : Block) (base : Tree) (f : FlexList l (xs ++ b ∷ ys) base) →
    FlexList l (xs ++ ys) (built (remove (gap_at l xs b ys base f).gap))
remove_gives l xs ys b base f =
    let g = gap_at l xs b ys base f in
    let p = cut_at l xs b ys f in
    falls_flex _ l 0 _ (falls_remove g.gap (flex_falls f))
    (cells_remove 0 g.gap ∙ ap₂ (λ (x y : List Block). x ++ y) (ap (prior 0) g.this ∙ p.prior_is) (ap behind g.this ∙ p.behind_is))

-- what holds of one FlexList of a stretch holds of any other
pub any_other : (l : ℕ) (bs : List Block) (P : Tree → Type 0) (s t : Tree) → FlexList l bs s → FlexList l bs t → P s → P t
any_other l bs P s t f g h = let one = exactly_one l bs in subst P (one.only s f ∙ sym (one.only t g)) h

pub insert_bound : InsertBound
unfolding written
insert_bound l xs ys b base new f g =
    let x : Plan Tree = insert b.identity b.level (to_place base (length xs)) in
    let most = written_at_most (stretches base) x (keeps_insert _ _ _ _ (λ y h. h)) in
    any_other l _ (λ t. written base t ≤ nodes (to_place base (length xs)) + 2) (built x) new (insert_gives l xs ys b base f) g
    (omega (arith, made_insert b.identity b.level (to_place base (length xs))))

pub removal_bound : RemovalBound
unfolding written
removal_bound l xs ys b base new f g =
    let gap = gap_at l xs b ys base f in
    let x : Plan Tree = remove gap.gap in
    let most = written_at_most (stretches base) x (keeps_remove _ _ (λ y h. h)) in
    let few : written base (built x) < nodes_of_both (to_before gap.gap) (to_this gap.gap) = omega (arith, made_remove gap.gap) in
    any_other l _ (λ t. written base t < nodes_of_both (to_place base (length xs)) (to_place base (suc (length xs)))) (built x) new (remove_gives l xs ys b base f) g
    (subst₂ (λ v w. written base (built x) < nodes_of_both v w) gap.before gap.this few)
