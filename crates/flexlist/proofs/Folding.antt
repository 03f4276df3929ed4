-- Along any FlexList the join is the fold, since the join is associative.
use Rattle.std.proofs.Common.{◌≡◌, ℕ, List, [], ◌∷◌, ◌++◌, sym, ap, ◌∙◌, ap₂}
use Rattle.flexlist.specs.Shape.{Tree, last, leaf, fork}
use Rattle.flexlist.specs.Nodes.{identities}
use Rattle.flexlist.specs.Folding.{Lawful, folded, joined_along, Folding}
use Rattle.flexlist.proofs.Shape.{flex_identities}

module _ (A : Type 0) (empty : A) (join : A → A → A) (laws : Lawful A empty join) (value : ℕ → A) where
  folded_append : (xs ys : List ℕ) → folded empty join value (xs ++ ys) ≡ join (folded empty join value xs) (folded empty join value ys)
  unfolding folded
  folded_append [] ys = sym (laws.empty_left (folded empty join value ys))
  folded_append (x ∷ xs) ys = ap (join (value x)) (folded_append xs ys) ∙ sym (laws.assoc (value x) (folded empty join value xs) (folded empty join value ys))

  along : (t : Tree) → joined_along join value t ≡ folded empty join value (identities t)
  unfolding folded joined_along
  along (last a) = sym (laws.empty_right (value a))
  along (leaf a t) = ap (join (value a)) (along t)
  along (fork m s t) = ap₂ join (along s) (along t) ∙ sym (folded_append (identities s) (identities t))

pub folding : (A : Type 0) → Folding A
folding A empty join laws value l bs t f = along A empty join laws value t ∙ ap (folded empty join value) (flex_identities f)
