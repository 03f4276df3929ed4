-- The readings of a tree, by its parts. Assumes nothing.
use Rattle.std.proofs.Common.{◌≡◌, ℕ, ◌+◌, ◌^◌, ◌<◌, List, [], ◌∷◌, ◌++◌, map, length, sym, refl, ap, ◌∙◌, ap₂, append_assoc, append-nil, arith, length-append}
use mathlib.Core.List.{map-append}
use Rattle.std.specs.List.{slice_get}
use Rattle.flexlist.specs.Shape.{Block, FlexList}
use Rattle.flexlist.specs.Nodes.{identities, leaves}
use Rattle.flexlist.proofs.Shape.{flex_identities}
use Rattle.summary.specs.Summing.{Summing, Lawful, summary_of}
use Rattle.summary.proofs.Rows.{cut_anywhere}
use Rattle.nodes.specs.declared.node.Node.{Node}
use Rattle.flexlist.specs.Laid.{Laid, last, leaf, fork, plain}
use Rattle.nodes.specs.Holding.{Content, node_of}
use Rattle.nodes.specs.Views.{readings_in}
use Rattle.questions.specs.Readings.{in_order, rows_of, readings_of, Small, Stands}
use Rattle.questions.proofs.Held.{stands_node}

in_order_append : {R : Type 0} (xs ys : List (List R)) → in_order (xs ++ ys) ≡ in_order xs ++ in_order ys
in_order_append [] ys = refl
in_order_append (x ∷ xs) ys = ap (λ l. x ++ l) (in_order_append xs ys) ∙ sym (append_assoc x (in_order xs) (in_order ys))

module _ {R : Type 0} (c : ℕ → Content R) where
  pub readings_last : (e a : ℕ) → readings_of c (last e a) ≡ (c a).row
  unfolding readings_of
  readings_last e a = append-nil (c a).row

  pub readings_leaf : (e a : ℕ) (t : Laid) → readings_of c (leaf e a t) ≡ (c a).row ++ readings_of c t
  unfolding readings_of
  readings_leaf e a t = refl

  pub rows_fork : (e m : ℕ) (x y : Laid) → rows_of c (fork e m x y) ≡ rows_of c x ++ rows_of c y
  rows_fork e m x y = map-append (λ a. (c a).row) (identities (plain x)) (identities (plain y))

  pub readings_fork : (e m : ℕ) (x y : Laid) → readings_of c (fork e m x y) ≡ readings_of c x ++ readings_of c y
  unfolding readings_of
  readings_fork e m x y = ap in_order (rows_fork e m x y) ∙ in_order_append (rows_of c x) (rows_of c y)

  -- the readings of a list of blocks, whose FlexList the tree is
  pub readings_flex : (t : Laid) {l : ℕ} {bs : List Block} → FlexList l bs (plain t) → readings_of c t ≡ in_order (map (λ a. (c a).row) (l ∷ map (λ b. b.identity) bs))
  unfolding readings_of
  readings_flex t f = ap (λ ids. in_order (map (λ a. (c a).row) ids)) (flex_identities f)

  -- their counts
  pub count_last : (e a : ℕ) → length (readings_of c (last e a)) ≡ length (c a).row
  count_last e a = ap length (readings_last e a)

  pub count_leaf : (e a : ℕ) (t : Laid) → length (readings_of c (leaf e a t)) ≡ length (c a).row + length (readings_of c t)
  count_leaf e a t = ap length (readings_leaf e a t) ∙ length-append (c a).row (readings_of c t)

  pub count_fork : (e m : ℕ) (x y : Laid) → length (readings_of c (fork e m x y)) ≡ length (readings_of c x) + length (readings_of c y)
  count_fork e m x y = ap length (readings_fork e m x y) ∙ length-append (readings_of c x) (readings_of c y)

  pub small_next : (e a : ℕ) (t : Laid) → Small c (leaf e a t) → Small c t
  unfolding leaves
  small_next e a t k = let few = k.few in let short = k.short in record { few = omega arith; short = omega (arith, count_leaf e a t) }

  pub small_below : (e m : ℕ) (x y : Laid) → Small c (fork e m x y) → Small c x
  unfolding leaves
  small_below e m x y k = let few = k.few in let short = k.short in record { few = omega arith; short = omega (arith, count_fork e m x y) }

  pub small_after : (e m : ℕ) (x y : Laid) → Small c (fork e m x y) → Small c y
  unfolding leaves
  small_after e m x y k = let few = k.few in let short = k.short in record { few = omega arith; short = omega (arith, count_fork e m x y) }

module _ {R Q : Type 0} (s : Summing R Q) (c : ℕ → Content R) where
  readings_are : (t : Laid) → length (readings_of c t) < 2 ^ 32 → (node_of s c t).readings ≡ length (readings_of c t)
  unfolding node_of
  readings_are (last e a) h = omega (arith, count_last c e a)
  readings_are (leaf e a t) h =
      let count = count_leaf c e a t in
      let more = readings_are t (omega arith) in
      omega arith
  readings_are (fork e m x y) h =
      let count = count_fork c e m x y in
      let first = readings_are x (omega arith) in
      let second = readings_are y (omega arith) in
      omega arith

  -- how many readings the node at an entry counts
  pub readings_counted : (table : List (Node Q)) (at left : ℕ) (t : Laid) → Stands s c table at t → Small c t → left ≡ readings_in (slice_get table at) → left ≡ length (readings_of c t)
  readings_counted table at left t h k e = e ∙ ap readings_in (stands_node s c table at t h) ∙ readings_are t k.short

  -- the summary that a node holds
  pub summary_held : Lawful s → (t : Laid) → (node_of s c t).summary ≡ summary_of s (readings_of c t)
  unfolding node_of
  summary_held laws (last e a) = ap (summary_of s) (sym (readings_last c e a))
  summary_held laws (leaf e a t) =
      ap (s.join (summary_of s (c a).row)) (summary_held laws t) ∙ sym (ap (summary_of s) (readings_leaf c e a t) ∙ cut_anywhere s laws (c a).row (readings_of c t))
  summary_held laws (fork e m x y) =
      ap₂ s.join (summary_held laws x) (summary_held laws y) ∙ sym (ap (summary_of s) (readings_fork c e m x y) ∙ cut_anywhere s laws (readings_of c x) (readings_of c y))
