-- One step of a walk that counts the nodes of two neighbours' paths. Assumes nothing.
use Rattle.std.proofs.Common.{◌≡◌, ℕ, zero, suc, ◌+◌, ◌-◌, ◌%◌, ◌^◌, ◌<◌, ◌≤◌, min, List, length, Some, None, Option, refl, sym, subst, ap, ◌∙◌, ap₂, arith}
use Rattle.std.specs.List.{slice_get}
use Rattle.flexlist.specs.Shape.{Tree}
use Rattle.flexlist.specs.Shape as flat
use Rattle.flexlist.specs.Nodes.{nodes, nodes_of_both, leaves, to_place}
use Rattle.flexlist.proofs.Places.{to_place_below, to_place_after}
use Rattle.summary.specs.Summing.{Summing}
use Rattle.nodes.specs.declared.node.Node.{Node}
use Rattle.nodes.specs.declared.node.Shape.TheVariants.{Leaf, Fork}
use Rattle.flexlist.specs.Laid.{Laid, leaf, plain}
use Rattle.nodes.specs.Holding.{Content, Counted}
use Rattle.nodes.specs.Views.{seen, blocks_in}
use Rattle.nodes.specs.Walking.{CountedTo}
use Rattle.nodes.proofs.Held.{leaves_some, counted_leaf, counted_below, counted_after}
use Rattle.questions.specs.Readings.{Stands}
use Rattle.questions.specs.Paths.{PathCounted, PathsFirst, PathsCounted}
use Rattle.questions.proofs.Held.{at_nothing, at_last, at_leaf, at_fork}
use Rattle.questions.proofs.Counts.{nodes_few, both_few, blocks_counted}
use Rattle.questions.proofs.Ways.{one_more_if, one_more_is, Came}

-- the nodes of both paths to neighbours
both : Tree → ℕ → ℕ
both t p = nodes_of_both (to_place t p) (to_place t (suc p))

-- the nodes of two paths that part at a fork, and the fork, where there are both
abbrev pub two_and_fork_if : Option ℕ → Option ℕ → Option ℕ
two_and_fork_if None q = None
two_and_fork_if (Some m) None = None
two_and_fork_if (Some m) (Some n) = Some ((m + n + 1) % 2 ^ 32)

two_are : (q k r : Option ℕ) (m n l : ℕ) → r ≡ two_and_fork_if q k → q ≡ Some m → k ≡ Some n → l ≡ suc (m + n) → l < 2 ^ 32 → r ≡ Some l
two_are q k r m n l e f g i h =
    let whole : (m + n + 1) % 2 ^ 32 ≡ l = omega arith in
    e ∙ ap₂ two_and_fork_if f g ∙ ap Some whole

module _ (m : ℕ) (x y : Tree) where
  both_below : (p : ℕ) → suc p < leaves x → both (flat.Tree.fork m x y) p ≡ suc (both x p)
  unfolding both nodes_of_both
  both_below p h = ap₂ nodes_of_both (to_place_below m x y p (omega arith)) (to_place_below m x y (suc p) h)

  both_between : (p : ℕ) → suc p ≡ leaves x → both (flat.Tree.fork m x y) p ≡ suc (nodes (to_place x p) + nodes (to_place y 0))
  unfolding both nodes_of_both
  both_between p h = ap₂ nodes_of_both (to_place_below m x y p (omega arith)) (to_place_after m x y (suc p) 0 (omega arith))

  both_after : (p q : ℕ) → p ≡ leaves x + q → both (flat.Tree.fork m x y) p ≡ suc (both y q)
  unfolding both nodes_of_both
  both_after p q h = ap₂ nodes_of_both (to_place_after m x y p q h) (to_place_after m x y (suc p) (suc q) (omega arith))

module _ {R Q : Type 0} (s : Summing R Q) (table : List (Node Q)) (at upto : ℕ) where
  -- what is to be shown of a tree
  abbrev Said : (ℕ → Content R) → ℕ → Option ℕ → Laid → Type 0
  Said c place r t = Counted c t → leaves (plain t) + 1 < 2 ^ 32 → CountedTo c t (suc place) upto → r ≡ Some (nodes_of_both (to_place (plain t) place) (to_place (plain t) (suc place)))

  pub both_nothing : None ≡ seen at (slice_get table at) → PathsCounted s table at upto None
  both_nothing v c t place h = at_nothing s c table (Said c place None) at v t h

  pub both_last : (b l : ℕ) → Some (Leaf b l None) ≡ seen at (slice_get table at) → PathsCounted s table at upto None
  unfolding leaves
  both_last b l v c t place h = at_last s c table (Said c place None) at b l v (λ e a p q k f n. let in' = n.0 in absurd (omega arith)) t h

  -- a leaf with no block before it
  pub both_first : (b l n own : ℕ) → Some (Leaf b l (Some n)) ≡ seen at (slice_get table at) → own ≡ min l 1 → upto ≤ own → PathsCounted s table at upto None
  both_first b l n own v o u c t place h = at_leaf s c table (Said c place None) at b l n v (λ e a t' p d g k f i. let to = i.1 in absurd (omega arith)) t h

  stop_here : (c : ℕ → Content R) (e a n : ℕ) (t : Laid) (place own : ℕ) (q r : Option ℕ) → own ≡ min (length (c a).row) 1 → upto ≤ own + 1 → Stands s c table n t →
      PathCounted s table n 1 q → r ≡ one_more_if q → Said c place r (leaf e a t)
  unfolding nodes_of_both to_place leaves
  stop_here c e a n t zero own q r o u g w e' k f c' =
      let one = k.solid.0 in
      one_more_is q r _ _ e' (w c t 0 g (counted_leaf c k) (omega (arith, leaves_some (plain t)), omega arith)) refl (omega (arith, nodes_few (to_place (plain t) 0)))
  stop_here c e a n t (suc place) own q r o u g w e' k f c' = let to = c'.1 in absurd (omega arith)

  pub both_stop : (b l n own : ℕ) (q r : Option ℕ) → Some (Leaf b l (Some n)) ≡ seen at (slice_get table at) → own ≡ min l 1 → upto ≤ own + 1 →
      PathCounted s table n 1 q → r ≡ one_more_if q → PathsCounted s table at upto r
  both_stop b l n own q r v o u w f c t place h =
      at_leaf s c table (Said c place r) at b l n v (λ e a t' p d g. stop_here c e a n t' place own q r (o ∙ ap (λ k. min k 1) d) u g w f) t h

  go_on : (c : ℕ → Content R) (e a n : ℕ) (t : Laid) (place own : ℕ) (q r : Option ℕ) → own ≡ min (length (c a).row) 1 → own + 1 < upto → Stands s c table n t →
      PathsCounted s table n (upto - own) q → r ≡ one_more_if q → Said c place r (leaf e a t)
  unfolding nodes_of_both to_place leaves
  go_on c e a n t zero own q r o u g w e' k f c' = let to = c'.1 in absurd (omega arith)
  go_on c e a n t (suc place) own q r o u g w e' k f c' =
      let to = c'.1 in
      let in' = c'.0 in
      let one = k.solid.0 in
      one_more_is q r _ _ e' (w c t place g (counted_leaf c k) (omega arith) (omega arith, omega arith)) refl (omega (arith, both_few (to_place (plain t) place) (to_place (plain t) (suc place))))

  pub both_on : (b l n own : ℕ) (q r : Option ℕ) → Some (Leaf b l (Some n)) ≡ seen at (slice_get table at) → own ≡ min l 1 → own + 1 < upto →
      PathsCounted s table n (upto - own) q → r ≡ one_more_if q → PathsCounted s table at upto r
  both_on b l n own q r v o u w f c t place h =
      at_leaf s c table (Said c place r) at b l n v (λ e a t' p d g. go_on c e a n t' place own q r (o ∙ ap (λ k. min k 1) d) u g w f) t h

  pub both_in_below : (m b n left : ℕ) (q r : Option ℕ) → Some (Fork m b n) ≡ seen at (slice_get table at) → left ≡ blocks_in (slice_get table b) → upto ≤ left →
      PathsCounted s table b upto q → r ≡ one_more_if q → PathsCounted s table at upto r
  unfolding leaves both
  both_in_below m b n left q r v o u w f c t place h =
      at_fork s c table (Said c place r) at m b n v (λ e x y i j k few c'.
      let count = blocks_counted s c table b left x i (counted_below c k) o in
      let to = c'.1 in
      let there : suc place < leaves (plain x) = omega arith in
      let same = both_below m (plain x) (plain y) place there in
      one_more_is q r _ _ f (w c x place i (counted_below c k) (omega arith) (there, to)) same
      (omega (arith, same, both_few (to_place (plain x) place) (to_place (plain x) (suc place)), leaves_some (plain y)))) t h

  pub both_at_fork : (m b n left : ℕ) (q p r : Option ℕ) → Some (Fork m b n) ≡ seen at (slice_get table at) → left ≡ blocks_in (slice_get table b) → upto ≡ left + 1 →
      PathCounted s table b left q → PathCounted s table n 1 p → r ≡ two_and_fork_if q p → PathsCounted s table at upto r
  unfolding leaves both
  both_at_fork m b n left q p r v o u w w' f c t place h =
      at_fork s c table (Said c place r) at m b n v (λ e x y i j k few c'.
      let count = blocks_counted s c table b left x i (counted_below c k) o in
      let one = k.solid.1 in
      let to = c'.1 in
      let there : suc place ≡ leaves (plain x) = omega arith in
      let same = both_between m (plain x) (plain y) place there in
      two_are q p r _ _ _ f (w c x place i (counted_below c k) (omega arith, omega arith)) (w' c y 0 j (counted_after c k) (omega (arith, leaves_some (plain y)), omega arith)) same
      (omega (arith, same, nodes_few (to_place (plain x) place), nodes_few (to_place (plain y) 0)))) t h

  pub both_lost : (m b n left : ℕ) → Some (Fork m b n) ≡ seen at (slice_get table at) → left ≡ blocks_in (slice_get table b) → upto ≡ left + 1 →
      PathCounted s table b left None → PathsCounted s table at upto None
  unfolding leaves
  both_lost m b n left v o u w c t place h =
      at_fork s c table (Said c place None) at m b n v (λ e x y i j k few c'.
      let count = blocks_counted s c table b left x i (counted_below c k) o in
      let one = k.solid.1 in
      let to = c'.1 in
      let way = w c x place i (counted_below c k) (omega arith, omega arith) in
      let z : ◌≡◌ {A = ℕ} 0 1 = cc in
      absurd (omega arith)) t h

  pub both_in_after : (m b n left : ℕ) (q r : Option ℕ) → Some (Fork m b n) ≡ seen at (slice_get table at) → left ≡ blocks_in (slice_get table b) → left + 1 < upto →
      PathsCounted s table n (upto - left) q → r ≡ one_more_if q → PathsCounted s table at upto r
  unfolding leaves both
  both_in_after m b n left q r v o u w f c t place h =
      at_fork s c table (Said c place r) at m b n v (λ e x y i j k few c'.
      let one = k.solid.1 in
      let count = blocks_counted s c table b left x i (counted_below c k) o in
      let to = c'.1 in
      let in' = c'.0 in
      let over : place ≡ leaves (plain x) + (place - leaves (plain x)) = omega arith in
      let past = both_after m (plain x) (plain y) place (place - leaves (plain x)) over in
      one_more_is q r _ _ f (w c y (place - leaves (plain x)) j (counted_after c k) (omega arith) (omega arith, omega arith)) past
      (omega (arith, past, both_few (to_place (plain y) (place - leaves (plain x))) (to_place (plain y) (suc (place - leaves (plain x)))), leaves_some (plain x)))) t h

-- ---- no block before

module _ {R Q : Type 0} (s : Summing R Q) (table : List (Node Q)) (at upto : ℕ) where
  pub first_none : PathsFirst s table at upto None
  first_none c t h k i = refl

  -- past the leader it is not asked
  pub first_past : (b l n own : ℕ) (r : Option ℕ) → Some (Leaf b l (Some n)) ≡ seen at (slice_get table at) → own ≡ min l 1 → own < upto → PathsFirst s table at upto r
  first_past b l n own r v o u c t h =
      at_leaf s c table (λ t. Counted c t → CountedTo c t 0 upto → r ≡ None) at b l n v (λ e a t' p q g k i. let to = i.1 in absurd (omega arith)) t h

  pub first_after : (m b n left : ℕ) (r : Option ℕ) → Some (Fork m b n) ≡ seen at (slice_get table at) → left ≡ blocks_in (slice_get table b) → left < upto → PathsFirst s table at upto r
  first_after m b n left r v o u c t h =
      at_fork s c table (λ t. Counted c t → CountedTo c t 0 upto → r ≡ None) at m b n v (λ e x y p q k i.
      let count = blocks_counted s c table b left x p (counted_below c k) o in
      let some = leaves_some (plain x) in
      let to = i.1 in
      absurd (omega arith)) t h

  -- the leader is below
  pub first_below : (m b n : ℕ) (q r : Option ℕ) → Some (Fork m b n) ≡ seen at (slice_get table at) → PathsFirst s table b upto q → r ≡ one_more_if q → PathsFirst s table at upto r
  first_below m b n q r v w f c t h =
      at_fork s c table (λ t. Counted c t → CountedTo c t 0 upto → r ≡ None) at m b n v (λ e x y p _ k i.
      f ∙ ap one_more_if (w c x p (counted_below c k) (leaves_some (plain x), i.1))) t h

-- ---- a walk on its way that ends where the two paths part

module _ (Start Here : Option ℕ → Type 0) (count : ℕ) where
  -- at a leaf that one of them ends at: the other goes on
  pub came_to_leaf : (path next total : ℕ) → Came Start Here count → path ≡ (count + 1) % 2 ^ 32 → total ≡ (path + next) % 2 ^ 32 → Here (one_more_if (Some next)) → Start (Some total)
  came_to_leaf path next total came e f p =
      let same : total ≡ (count + (next + 1) % 2 ^ 32) % 2 ^ 32 = omega arith in
      subst (λ n. Start (Some n)) (sym same) (came.so (one_more_if (Some next)) (omega arith) p)

  -- at a fork
  pub came_to_fork : (path first second total : ℕ) → Came Start Here count → path ≡ (count + 1) % 2 ^ 32 → total ≡ (path + first + second) % 2 ^ 32 → Here (two_and_fork_if (Some first) (Some second)) → Start (Some total)
  came_to_fork path first second total came e f p =
      let same : total ≡ (count + (first + second + 1) % 2 ^ 32) % 2 ^ 32 = omega arith in
      subst (λ n. Start (Some n)) (sym same) (came.so (two_and_fork_if (Some first) (Some second)) (omega arith) p)
