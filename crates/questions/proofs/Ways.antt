-- One step of a walk that counts the nodes of a path. Assumes nothing.
use Rattle.std.proofs.Common.{◌≡◌, ℕ, zero, suc, ◌+◌, ◌-◌, ◌%◌, ◌^◌, ◌<◌, ◌≤◌, min, List, length, Some, None, Option, refl, ap, sym, subst, ◌∙◌, arith}
use Rattle.std.specs.List.{slice_get}
use Rattle.flexlist.specs.Shape.{Tree}
use Rattle.flexlist.specs.Shape as flat
use Rattle.flexlist.specs.Nodes.{nodes, leaves, to_place}
use Rattle.flexlist.proofs.Places.{to_place_below, to_place_after}
use Rattle.summary.specs.Summing.{Summing}
use Rattle.nodes.specs.declared.node.Node.{Node}
use Rattle.nodes.specs.declared.node.Shape.TheVariants.{Leaf, Fork}
use Rattle.flexlist.specs.Laid.{Laid, leaf, plain}
use Rattle.nodes.specs.Holding.{Content, Counted}
use Rattle.nodes.specs.Views.{seen, blocks_in}
use Rattle.nodes.specs.Walking.{CountedTo}
use Rattle.nodes.proofs.Held.{leaves_some, counted_leaf, counted_below, counted_after}
use Rattle.questions.specs.Readings.{Stands}
use Rattle.questions.specs.Paths.{PathCounted}
use Rattle.questions.proofs.Held.{at_nothing, at_last, at_leaf, at_fork}
use Rattle.questions.proofs.Counts.{nodes_few, blocks_counted}

-- one node more on a path, where there is one
abbrev pub one_more_if : Option ℕ → Option ℕ
one_more_if None = None
one_more_if (Some n) = Some ((n + 1) % 2 ^ 32)

pub one_more_is : (q r : Option ℕ) (n m : ℕ) → r ≡ one_more_if q → q ≡ Some n → m ≡ suc n → m < 2 ^ 32 → r ≡ Some m
one_more_is q r n m e f g h =
    let whole : (n + 1) % 2 ^ 32 ≡ m = omega arith in
    e ∙ ap one_more_if f ∙ ap Some whole

module _ (m : ℕ) (x y : Tree) where
  pub nodes_below : (p : ℕ) → p < leaves x → nodes (to_place (flat.Tree.fork m x y) p) ≡ suc (nodes (to_place x p))
  unfolding nodes
  nodes_below p h = ap nodes (to_place_below m x y p h)

  pub nodes_after : (p q : ℕ) → p ≡ leaves x + q → nodes (to_place (flat.Tree.fork m x y) p) ≡ suc (nodes (to_place y q))
  unfolding nodes
  nodes_after p q h = ap nodes (to_place_after m x y p q h)

module _ {R Q : Type 0} (s : Summing R Q) (table : List (Node Q)) (at upto : ℕ) where
  -- what is to be shown of a tree
  abbrev Said : (ℕ → Content R) → ℕ → Option ℕ → Laid → Type 0
  Said c place r t = Counted c t → CountedTo c t place upto → r ≡ Some (nodes (to_place (plain t) place))

  pub path_nothing : None ≡ seen at (slice_get table at) → PathCounted s table at upto None
  path_nothing v c t place h = at_nothing s c table (Said c place None) at v t h

  pub path_last : (b l : ℕ) → Some (Leaf b l None) ≡ seen at (slice_get table at) → PathCounted s table at upto (Some 1)
  unfolding nodes to_place
  path_last b l v c t place h = at_last s c table (Said c place (Some 1)) at b l v (λ e a p q k n. refl) t h

  stop_here : (c : ℕ → Content R) (e a : ℕ) (t : Laid) (place own : ℕ) → own ≡ min (length (c a).row) 1 → upto ≤ own → Said c place (Some 1) (leaf e a t)
  unfolding nodes to_place
  stop_here c e a t zero own o u k n = refl
  stop_here c e a t (suc place) own o u k n = let to = n.1 in absurd (omega arith)

  pub path_stop : (b l n own : ℕ) → Some (Leaf b l (Some n)) ≡ seen at (slice_get table at) → own ≡ min l 1 → upto ≤ own → PathCounted s table at upto (Some 1)
  path_stop b l n own v o u c t place h =
      at_leaf s c table (Said c place (Some 1)) at b l n v (λ e a t' p q g. stop_here c e a t' place own (o ∙ ap (λ k. min k 1) q) u) t h

  go_on : (c : ℕ → Content R) (e a n : ℕ) (t : Laid) (place own : ℕ) (q r : Option ℕ) → own ≡ min (length (c a).row) 1 → own < upto → Stands s c table n t →
      PathCounted s table n (upto - own) q → r ≡ one_more_if q → Said c place r (leaf e a t)
  unfolding nodes to_place leaves
  go_on c e a n t zero own q r o u g w e' k c' = let to = c'.1 in absurd (omega arith)
  go_on c e a n t (suc place) own q r o u g w e' k c' =
      let to = c'.1 in
      let in' = c'.0 in
      let one = k.solid.0 in
      let few = k.few in
      one_more_is q r _ _ e' (w c t place g (counted_leaf c k) (omega arith, omega arith)) refl (omega (arith, nodes_few (to_place (plain t) place)))

  pub path_on : (b l n own : ℕ) (q r : Option ℕ) → Some (Leaf b l (Some n)) ≡ seen at (slice_get table at) → own ≡ min l 1 → own < upto →
      PathCounted s table n (upto - own) q → r ≡ one_more_if q → PathCounted s table at upto r
  path_on b l n own q r v o u w f c t place h =
      at_leaf s c table (Said c place r) at b l n v (λ e a t' p d g. go_on c e a n t' place own q r (o ∙ ap (λ k. min k 1) d) u g w f) t h

  pub path_below : (m b n left : ℕ) (q r : Option ℕ) → Some (Fork m b n) ≡ seen at (slice_get table at) → left ≡ blocks_in (slice_get table b) → upto ≤ left →
      PathCounted s table b upto q → r ≡ one_more_if q → PathCounted s table at upto r
  unfolding leaves
  path_below m b n left q r v o u w f c t place h =
      at_fork s c table (Said c place r) at m b n v (λ e x y i j k c'.
      let few = k.few in
      let count = blocks_counted s c table b left x i (counted_below c k) o in
      let to = c'.1 in
      let some = leaves_some (plain x) in
      let there : place < leaves (plain x) = omega arith in
      one_more_is q r _ _ f (w c x place i (counted_below c k) (there, to)) (nodes_below m (plain x) (plain y) place there)
      (omega (arith, nodes_below m (plain x) (plain y) place there, nodes_few (to_place (plain x) place), leaves_some (plain y)))) t h

  pub path_after : (m b n left : ℕ) (q r : Option ℕ) → Some (Fork m b n) ≡ seen at (slice_get table at) → left ≡ blocks_in (slice_get table b) → left < upto →
      PathCounted s table n (upto - left) q → r ≡ one_more_if q → PathCounted s table at upto r
  unfolding leaves
  path_after m b n left q r v o u w f c t place h =
      at_fork s c table (Said c place r) at m b n v (λ e x y i j k c'.
      let few = k.few in
      let one = k.solid.1 in
      let count = blocks_counted s c table b left x i (counted_below c k) o in
      let to = c'.1 in
      let in' = c'.0 in
      let over : place ≡ leaves (plain x) + (place - leaves (plain x)) = omega arith in
      let past = nodes_after m (plain x) (plain y) place (place - leaves (plain x)) over in
      one_more_is q r _ _ f (w c y (place - leaves (plain x)) j (counted_after c k) (omega arith, omega arith)) past
      (omega (arith, past, nodes_few (to_place (plain y) (place - leaves (plain x))), leaves_some (plain x)))) t h

-- ---- a walk on its way

-- a count with those before it
abbrev pub on_from : ℕ → Option ℕ → Option ℕ
on_from before None = None
on_from before (Some n) = Some ((before + n) % 2 ^ 32)

abbrev pub Few : Option ℕ → Type 0
Few None = Unit {0}
Few (Some n) = n < 2 ^ 32

-- A walk came by so many nodes from where it set out to where it is: a count that is right here is right there, with these nodes before it.
pub record Came (Start Here : Option ℕ → Type 0) (count : ℕ) : Type 0 where
  pub so : (q : Option ℕ) → Few q → Here q → Start (on_from count q)

counted_on : (before : ℕ) (q : Option ℕ) → on_from ((before + 1) % 2 ^ 32) q ≡ on_from before (one_more_if q)
counted_on before None = refl
counted_on before (Some n) = let same : ((before + 1) % 2 ^ 32 + n) % 2 ^ 32 ≡ (before + (n + 1) % 2 ^ 32) % 2 ^ 32 = omega arith in ap Some same

stays_few : (q : Option ℕ) → Few (one_more_if q)
stays_few None = tt
stays_few (Some n) = omega arith

all_of : (q : Option ℕ) → Few q → on_from 0 q ≡ q
all_of None h = refl
all_of (Some n) h = let same : (0 + n) % 2 ^ 32 ≡ n = omega arith in ap Some same

pub came_nowhere : (P : Option ℕ → Type 0) → Came P P 0
came_nowhere P = record { so = λ q few p. subst P (sym (all_of q few)) p }

module _ (Start Here : Option ℕ → Type 0) (count : ℕ) where
  pub came_further : (Next : Option ℕ → Type 0) (count' : ℕ) → Came Start Here count → count' ≡ (count + 1) % 2 ^ 32 → ((q : Option ℕ) → Next q → Here (one_more_if q)) → Came Start Next count'
  came_further Next count' came e step = record { so = λ q few p. subst Start (sym (ap (λ k. on_from k q) e ∙ counted_on count q)) (came.so (one_more_if q) (stays_few q) (step q p)) }

  pub came_one : (path : ℕ) → Came Start Here count → path ≡ (count + 1) % 2 ^ 32 → Here (Some 1) → Start (Some path)
  came_one path came e p = subst Start (sym (ap Some e)) (came.so (Some 1) (omega arith) p)

  pub came_none : Came Start Here count → Here None → Start None
  came_none came p = came.so None tt p
