-- One step of a walk to the block that has a reading. Assumes nothing.
use Rattle.std.proofs.Common.{◌≡◌, ℕ, zero, suc, ◌+◌, ◌-◌, ◌%◌, ◌^◌, ◌<◌, ◌≤◌, List, [], ◌∷◌, ◌++◌, map, length, get_or, Some, None, Option, sym, refl, ap, ◌∙◌, subst, ⊎_elim, arith, length-append, get_or-append-add}
use Rattle.std.proofs.lemmas.List.{get_or_append_left}
use Rattle.std.specs.List.{slice_get}
use Rattle.std.proofs.lemmas.Bool.{lt-ltb, le-ltb, cond-true, cond-false, cases_lt}
use Rattle.flexlist.specs.Shape.{Tree}
use Rattle.flexlist.specs.Shape as flat
use Rattle.flexlist.specs.Nodes.{nodes, leaves, identities, to_place}
use Rattle.summary.specs.Summing.{Summing}
use Rattle.nodes.specs.declared.node.Node.{Node}
use Rattle.nodes.specs.declared.node.Shape.TheVariants.{Leaf, Fork}
use Rattle.flexlist.specs.Laid.{Laid, last, leaf, fork, plain}
use Rattle.nodes.specs.Holding.{Content}
use Rattle.nodes.specs.Views.{seen, readings_in}
use Rattle.nodes.proofs.Held.{leaves_some}
use Rattle.questions.specs.declared.found.Found.{Found}
use Rattle.questions.specs.Readings.{in_order, row_with, rows_of, readings_of, Small}
use Rattle.questions.specs.Finding.{block_at, FoundAt, FoundIn, Finds}
use Rattle.questions.proofs.Held.{at_nothing, at_last, at_leaf, at_fork}
use Rattle.questions.proofs.Counts.{nodes_few}
use Rattle.questions.proofs.Ways.{one_more_if, nodes_below, nodes_after, Came, came_nowhere, came_further, came_one, came_none}
use Rattle.questions.proofs.Readings.{readings_last, readings_leaf, readings_fork, rows_fork, count_last, count_leaf, count_fork, small_next, small_below, small_after, readings_counted}

-- ---- positions in one list after another

-- one node further from the root, where it is found
abbrev pub farther_if : Option Found → Option Found
farther_if None = None
farther_if (Some f) = Some (record { block = f.block; place = f.place; path = (f.path + 1) % 2 ^ 32 })

module _ {A : Type 0} where
  pub nth_left : (xs ys : List A) (i : ℕ) → i < length xs → slice_get (xs ++ ys) i ≡ slice_get xs i
  nth_left [] ys i h = absurd (omega arith)
  nth_left (x ∷ xs) ys zero h = refl
  nth_left (x ∷ xs) ys (suc i) h = nth_left xs ys i (omega arith)

  pub nth_right : (xs ys : List A) (i j : ℕ) → i ≡ length xs + j → slice_get (xs ++ ys) i ≡ slice_get ys j
  nth_right [] ys i j h = let same : i ≡ j = omega arith in ap (slice_get ys) same
  nth_right (x ∷ xs) ys zero j h = absurd (omega arith)
  nth_right (x ∷ xs) ys (suc i) j h = nth_right xs ys i j (omega arith)

module _ {R : Type 0} where
  row_here : (x : List R) (xs : List (List R)) (p : ℕ) → p < length x → row_with (x ∷ xs) p ≡ 0
  row_here x xs p h = cond-true _ _ _ (lt-ltb p (length x) h)

  row_next : (x : List R) (xs : List (List R)) (p : ℕ) → length x ≤ p → row_with (x ∷ xs) p ≡ suc (row_with xs (p - length x))
  row_next x xs p h = cond-false _ _ _ (le-ltb p (length x) h)

  row_left : (xs ys : List (List R)) (p : ℕ) → p < length (in_order xs) → row_with (xs ++ ys) p ≡ row_with xs p
  row_left [] ys p h = absurd (omega arith)
  row_left (x ∷ xs) ys p h =
      ⊎_elim
      (λ l. row_here x (xs ++ ys) p l ∙ sym (row_here x xs p l))
      (λ g. row_next x (xs ++ ys) p g ∙ ap suc (row_left xs ys (p - length x) (omega (arith, length-append x (in_order xs)))) ∙ sym (row_next x xs p g))
      (cases_lt p (length x))

  row_right : (xs ys : List (List R)) (p q : ℕ) → p ≡ length (in_order xs) + q → row_with (xs ++ ys) p ≡ length xs + row_with ys q
  row_right [] ys p q h = let same : p ≡ q = omega arith in let e : row_with ys p ≡ row_with ys q = ap (row_with ys) same in omega arith
  row_right (x ∷ xs) ys p q h =
      let count = length-append x (in_order xs) in
      let more = row_right xs ys (p - length x) q (omega arith) in
      let next = row_next x (xs ++ ys) p (omega arith) in
      omega arith

ids_count : (t : Tree) → length (identities t) ≡ leaves t
unfolding leaves
ids_count (flat.Tree.last a) = refl
ids_count (flat.Tree.leaf a t) = ap suc (ids_count t)
ids_count (flat.Tree.fork m s t) = omega (arith, ids_count s, ids_count t, length-append (identities s) (identities t))

map_count : {A B : Type 0} (f : A → B) (xs : List A) → length (map f xs) ≡ length xs
map_count f [] = refl
map_count f (x ∷ xs) = ap suc (map_count f xs)

module _ {R : Type 0} (c : ℕ → Content R) where
  rows_count : (t : Laid) → length (rows_of c t) ≡ leaves (plain t)
  rows_count t = map_count (λ a. (c a).row) (identities (plain t)) ∙ ids_count (plain t)

  pub block_below : (e m : ℕ) (x y : Laid) (k : ℕ) → k < leaves (plain x) → block_at c (fork e m x y) k ≡ block_at c x k
  block_below e m x y k h = let inside : k < length (identities (plain x)) = omega (arith, ids_count (plain x)) in ap c (get_or_append_left (identities (plain x)) (identities (plain y)) 0 k inside)

  pub block_after : (e m : ℕ) (x y : Laid) (k : ℕ) → block_at c (fork e m x y) (leaves (plain x) + k) ≡ block_at c y k
  block_after e m x y k =
      ap (λ n. c (get_or (identities (plain x) ++ identities (plain y)) (n + k) 0)) (sym (ids_count (plain x))) ∙ ap c (get_or-append-add (identities (plain x)) (identities (plain y)) k 0)

  -- ---- what is found, by the case of the tree

  found_last : (e a b p : ℕ) → b ≡ (c a).number → p < length (c a).row → FoundAt c (last e a) p (record { block = b; place = p; path = 1 }) (row_with (rows_of c (last e a)) p)
  unfolding nodes to_place leaves
  found_last e a b p n h = subst (λ k. FoundAt c (last e a) p (record { block = b; place = p; path = 1 }) k) (sym (row_here (c a).row [] p h)) (record {
    there = omega arith;
    block = n;
    within = h;
    same = ap (λ l. slice_get l p) (sym (readings_last c e a));
    path = refl;
  })

  found_leaf : (e a b p : ℕ) (t : Laid) → b ≡ (c a).number → p < length (c a).row → FoundAt c (leaf e a t) p (record { block = b; place = p; path = 1 }) (row_with (rows_of c (leaf e a t)) p)
  unfolding nodes to_place leaves
  found_leaf e a b p t n h = subst (λ k. FoundAt c (leaf e a t) p (record { block = b; place = p; path = 1 }) k) (sym (row_here (c a).row (rows_of c t) p h)) (record {
    there = omega arith;
    block = n;
    within = h;
    same = sym (ap (λ l. slice_get l p) (readings_leaf c e a t) ∙ nth_left (c a).row (readings_of c t) p h);
    path = refl;
  })

  found_on : (e a p l : ℕ) (t : Laid) (q : Option Found) → Small c (leaf e a t) → l ≡ length (c a).row → l ≤ p → FoundIn c t (p - l) q → FoundIn c (leaf e a t) p (farther_if q)
  unfolding nodes to_place leaves
  found_on e a p l t None k i h f = omega (arith, count_leaf c e a t)
  found_on e a p l t (Some g) k i h f =
      let few = k.few in
      let r : ℕ = row_with (rows_of c t) (p - l) in
      let next : row_with (rows_of c (leaf e a t)) p ≡ suc r = row_next (c a).row (rows_of c t) p (omega arith) ∙ ap (λ n. suc (row_with (rows_of c t) (p - n))) (sym i) in
      let inside = f.there in
      let far = f.path in
      subst (λ n. FoundAt c (leaf e a t) p (record { block = g.block; place = g.place; path = (g.path + 1) % 2 ^ 32 }) n) (sym next) (record {
        there = omega arith;
        block = f.block;
        within = f.within;
        same = f.same ∙ sym (ap (λ l. slice_get l p) (readings_leaf c e a t) ∙ nth_right (c a).row (readings_of c t) p (p - l) (omega arith));
        path = omega (arith, nodes_few (to_place (plain t) r));
      })

  found_below : (e m p : ℕ) (x y : Laid) (q : Option Found) → Small c (fork e m x y) → p < length (readings_of c x) → FoundIn c x p q → FoundIn c (fork e m x y) p (farther_if q)
  unfolding leaves readings_of
  found_below e m p x y None k h f = absurd (omega arith)
  found_below e m p x y (Some g) k h f =
      let few = k.few in
      let r : ℕ = row_with (rows_of c x) p in
      let same_row : row_with (rows_of c (fork e m x y)) p ≡ r = ap (λ l. row_with l p) (rows_fork c e m x y) ∙ row_left (rows_of c x) (rows_of c y) p h in
      let inside = f.there in
      let far = f.path in
      let block = block_below e m x y r inside in
      let way = nodes_below m (plain x) (plain y) r inside in
      subst (λ n. FoundAt c (fork e m x y) p (record { block = g.block; place = g.place; path = (g.path + 1) % 2 ^ 32 }) n) (sym same_row) (record {
        there = omega arith;
        block = f.block ∙ ap (λ b. b.number) (sym block);
        within = subst (λ b. g.place < length b.row) (sym block) f.within;
        same = ap (λ b. slice_get b.row g.place) block ∙ f.same ∙ sym (ap (λ l. slice_get l p) (readings_fork c e m x y) ∙ nth_left (readings_of c x) (readings_of c y) p h);
        path = omega (arith, nodes_few (to_place (plain x) r), leaves_some (plain y), way);
      })

  found_after : (e m p : ℕ) (x y : Laid) (q : Option Found) → Small c (fork e m x y) → length (readings_of c x) ≤ p → FoundIn c y (p - length (readings_of c x)) q → FoundIn c (fork e m x y) p (farther_if q)
  unfolding leaves readings_of
  found_after e m p x y None k h f = omega (arith, count_fork c e m x y)
  found_after e m p x y (Some g) k h f =
      let few = k.few in
      let o : ℕ = p - length (readings_of c x) in
      let r : ℕ = row_with (rows_of c y) o in
      let over : p ≡ length (readings_of c x) + o = omega arith in
      let next : row_with (rows_of c (fork e m x y)) p ≡ leaves (plain x) + r =
      ap (λ l. row_with l p) (rows_fork c e m x y) ∙ row_right (rows_of c x) (rows_of c y) p o over ∙ ap (λ n. n + r) (rows_count x) in
      let inside = f.there in
      let far = f.path in
      let block = block_after e m x y r in
      let way = nodes_after m (plain x) (plain y) (leaves (plain x) + r) r refl in
      subst (λ n. FoundAt c (fork e m x y) p (record { block = g.block; place = g.place; path = (g.path + 1) % 2 ^ 32 }) n) (sym next) (record {
        there = omega arith;
        block = f.block ∙ ap (λ b. b.number) (sym block);
        within = subst (λ b. g.place < length b.row) (sym block) f.within;
        same = ap (λ b. slice_get b.row g.place) block ∙ f.same ∙ sym (ap (λ l. slice_get l p) (readings_fork c e m x y) ∙ nth_right (readings_of c x) (readings_of c y) p o over);
        path = omega (arith, nodes_few (to_place (plain y) r), leaves_some (plain x), way);
      })

-- ---- the walk's steps

module _ {R Q : Type 0} (s : Summing R Q) (table : List (Node Q)) (at position : ℕ) where
  -- what is to be shown of a tree
  abbrev Said : (ℕ → Content R) → Option Found → Laid → Type 0
  Said c r t = Small c t → FoundIn c t position r

  pub find_nothing : None ≡ seen at (slice_get table at) → Finds s table at position None
  find_nothing v c t h = at_nothing s c table (Said c None) at v t h

  pub find_past : (b l : ℕ) → Some (Leaf b l None) ≡ seen at (slice_get table at) → l ≤ position → Finds s table at position None
  find_past b l v u c t h = at_last s c table (Said c None) at b l v (λ e a p q k. omega (arith, count_last c e a)) t h

  pub find_here : (b l : ℕ) (j : Option ℕ) → Some (Leaf b l j) ≡ seen at (slice_get table at) → position < l → Finds s table at position (Some (record { block = b; place = position; path = 1 }))
  find_here b l None v u c t h = at_last s c table (Said c (Some (record { block = b; place = position; path = 1 }))) at b l v (λ e a p q k. found_last c e a b position p (omega arith)) t h
  find_here b l (Some n) v u c t h = at_leaf s c table (Said c (Some (record { block = b; place = position; path = 1 }))) at b l n v (λ e a t' p q g k. found_leaf c e a b position t' p (omega arith)) t h

  pub find_on : (b l n : ℕ) (q r : Option Found) → Some (Leaf b l (Some n)) ≡ seen at (slice_get table at) → l ≤ position → Finds s table n (position - l) q → r ≡ farther_if q → Finds s table at position r
  find_on b l n q r v u w f c t h =
      at_leaf s c table (Said c r) at b l n v (λ e a t' p d g k. subst (FoundIn c (leaf e a t') position) (sym f) (found_on c e a position l t' q k d u (w c t' g (small_next c e a t' k)))) t h

  pub find_below : (m b n left : ℕ) (q r : Option Found) → Some (Fork m b n) ≡ seen at (slice_get table at) → left ≡ readings_in (slice_get table b) → position < left →
      Finds s table b position q → r ≡ farther_if q → Finds s table at position r
  find_below m b n left q r v o u w f c t h =
      at_fork s c table (Said c r) at m b n v (λ e x y i j k.
      let count = readings_counted s c table b left x i (small_below c e m x y k) o in
      subst (FoundIn c (fork e m x y) position) (sym f) (found_below c e m position x y q k (omega arith) (w c x i (small_below c e m x y k)))) t h

  pub find_after : (m b n left : ℕ) (q r : Option Found) → Some (Fork m b n) ≡ seen at (slice_get table at) → left ≡ readings_in (slice_get table b) → left ≤ position →
      Finds s table n (position - left) q → r ≡ farther_if q → Finds s table at position r
  find_after m b n left q r v o u w f c t h =
      at_fork s c table (Said c r) at m b n v (λ e x y i j k.
      let count = readings_counted s c table b left x i (small_below c e m x y k) o in
      let part = subst (λ l. FoundIn c y (position - l) q) count (w c y j (small_after c e m x y k)) in
      subst (FoundIn c (fork e m x y) position) (sym f) (found_after c e m position x y q k (omega arith) part)) t h

-- ---- a walk on its way: what is found from here on, in any block and place

-- a place in a block's row, found by so many nodes
abbrev spot : ℕ → ℕ → Option ℕ → Option Found
spot block place None = None
spot block place (Some n) = Some (record { block = block; place = place; path = n })

farther_spot : (block place : ℕ) (q : Option ℕ) → spot block place (one_more_if q) ≡ farther_if (spot block place q)
farther_spot block place None = refl
farther_spot block place (Some n) = refl

module _ {R Q : Type 0} (s : Summing R Q) (table : List (Node Q)) where
  -- From an entry, looking for a position, the walk came to another, where it looks for a further position, by so many nodes.
  pub record CameTo (start position here rest count : ℕ) : Type 0 where
    pub so : (block place : ℕ) → Came (λ q. Finds s table start position (spot block place q)) (λ q. Finds s table here rest (spot block place q)) count

  pub set_out : (start position : ℕ) → CameTo start position start position 0
  set_out start position = record { so = λ block place. came_nowhere _ }

  module _ (start position here rest count : ℕ) where
    pub came_on : (here' rest' count' : ℕ) → CameTo start position here rest count → count' ≡ (count + 1) % 2 ^ 32 →
        ((q r : Option Found) → Finds s table here' rest' q → r ≡ farther_if q → Finds s table here rest r) → CameTo start position here' rest' count'
    came_on here' rest' count' came e step = record { so = λ block place. came_further _ _ _ _ _ (came.so block place) e (λ q f. step (spot block place q) _ f (farther_spot block place q)) }

    pub came_to_it : (block place path : ℕ) → CameTo start position here rest count → path ≡ (count + 1) % 2 ^ 32 →
        Finds s table here rest (Some (record { block = block; place = place; path = 1 })) → Finds s table start position (Some (record { block = block; place = place; path = path }))
    came_to_it block place path came e f = came_one _ _ _ _ (came.so block place) e f

    pub came_to_nothing : CameTo start position here rest count → Finds s table here rest None → Finds s table start position None
    came_to_nothing came f = came_none _ _ _ (came.so 0 0) f
