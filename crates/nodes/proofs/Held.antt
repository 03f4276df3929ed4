-- A held tree: what is seen at its root, what its nodes count, its parts, and that it stays where a table grows. Assumes nothing.
use Rattle.std.proofs.Common.{◌≡◌, ℕ, ◌+◌, ◌<◌, ltb, List, length, Some, sym, ap, ◌∙◌, subst, arith, None, Option}
use Rattle.std.specs.List.{slice_get}
use Rattle.std.proofs.lemmas.Bool.{lt-ltb, cond-true, and_from}
use Rattle.flexlist.specs.Shape.{Tree}
use Rattle.flexlist.specs.Shape as flat
use Rattle.flexlist.specs.Nodes.{leaves}
use Rattle.summary.specs.Summing.{Summing}
use Rattle.nodes.specs.declared.node.Node.{Node}
use Rattle.nodes.specs.declared.node.Shape.{Shape}
use Rattle.nodes.specs.declared.node.Shape.TheVariants.{Leaf, Fork}
use Rattle.flexlist.specs.Laid.{Laid, last, leaf, fork, plain, root, leader}
use Rattle.nodes.specs.Holding.{Content, own_blocks, node_of, Holds, WritesFreeOnly, Counted}
use Rattle.nodes.specs.Views.{seen, blocks_in, row_in}
use Rattle.nodes.specs.Walking.{Ready}

pub leaves_some : (t : Tree) → 0 < leaves t
unfolding leaves
leaves_some (flat.Tree.last a) = omega arith
leaves_some (flat.Tree.leaf a t) = omega arith
leaves_some (flat.Tree.fork m s t) = omega (arith, leaves_some s)

module _ {R : Type 0} (c : ℕ → Content R) where
  -- what is to be seen at the root of a tree
  abbrev pub view_of : Laid → Option Shape
  view_of (last e a) = Some (Leaf (c a).number (length (c a).row) None)
  view_of (leaf e a t) = Some (Leaf (c a).number (length (c a).row) (Some (root t)))
  view_of (fork e m x y) = Some (Fork m (root x) (root y))

  pub from_nothing : (t : Laid) → None ≡ view_of t → ⊥
  from_nothing (last e a) v = let z : ◌≡◌ {A = ℕ} 0 1 = cc in omega arith
  from_nothing (leaf e a t) v = let z : ◌≡◌ {A = ℕ} 0 1 = cc in omega arith
  from_nothing (fork e m x y) v = let z : ◌≡◌ {A = ℕ} 0 1 = cc in omega arith

  pub from_last : (P : Laid → Type 0) (t : Laid) {b l : ℕ} → Some (Leaf b l None) ≡ view_of t
      → ((e a : ℕ) → b ≡ (c a).number → l ≡ length (c a).row → P (last e a)) → P t
  from_last P (last e a) v f = f e a (cc) (cc)
  from_last P (leaf e a t) v f = let z : ◌≡◌ {A = ℕ} 0 1 = cc in absurd (omega arith)
  from_last P (fork e m x y) v f = let z : ◌≡◌ {A = ℕ} 0 1 = cc in absurd (omega arith)

  pub from_followed : (P : Laid → Type 0) (t : Laid) {b l k : ℕ} → Some (Leaf b l (Some k)) ≡ view_of t
      → ((e a : ℕ) (y : Laid) → b ≡ (c a).number → l ≡ length (c a).row → root y ≡ k → P (leaf e a y)) → P t
  from_followed P (last e a) v f = let z : ◌≡◌ {A = ℕ} 0 1 = cc in absurd (omega arith)
  from_followed P (leaf e a t) v f = f e a t (cc) (cc) (cc)
  from_followed P (fork e m x y) v f = let z : ◌≡◌ {A = ℕ} 0 1 = cc in absurd (omega arith)

  pub from_forked : (P : Laid → Type 0) (t : Laid) {m j k : ℕ} → Some (Fork m j k) ≡ view_of t
      → ((e : ℕ) (x y : Laid) → root x ≡ j → root y ≡ k → P (fork e m x y)) → P t
  from_forked P (last e a) v f = let z : ◌≡◌ {A = ℕ} 0 1 = cc in absurd (omega arith)
  from_forked P (leaf e a t) v f = let z : ◌≡◌ {A = ℕ} 0 1 = cc in absurd (omega arith)
  from_forked P (fork e m x y) {m = n} v f = let same : n ≡ m = cc in subst (λ k. P (fork e k x y)) same (f e x y (cc) (cc))

  -- the parts of a counted tree
  pub counted_leaf : {e a : ℕ} {t : Laid} → Counted c (leaf e a t) → Counted c t
  unfolding leaves
  counted_leaf {t = t} h = let few = h.few in record { solid = h.solid.1; few = omega arith }

  pub counted_below : {e m : ℕ} {x y : Laid} → Counted c (fork e m x y) → Counted c x
  unfolding leaves
  counted_below h = let few = h.few in record { solid = h.solid.0; few = omega arith }

  pub counted_after : {e m : ℕ} {x y : Laid} → Counted c (fork e m x y) → Counted c y
  unfolding leaves
  counted_after h = let few = h.few in record { solid = h.solid.2; few = omega arith }

module _ {R Q : Type 0} (s : Summing R Q) (c : ℕ → Content R) where
  pub held_root : (table : List (Node Q)) (t : Laid) → Holds s c table t → slice_get table (root t) ≡ Some (node_of s c t)
  held_root table (last e a) h = h
  held_root table (leaf e a t) h = h.0
  held_root table (fork e m x y) h = h.0

  -- a tree stays where only entries from `used` on are written, and stands below them
  pub held_on : {before after : List (Node Q)} {used next : ℕ} (t : Laid) → WritesFreeOnly before used after next → root t < used → Holds s c before t → Holds s c after t
  held_on (last e a) g u h = g.kept e u ∙ h
  held_on (leaf e a t) g u h = (g.kept e u ∙ h.0, h.1, held_on t g (omega arith) h.2)
  held_on (fork e m x y) g u h = (g.kept e u ∙ h.0, h.1, h.2, held_on x g (omega arith) h.3, held_on y g (omega arith) h.4)

  seen_root : (table : List (Node Q)) (t : Laid) → Holds s c table t → seen (root t) (slice_get table (root t)) ≡ view_of c t
  unfolding node_of
  seen_root table (last e a) h = ap (seen e) h
  seen_root table (leaf e a t) h = ap (seen e) h.0 ∙ cond-true _ _ _ (lt-ltb (root t) e h.1)
  seen_root table (fork e m x y) h = ap (seen e) h.0 ∙ cond-true _ _ _ (and_from (ltb (root x) e) (ltb (root y) e) (lt-ltb (root x) e h.1) (lt-ltb (root y) e h.2))

  pub seen_held : (table : List (Node Q)) (at : ℕ) (t : Laid) → Holds s c table t → root t ≡ at → seen at (slice_get table at) ≡ view_of c t
  seen_held table at t h e = ap (λ k. seen k (slice_get table k)) (sym e) ∙ seen_root table t h

  -- what the root counts: a block for each leaf, the lead none
  pub blocks_of : (t : Laid) → Counted c t → (node_of s c t).blocks + 1 ≡ leaves (plain t) + own_blocks (length (c (leader t)).row)
  unfolding node_of leaves
  blocks_of (last e a) h = omega arith
  blocks_of (leaf e a t) h = let few = h.few in let solid = h.solid.0 in let more = blocks_of t (counted_leaf c h) in omega arith
  blocks_of (fork e m x y) h =
      let few = h.few in
      let solid = h.solid.1 in
      let below = blocks_of x (counted_below c h) in
      let after = blocks_of y (counted_after c h) in
      let some = leaves_some (plain x) in
      omega arith

  pub blocks_held : (table : List (Node Q)) (at : ℕ) (t : Laid) → Holds s c table t → root t ≡ at → Counted c t → blocks_in (slice_get table at) + 1 ≡ leaves (plain t) + own_blocks (length (c (leader t)).row)
  blocks_held table at t h e k =
      let here : blocks_in (slice_get table at) ≡ (node_of s c t).blocks = ap (λ i. blocks_in (slice_get table i)) (sym e) ∙ ap blocks_in (held_root table t h) in
      ap (λ n. n + 1) here ∙ blocks_of t k

  -- the summary of its own row that the root keeps
  pub row_held : (table : List (Node Q)) (at : ℕ) (t : Laid) → Holds s c table t → root t ≡ at → row_in s (slice_get table at) ≡ (node_of s c t).row
  row_held table at t h e = ap (λ i. row_in s (slice_get table i)) (sym e) ∙ ap (row_in s) (held_root table t h)

module _ {R Q : Type 0} (s : Summing R Q) (c : ℕ → Content R) where
  pub ready_leaf : {table : List (Node Q)} {used at e a : ℕ} {t : Laid} (k : ℕ) → root t ≡ k → Ready s c table used at (leaf e a t) → Ready s c table used k t
  ready_leaf k i h = let u = h.under in let b = h.holds.1 in record { holds = h.holds.2; here = i; under = omega arith; counted = counted_leaf c h.counted }

  pub ready_below : {table : List (Node Q)} {used at e m : ℕ} {x y : Laid} (k : ℕ) → root x ≡ k → Ready s c table used at (fork e m x y) → Ready s c table used k x
  ready_below k i h = let u = h.under in let b = h.holds.1 in record { holds = h.holds.3; here = i; under = omega arith; counted = counted_below c h.counted }

  pub ready_after : {table : List (Node Q)} {used at e m : ℕ} {x y : Laid} (k : ℕ) → root y ≡ k → Ready s c table used at (fork e m x y) → Ready s c table used k y
  ready_after k i h = let u = h.under in let b = h.holds.2 in record { holds = h.holds.4; here = i; under = omega arith; counted = counted_after c h.counted }

  -- a tree that is ready stays so where the table grows
  pub ready_on : {before after : List (Node Q)} {used next at : ℕ} (t : Laid) → WritesFreeOnly before used after next → Ready s c before used at t → Ready s c after next at t
  ready_on t g h = let u = h.under in let m = g.more in record { holds = held_on s c t g h.under h.holds; here = h.here; under = omega arith; counted = h.counted }
