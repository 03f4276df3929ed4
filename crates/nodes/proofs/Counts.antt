-- Which way a walk goes by its count of blocks, and what it counts on from there. Assumes nothing.
use Rattle.std.proofs.Common.{◌≡◌, ℕ, suc, ◌+◌, ◌-◌, ◌<◌, ◌≤◌, min, List, length, ◌∙◌, arith, Some, None}
use Rattle.std.specs.List.{slice_get}
use Rattle.flexlist.specs.Nodes.{leaves}
use Rattle.summary.specs.Summing.{Summing}
use Rattle.nodes.specs.declared.node.Node.{Node}
use Rattle.nodes.specs.declared.node.Shape.TheVariants.{Leaf, Fork}
use Rattle.flexlist.specs.Laid.{Laid, last, leaf, fork, plain, leader}
use Rattle.nodes.specs.Holding.{Content, node_of, own_blocks}
use Rattle.nodes.specs.Views.{seen, blocks_in, kept_in}
use Rattle.nodes.specs.Making.{LeafOf}
use Rattle.nodes.specs.Walking.{Ready, CountedTo}
use Rattle.nodes.proofs.Held.{from_nothing, from_last, from_followed, from_forked, seen_held, blocks_held, row_held, ready_leaf, ready_below, ready_after, leaves_some}

module _ {R Q : Type 0} (s : Summing R Q) (c : ℕ → Content R) {table : List (Node Q)} {used at : ℕ} where
  -- a tree that is ready, by what is seen at its root
  pub at_nothing : (t : Laid) → None ≡ seen at (slice_get table at) → Ready s c table used at t → ⊥
  at_nothing t v h = from_nothing c t (v ∙ seen_held s c table at t h.holds h.here)

  pub at_last : (P : Laid → Type 0) (t : Laid) {b l : ℕ} → Some (Leaf b l None) ≡ seen at (slice_get table at) → Ready s c table used at t
      → ((e a : ℕ) → LeafOf s (c a) (kept_in s b l (slice_get table at)) → Ready s c table used at (last e a) → P (last e a)) → P t
  unfolding node_of
  at_last P t v h f = from_last c (λ t. Ready s c table used at t → P t) t (v ∙ seen_held s c table at t h.holds h.here)
      (λ e a p q h. f e a (record { number = p; size = q; sum = row_held s c table at (last e a) h.holds h.here }) h) h

  pub at_followed : (P : Laid → Type 0) (t : Laid) {b l k : ℕ} → Some (Leaf b l (Some k)) ≡ seen at (slice_get table at) → Ready s c table used at t
      → ((e a : ℕ) (y : Laid) → LeafOf s (c a) (kept_in s b l (slice_get table at)) → Ready s c table used k y → Ready s c table used at (leaf e a y) → P (leaf e a y)) → P t
  unfolding node_of
  at_followed P t {k = k} v h f =
      from_followed c (λ t. Ready s c table used at t → P t) t (v ∙ seen_held s c table at t h.holds h.here)
      (λ e a y p q g h. f e a y (record { number = p; size = q; sum = row_held s c table at (leaf e a y) h.holds h.here }) (ready_leaf s c k g h) h) h

  pub at_forked : (P : Laid → Type 0) (t : Laid) {m j k : ℕ} → Some (Fork m j k) ≡ seen at (slice_get table at) → Ready s c table used at t
      → ((e : ℕ) (x y : Laid) → Ready s c table used j x → Ready s c table used k y → Ready s c table used at (fork e m x y) → P (fork e m x y)) → P t
  at_forked P t {j = j} {k = k} v h f =
      from_forked c (λ t. Ready s c table used at t → P t) t (v ∙ seen_held s c table at t h.holds h.here)
      (λ e x y p q h. f e x y (ready_below s c j p h) (ready_after s c k q h) h) h

  -- stop at a leaf, or go on
  pub to_stop : {e a l own place upto : ℕ} {y : Laid} → l ≡ length (c a).row → own ≡ min l 1 → upto ≤ own → Ready s c table used at (leaf e a y) → CountedTo c (leaf e a y) place upto → place ≡ 0
  to_stop q o u h i = let up = i.1 in omega arith

  pub to_next : {e a l own place upto : ℕ} {y : Laid} → l ≡ length (c a).row → own ≡ min l 1 → own < upto → Ready s c table used at (leaf e a y) → CountedTo c (leaf e a y) place upto
      → (place ≡ suc (place - 1)) × CountedTo c y (place - 1) (upto - own)
  unfolding leaves
  to_next q o u h i =
      let up = i.1 in
      let low = i.0 in
      let solid = h.counted.solid.0 in
      (omega arith, (omega arith, omega arith))

  -- how many blocks the root counts, against the leaves
  pub count_of : (place upto : ℕ) {blocks : ℕ} (t : Laid) → blocks ≡ blocks_in (slice_get table at) → Ready s c table used at t → CountedTo c t place upto
      → (place < leaves (plain t)) × (blocks + 1 ≡ leaves (plain t) + own_blocks (length (c (leader t)).row)) × (place ≡ upto - own_blocks (length (c (leader t)).row))
  count_of place upto t b h i = let count = blocks_held s c table at t h.holds h.here h.counted in (i.0, omega arith, i.1)

  -- below a fork, or after it
  pub to_below : {e m j blocks place upto : ℕ} {x y : Laid} → blocks ≡ blocks_in (slice_get table j) → upto ≤ blocks → Ready s c table used j x → Ready s c table used at (fork e m x y) → CountedTo c (fork e m x y) place upto
      → (place < leaves (plain x)) × CountedTo c x place upto
  to_below {j = j} {x = x} b u h g i =
      let count = blocks_held s c table j x h.holds h.here h.counted in
      let some = leaves_some (plain x) in
      let up = i.1 in
      (omega arith, (omega arith, omega arith))

  pub to_after : {e m j blocks place upto : ℕ} {x y : Laid} → blocks ≡ blocks_in (slice_get table j) → blocks < upto → Ready s c table used j x → Ready s c table used at (fork e m x y) → CountedTo c (fork e m x y) place upto
      → (leaves (plain x) ≤ place) × CountedTo c y (place - leaves (plain x)) (upto - blocks)
  unfolding leaves
  to_after {j = j} {x = x} b u h g i =
      let count = blocks_held s c table j x h.holds h.here h.counted in
      let some = leaves_some (plain x) in
      let low = i.0 in
      let up = i.1 in
      let solid = g.counted.solid.1 in
      (omega arith, (omega arith, omega arith))
