-- What is seen at the root of a held tree tells its case and its parts. Assumes nothing.
use Rattle.std.proofs.Common.{◌≡◌, ℕ, List, length, Some, None, Option, sym, ap, ◌∙◌}
use Rattle.std.specs.List.{slice_get}
use Rattle.summary.specs.Summing.{Summing}
use Rattle.nodes.specs.declared.node.Node.{Node}
use Rattle.nodes.specs.declared.node.Shape.{Shape}
use Rattle.nodes.specs.declared.node.Shape.TheVariants.{Leaf, Fork}
use Rattle.flexlist.specs.Laid.{Laid, last, leaf, fork}
use Rattle.nodes.specs.Holding.{Content, node_of}
use Rattle.nodes.specs.Views.{seen, row_in, kept_in}
use Rattle.nodes.specs.Making.{LeafOf}
use Rattle.nodes.proofs.Held.{view_of, from_nothing, from_last, from_followed, from_forked, held_root, seen_held}
use Rattle.questions.specs.Readings.{Stands}

module _ {R Q : Type 0} (s : Summing R Q) (c : ℕ → Content R) (table : List (Node Q)) where
  -- the node at the root
  pub stands_node : (at : ℕ) (t : Laid) → Stands s c table at t → slice_get table at ≡ Some (node_of s c t)
  stands_node at t h = ap (slice_get table) (sym h.here) ∙ held_root s c table t h.holds

  -- the block that a followed leaf keeps
  pub block_kept : (at b l e a : ℕ) (t : Laid) → Stands s c table at (leaf e a t) → b ≡ (c a).number → l ≡ length (c a).row → LeafOf s (c a) (kept_in s b l (slice_get table at))
  unfolding node_of
  block_kept at b l e a t h p q = record { number = p; size = q; sum = ap (row_in s) (stands_node at (leaf e a t) h) }

  -- what is said of every tree that stands there, by what is seen
  stands_seen : (at : ℕ) {v : Option Shape} (t : Laid) → v ≡ seen at (slice_get table at) → Stands s c table at t → v ≡ view_of c t
  stands_seen at t v h = v ∙ seen_held s c table at t h.holds h.here

  pub at_nothing : (P : Laid → Type 0) (at : ℕ) → None ≡ seen at (slice_get table at) → (t : Laid) → Stands s c table at t → P t
  at_nothing P at v t h = absurd (from_nothing c t (stands_seen at t v h))

  pub at_last : (P : Laid → Type 0) (at b l : ℕ) → Some (Leaf b l None) ≡ seen at (slice_get table at)
      → ((e a : ℕ) → b ≡ (c a).number → l ≡ length (c a).row → P (last e a)) → (t : Laid) → Stands s c table at t → P t
  at_last P at b l v f t h = from_last c P t (stands_seen at t v h) f

  pub at_leaf : (P : Laid → Type 0) (at b l n : ℕ) → Some (Leaf b l (Some n)) ≡ seen at (slice_get table at)
      → ((e a : ℕ) (t : Laid) → b ≡ (c a).number → l ≡ length (c a).row → Stands s c table n t → P (leaf e a t)) → (t : Laid) → Stands s c table at t → P t
  at_leaf P at b l n v f t h = from_followed c (λ t. Stands s c table at t → P t) t (stands_seen at t v h) (λ e a y p q r h. f e a y p q (record { holds = h.holds.2; here = r })) h

  pub at_fork : (P : Laid → Type 0) (at m b n : ℕ) → Some (Fork m b n) ≡ seen at (slice_get table at)
      → ((e : ℕ) (x y : Laid) → Stands s c table b x → Stands s c table n y → P (fork e m x y)) → (t : Laid) → Stands s c table at t → P t
  at_fork P at m b n v f t h =
      from_forked c (λ t. Stands s c table at t → P t) t (stands_seen at t v h) (λ e x y p q h. f e x y (record { holds = h.holds.3; here = p }) (record { holds = h.holds.4; here = q })) h
