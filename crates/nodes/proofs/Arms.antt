-- A walk to a place, arm by arm: which tree stands there, and what is left to lay. Assumes nothing.
use Rattle.std.proofs.Common.{◌≡◌, ℕ, suc, ◌-◌, ◌<◌, ◌≤◌, min, List, sym, subst, Some, None}
use Rattle.std.specs.List.{slice_get}
use Rattle.flexlist.specs.Building.{Plan}
use Rattle.flexlist.specs.Nodes.{leaves}
use Rattle.summary.specs.Summing.{Summing}
use Rattle.nodes.specs.declared.node.Node.{Node}
use Rattle.nodes.specs.declared.node.Shape.TheVariants.{Leaf, Fork}
use Rattle.flexlist.specs.Laid.{Laid, last, leaf, fork, plain}
use Rattle.nodes.specs.Holding.{Content}
use Rattle.nodes.specs.Views.{seen, blocks_in, kept_in}
use Rattle.nodes.specs.Making.{LeafOf}
use Rattle.nodes.specs.Walking.{Ready, CountedTo, Walked}
use Rattle.nodes.proofs.Counts.{at_nothing, at_last, at_followed, at_forked, to_stop, to_next, to_below, to_after}
use Rattle.nodes.proofs.Laying.{Laying}

module _ {R Q : Type 0} (s : Summing R Q) (c : ℕ → Content R) (edit : Laid → ℕ → Plan Laid) {before after : List (Node Q)} {used at r next : ℕ} (upto : ℕ) where
  pub walk_nothing : None ≡ seen at (slice_get before at) → Walked s c edit before used at upto after r next
  walk_nothing see t place h i room = absurd (at_nothing s c t see h)

  pub walk_last : {b l : ℕ} → Some (Leaf b l None) ≡ seen at (slice_get before at)
      → ((e a p : ℕ) → LeafOf s (c a) (kept_in s b l (slice_get before at)) → Ready s c before used at (last e a) → CountedTo c (last e a) p upto → Laying s c before used after r next (edit (last e a) p))
      → Walked s c edit before used at upto after r next
  walk_last see f t place h i = at_last s c (λ t. CountedTo c t place upto → Laying s c before used after r next (edit t place)) t see h (λ e a. f e a place) i

  pub walk_stop : {b l k own : ℕ} → Some (Leaf b l (Some k)) ≡ seen at (slice_get before at) → own ≡ min l 1 → upto ≤ own
      → ((e a : ℕ) (y : Laid) → LeafOf s (c a) (kept_in s b l (slice_get before at)) → Ready s c before used k y → Ready s c before used at (leaf e a y) → Laying s c before used after r next (edit (leaf e a y) 0))
      → Walked s c edit before used at upto after r next
  walk_stop see o u f t place h i =
      at_followed s c (λ t. CountedTo c t place upto → Laying s c before used after r next (edit t place)) t see h
      (λ e a y b ready h i. subst (λ p. Laying s c before used after r next (edit (leaf e a y) p)) (sym (to_stop s c b.size o u h i)) (f e a y b ready h))
      i

  pub walk_on : {b l k own : ℕ} → Some (Leaf b l (Some k)) ≡ seen at (slice_get before at) → own ≡ min l 1 → own < upto
      → ((e a : ℕ) (y : Laid) (p : ℕ) → LeafOf s (c a) (kept_in s b l (slice_get before at)) → Ready s c before used k y → Ready s c before used at (leaf e a y) → CountedTo c (leaf e a y) (suc p) upto → CountedTo c y p (upto - own) → Laying s c before used after r next (edit (leaf e a y) (suc p)))
      → Walked s c edit before used at upto after r next
  walk_on see o u f t place h i =
      at_followed s c (λ t. CountedTo c t place upto → Laying s c before used after r next (edit t place)) t see h
      (λ e a y b ready h i.
      let on = to_next s c b.size o u h i in
      subst (λ p. Laying s c before used after r next (edit (leaf e a y) p)) (sym on.0) (f e a y (place - 1) b ready h (subst (λ p. CountedTo c (leaf e a y) p upto) on.0 i) on.1))
      i

  pub walk_below : {m j k blocks : ℕ} → Some (Fork m j k) ≡ seen at (slice_get before at) → blocks ≡ blocks_in (slice_get before j) → upto ≤ blocks
      → ((e : ℕ) (x y : Laid) (p : ℕ) → p < leaves (plain x) → Ready s c before used j x → Ready s c before used k y → Ready s c before used at (fork e m x y) → CountedTo c (fork e m x y) p upto → CountedTo c x p upto → Laying s c before used after r next (edit (fork e m x y) p))
      → Walked s c edit before used at upto after r next
  walk_below see b u f t place h i =
      at_forked s c (λ t. CountedTo c t place upto → Laying s c before used after r next (edit t place)) t see h
      (λ e x y below after' h i. let on = to_below s c b u below h i in f e x y place on.0 below after' h i on.1)
      i

  pub walk_after : {m j k blocks : ℕ} → Some (Fork m j k) ≡ seen at (slice_get before at) → blocks ≡ blocks_in (slice_get before j) → blocks < upto
      → ((e : ℕ) (x y : Laid) (p : ℕ) → leaves (plain x) ≤ p → Ready s c before used j x → Ready s c before used k y → Ready s c before used at (fork e m x y) → CountedTo c (fork e m x y) p upto → CountedTo c y (p - leaves (plain x)) (upto - blocks) → Laying s c before used after r next (edit (fork e m x y) p))
      → Walked s c edit before used at upto after r next
  walk_after see b u f t place h i =
      at_forked s c (λ t. CountedTo c t place upto → Laying s c before used after r next (edit t place)) t see h
      (λ e x y below after' h i. let on = to_after s c b u below h i in f e x y place on.0 below after' h i on.1)
      i
