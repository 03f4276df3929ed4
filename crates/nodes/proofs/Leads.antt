-- A tree under another leader, arm by arm of the walk. Assumes nothing.
use Rattle.std.proofs.Common.{◌≡◌, ℕ, List, length, Some, None, Option, refl}
use Rattle.std.specs.List.{slice_get}
use Rattle.flexlist.specs.Building.{keep}
use Rattle.summary.specs.Summing.{Summing}
use Rattle.nodes.specs.declared.node.Node.{Node}
use Rattle.nodes.specs.declared.node.Block.{Block}
use Rattle.nodes.specs.declared.node.Shape.TheVariants.{Leaf, Fork}
use Rattle.nodes.specs.Holding.{WritesFreeOnly}
use Rattle.nodes.specs.Views.{seen}
use Rattle.nodes.specs.Making.{LeafWritten, ForkWritten}
use Rattle.nodes.specs.Removing.{led_by, Led}
use Rattle.nodes.proofs.Held.{ready_on}
use Rattle.nodes.proofs.Counts.{at_nothing, at_last, at_followed, at_forked}
use Rattle.nodes.proofs.Laying.{Laying, room_below, lay_kept, lay_last, lay_leaf, lay_fork}
use Rattle.nodes.proofs.Tables.{grown_none}

module _ {R Q : Type 0} (s : Summing R Q) (before : List (Node Q)) {used at : ℕ} {block : Block Q} where
  pub lead_nothing : {after : List (Node Q)} {r next : ℕ} → None ≡ seen at (slice_get before at) → Led s before used at block after r next
  lead_nothing see c n k t h room = absurd (at_nothing s c t see h)

  pub lead_leaf : {after : List (Node Q)} {b l next : ℕ} (j : Option ℕ) → Some (Leaf b l j) ≡ seen at (slice_get before at)
      → LeafWritten s before used block j after next → Led s before used at block after used next
  unfolding led_by
  lead_leaf {after} {next = next} None see w c n k t h = at_last s c (λ t. Laying s c before used after used next (led_by n t)) t see h (λ _ _ _ _ room. lay_last s c n w k room)
  lead_leaf {after} {next = next} (Some j) see w c n k t h =
      at_followed s c (λ t. Laying s c before used after used next (led_by n t)) t see h (λ _ _ y _ ready _ room. lay_leaf s c before n (keep y) (lay_kept s c y ready) w k refl room)

  pub lead_fork : {mid after : List (Node Q)} {m i j r v next : ℕ} → Some (Fork m i j) ≡ seen at (slice_get before at)
      → WritesFreeOnly before used mid v → Led s before used i block mid r v → length mid ≡ length before
      → ForkWritten s mid v m r j after next → Led s before used at block after v next
  unfolding led_by
  lead_fork {mid} {after} {m} {v = v} {next = next} see free_only part size w c n k t h =
      at_forked s c (λ t. Laying s c before used after v next (led_by n t)) t see h
      (λ _ x y below behind _ room.
      lay_fork s c before m (led_by n x) (keep y) (part c n k x below (room_below s c _ _ room)) (grown_none mid v) (lay_kept s c y (ready_on s c y free_only behind)) w size room)
