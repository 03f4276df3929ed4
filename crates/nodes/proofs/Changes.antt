-- A block changed, arm by arm of the walk. Assumes nothing.
use Rattle.std.proofs.Common.{◌≡◌, ℕ, ◌-◌, ◌<◌, ◌≤◌, min, List, length, Some, None, sym, refl, subst}
use Rattle.std.specs.List.{slice_get}
use Rattle.std.proofs.lemmas.Bool.{lt-ltb, le-ltb, cond-true, cond-false}
use Rattle.flexlist.specs.Building.{keep, new_fork}
use Rattle.flexlist.specs.Nodes.{leaves}
use Rattle.summary.specs.Summing.{Summing}
use Rattle.nodes.specs.declared.node.Node.{Node}
use Rattle.nodes.specs.declared.node.Block.{Block}
use Rattle.nodes.specs.declared.node.Shape.TheVariants.{Leaf, Fork}
use Rattle.flexlist.specs.Laid.{Laid, fork, plain}
use Rattle.nodes.specs.Holding.{WritesFreeOnly}
use Rattle.nodes.specs.Views.{seen, blocks_in, kept_in}
use Rattle.nodes.specs.Making.{LeafWritten, ForkWritten}
use Rattle.nodes.specs.Changing.{change_at, Changed}
use Rattle.nodes.proofs.Held.{ready_on}
use Rattle.nodes.proofs.Laying.{Laying, room_leaf, room_below, room_beside, as_kept, lay_kept, lay_last, lay_leaf, lay_fork}
use Rattle.nodes.proofs.Tables.{grown_none}
use Rattle.nodes.proofs.Arms.{walk_nothing, walk_last, walk_stop, walk_on, walk_below, walk_after}

pub change_below_is : (n e m : ℕ) (x y : Laid) (p : ℕ) → p < leaves (plain x) → change_at n (fork e m x y) p ≡ new_fork m (change_at n x p) (keep y)
unfolding change_at
change_below_is n e m x y p h = cond-true _ _ _ (lt-ltb p (leaves (plain x)) h)

pub change_after_is : (n e m : ℕ) (x y : Laid) (p : ℕ) → leaves (plain x) ≤ p → change_at n (fork e m x y) p ≡ new_fork m (keep x) (change_at n y (p - leaves (plain x)))
unfolding change_at
change_after_is n e m x y p h = cond-false _ _ _ (le-ltb p (leaves (plain x)) h)

module _ {R Q : Type 0} (s : Summing R Q) (before : List (Node Q)) {used at : ℕ} (upto : ℕ) {block : Block Q} where
  pub change_nothing : {after : List (Node Q)} {r next : ℕ} → None ≡ seen at (slice_get before at) → Changed s before used at upto block after r next
  change_nothing see c n k = walk_nothing s c (change_at n) upto see

  pub change_last : {after : List (Node Q)} {b l next : ℕ} → Some (Leaf b l None) ≡ seen at (slice_get before at)
      → LeafWritten s before used block None after next → Changed s before used at upto block after used next
  unfolding change_at
  change_last see w c n k = walk_last s c (change_at n) upto see (λ e a p _ _ _ room. lay_last s c n w k room)

  pub change_stop : {after : List (Node Q)} {b l k own next : ℕ} → Some (Leaf b l (Some k)) ≡ seen at (slice_get before at) → own ≡ min l 1 → upto ≤ own
      → LeafWritten s before used block (Some k) after next → Changed s before used at upto block after used next
  unfolding change_at
  change_stop see o u w c n k = walk_stop s c (change_at n) upto see o u (λ e a y _ ready _. lay_leaf s c before n (keep y) (lay_kept s c y ready) w k refl)

  pub change_on : {mid after : List (Node Q)} {b l k own r v next : ℕ} {kept : Block Q} → Some (Leaf b l (Some k)) ≡ seen at (slice_get before at) → kept ≡ kept_in s b l (slice_get before at) → own ≡ min l 1 → own < upto
      → Changed s before used k (upto - own) block mid r v → length mid ≡ length before
      → LeafWritten s mid v kept (Some r) after next → Changed s before used at upto block after v next
  unfolding change_at
  change_on see z o u rest size w c n k =
      walk_on s c (change_at n) upto see o u
      (λ e a y p old ready _ _ i room. lay_leaf s c before a (change_at n y p) (rest c n k y p ready i (room_leaf s c _ room)) w (as_kept s c z old) size room)

  pub change_below : {mid after : List (Node Q)} {m j k blocks r v next : ℕ} → Some (Fork m j k) ≡ seen at (slice_get before at) → blocks ≡ blocks_in (slice_get before j) → upto ≤ blocks
      → WritesFreeOnly before used mid v → Changed s before used j upto block mid r v → length mid ≡ length before
      → ForkWritten s mid v m r k after next → Changed s before used at upto block after v next
  change_below {mid} {after} {m} {v = v} {next = next} see b u free_only part size w c n k =
      walk_below s c (change_at n) upto see b u
      (λ e x y p low below behind _ _ i.
      subst (Laying s c before used after v next) (sym (change_below_is n e m x y p low))
      (λ room. lay_fork s c before m (change_at n x p) (keep y) (part c n k x p below i (room_below s c _ _ room)) (grown_none mid v) (lay_kept s c y (ready_on s c y free_only behind)) w size room))

  pub change_after : {mid after : List (Node Q)} {m j k blocks r v next : ℕ} → Some (Fork m j k) ≡ seen at (slice_get before at) → blocks ≡ blocks_in (slice_get before j) → blocks < upto
      → WritesFreeOnly before used mid v → Changed s before used k (upto - blocks) block mid r v → length mid ≡ length before
      → ForkWritten s mid v m j r after next → Changed s before used at upto block after v next
  change_after {mid} {after} {m} {v = v} {next = next} see b u free_only part size w c n k =
      walk_after s c (change_at n) upto see b u
      (λ e x y p high below behind _ _ i.
      subst (Laying s c before used after v next) (sym (change_after_is n e m x y p high))
      (λ room. lay_fork s c before m (keep x) (change_at n y (p - leaves (plain x))) (lay_kept s c x below) free_only (part c n k y _ behind i (room_beside s c x _ room)) w size room))
