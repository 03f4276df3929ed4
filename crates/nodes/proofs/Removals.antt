-- A block taken out, arm by arm of the walk. Assumes nothing.
use Rattle.std.proofs.Common.{◌≡◌, ℕ, ◌+◌, ◌-◌, ◌<◌, ◌≤◌, min, List, length, Some, sym, ◌∙◌, subst, arith, None}
use Rattle.std.specs.List.{slice_get}
use Rattle.std.proofs.lemmas.Bool.{lt-ltb, le-ltb, cond-true, cond-false}
use Rattle.flexlist.specs.Building.{keep, new_leaf, new_fork}
use Rattle.flexlist.specs.Nodes.{leaves}
use Rattle.summary.specs.Summing.{Summing}
use Rattle.nodes.specs.declared.node.Node.{Node}
use Rattle.nodes.specs.declared.node.Block.{Block}
use Rattle.nodes.specs.declared.node.Shape.TheVariants.{Leaf, Fork}
use Rattle.flexlist.specs.Laid.{Laid, last, leaf, fork, plain}
use Rattle.nodes.specs.Holding.{WritesFreeOnly}
use Rattle.nodes.specs.Views.{seen, blocks_in, kept_in}
use Rattle.nodes.specs.Making.{LeafWritten, ForkWritten}
use Rattle.nodes.specs.Walking.{CountedTo}
use Rattle.nodes.specs.Removing.{led_by, joined, remove_at, Led, Merged, Removed}
use Rattle.nodes.proofs.Held.{ready_on}
use Rattle.nodes.proofs.Counts.{at_followed, to_next}
use Rattle.nodes.proofs.Laying.{Laying, room_leaf, room_below, room_beside, as_kept, lay_kept, lay_leaf, lay_fork}
use Rattle.nodes.proofs.Tables.{grown_none}
use Rattle.nodes.proofs.Arms.{walk_nothing, walk_last, walk_below, walk_after}

pub remove_here_is : (e a : ℕ) (y : Laid) (p : ℕ) → p ≤ 1 → remove_at (leaf e a y) p ≡ led_by a y
unfolding remove_at
remove_here_is e a y p h = cond-false _ _ _ (le-ltb 1 p h)

pub remove_on_is : (e a : ℕ) (y : Laid) (p : ℕ) → 1 < p → remove_at (leaf e a y) p ≡ new_leaf a (remove_at y (p - 1))
unfolding remove_at
remove_on_is e a y p h = cond-true _ _ _ (lt-ltb 1 p h)

pub remove_below_is : (e m : ℕ) (x y : Laid) (p : ℕ) → p < leaves (plain x) → remove_at (fork e m x y) p ≡ new_fork m (remove_at x p) (keep y)
unfolding remove_at
remove_below_is e m x y p h = cond-true _ _ _ (lt-ltb p (leaves (plain x)) h)

pub remove_between_is : (e m : ℕ) (x y : Laid) (p : ℕ) → p ≡ leaves (plain x) → remove_at (fork e m x y) p ≡ joined x y
unfolding remove_at
remove_between_is e m x y p h = cond-false _ _ _ (le-ltb p (leaves (plain x)) (omega arith)) ∙ cond-false _ _ _ (le-ltb (leaves (plain x)) p (omega arith))

pub remove_after_is : (e m : ℕ) (x y : Laid) (p : ℕ) → leaves (plain x) < p → remove_at (fork e m x y) p ≡ new_fork m (keep x) (remove_at y (p - leaves (plain x)))
unfolding remove_at
remove_after_is e m x y p h = cond-false _ _ _ (le-ltb p (leaves (plain x)) (omega arith)) ∙ cond-true _ _ _ (lt-ltb (leaves (plain x)) p h)

module _ {R Q : Type 0} (s : Summing R Q) (before : List (Node Q)) {used at : ℕ} (upto : ℕ) where
  pub remove_nothing : {after : List (Node Q)} {r next : ℕ} → None ≡ seen at (slice_get before at) → Removed s before used at upto after r next
  remove_nothing see c = walk_nothing s c remove_at upto see

  pub remove_last : {b l : ℕ} → Some (Leaf b l None) ≡ seen at (slice_get before at) → Removed s before used at upto before at used
  unfolding remove_at
  remove_last see c = walk_last s c remove_at upto see (λ e a p _ h _ room. lay_kept s c (last e a) h)

  pub remove_here : {after : List (Node Q)} {b l k own r next : ℕ} {kept : Block Q} → Some (Leaf b l (Some k)) ≡ seen at (slice_get before at) → kept ≡ kept_in s b l (slice_get before at) → own ≡ min l 1 → upto ≤ own + 1
      → Led s before used k kept after r next → Removed s before used at upto after r next
  remove_here {after} {r = r} {next = next} see z o u led c t place h i =
      at_followed s c (λ t. CountedTo c t place upto → Laying s c before used after r next (remove_at t place)) t see h
      (λ e a y old ready _ i.
      let up = i.1 in
      let size = old.size in
      subst (Laying s c before used after r next) (sym (remove_here_is e a y place (omega arith))) (led c a (as_kept s c z old) y ready))
      i

  pub remove_on : {mid after : List (Node Q)} {b l k own r v next : ℕ} {kept : Block Q} → Some (Leaf b l (Some k)) ≡ seen at (slice_get before at) → kept ≡ kept_in s b l (slice_get before at) → own ≡ min l 1 → own + 1 < upto
      → Removed s before used k (upto - own) mid r v → length mid ≡ length before
      → LeafWritten s mid v kept (Some r) after next → Removed s before used at upto after v next
  remove_on {after = after} {own = own} {v = v} {next = next} see z o u rest size w c t place h i =
      at_followed s c (λ t. CountedTo c t place upto → Laying s c before used after v next (remove_at t place)) t see h
      (λ e a y old ready h i.
      let up = i.1 in
      let len = old.size in
      let further : own < upto = omega arith in
      let on = to_next s c old.size o further h i in
      subst (Laying s c before used after v next) (sym (remove_on_is e a y place (omega arith)))
      (λ room. lay_leaf s c before a (remove_at y (place - 1)) (rest c y (place - 1) ready on.1 (room_leaf s c _ room)) w (as_kept s c z old) size room))
      i

  pub remove_below : {mid after : List (Node Q)} {m i j blocks r v next : ℕ} → Some (Fork m i j) ≡ seen at (slice_get before at) → blocks ≡ blocks_in (slice_get before i) → upto ≤ blocks
      → WritesFreeOnly before used mid v → Removed s before used i upto mid r v → length mid ≡ length before
      → ForkWritten s mid v m r j after next → Removed s before used at upto after v next
  remove_below {mid} {after} {m} {v = v} {next = next} see b u free_only part size w c =
      walk_below s c remove_at upto see b u
      (λ e x y p low below behind _ _ i.
      subst (Laying s c before used after v next) (sym (remove_below_is e m x y p low))
      (λ room. lay_fork s c before m (remove_at x p) (keep y) (part c x p below i (room_below s c _ _ room)) (grown_none mid v) (lay_kept s c y (ready_on s c y free_only behind)) w size room))

  pub remove_between : {after : List (Node Q)} {m i j blocks r next : ℕ} → Some (Fork m i j) ≡ seen at (slice_get before at) → blocks ≡ blocks_in (slice_get before i) → blocks < upto → upto - blocks ≡ 1
      → Merged s before used i j after r next → Removed s before used at upto after r next
  remove_between {after} {m} {r = r} {next = next} see b u one merged c =
      walk_after s c remove_at upto see b u
      (λ e x y p high below behind h _ i.
      let up = i.1 in
      let solid = h.counted.solid.1 in
      subst (Laying s c before used after r next) (sym (remove_between_is e m x y p (omega arith))) (merged c x y below behind))

  pub remove_after : {mid after : List (Node Q)} {m i j blocks r v next : ℕ} → Some (Fork m i j) ≡ seen at (slice_get before at) → blocks ≡ blocks_in (slice_get before i) → blocks < upto → (upto - blocks ≡ 1 → ⊥)
      → WritesFreeOnly before used mid v → Removed s before used j (upto - blocks) mid r v → length mid ≡ length before
      → ForkWritten s mid v m i r after next → Removed s before used at upto after v next
  remove_after {mid} {after} {m} {v = v} {next = next} see b u more free_only part size w c =
      walk_after s c remove_at upto see b u
      (λ e x y p high below behind h _ i.
      let up = i.1 in
      let solid = h.counted.solid.1 in
      subst (Laying s c before used after v next) (sym (remove_after_is e m x y p (omega arith)))
      (λ room. lay_fork s c before m (keep x) (remove_at y (p - leaves (plain x))) (lay_kept s c x below) free_only (part c y _ behind i (room_beside s c x _ room)) w size room))
