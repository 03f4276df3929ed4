-- The pieces of a tree that is cut after a place, arm by arm of the walks. Assumes nothing.
use Rattle.std.proofs.Common.{◌≡◌, ℕ, suc, ◌+◌, ◌-◌, ◌<◌, ◌≤◌, min, List, length, Some, None, sym, refl, ◌∙◌, subst, arith}
use Rattle.std.specs.List.{slice_get}
use Rattle.std.proofs.lemmas.Bool.{lt-ltb, le-ltb, le-leb, lt-leb, cond-true, cond-false}
use Rattle.flexlist.specs.Building.{keep, new_leaf, new_fork}
use Rattle.flexlist.specs.Nodes.{leaves}
use Rattle.summary.specs.Summing.{Summing}
use Rattle.nodes.specs.declared.node.Node.{Node}
use Rattle.nodes.specs.declared.node.Block.{Block}
use Rattle.nodes.specs.declared.node.Shape.TheVariants.{Leaf, Fork}
use Rattle.flexlist.specs.Laid.{Laid, last, leaf, fork, plain}
use Rattle.nodes.specs.Holding.{Content, WritesFreeOnly}
use Rattle.nodes.specs.Views.{seen, blocks_in, kept_in}
use Rattle.nodes.specs.Making.{LeafWritten, ForkWritten}
use Rattle.nodes.specs.Cutting.{left_at, right_at, cut_at, LeftMade, RightMade, CutMade}
use Rattle.nodes.proofs.Held.{ready_on, leaves_some}
use Rattle.nodes.proofs.Counts.{count_of}
use Rattle.nodes.proofs.Laying.{Laying, room_leaf, room_below, room_beside, room_after, as_kept, lay_kept, lay_last, lay_leaf, lay_fork}
use Rattle.nodes.proofs.Tables.{grown_none}
use Rattle.nodes.proofs.Arms.{walk_nothing, walk_last, walk_stop, walk_on, walk_below, walk_after}

pub left_on_is : (e a : ℕ) (y : Laid) (p : ℕ) → suc p < leaves (plain y) → left_at (leaf e a y) (suc p) ≡ new_leaf a (left_at y p)
unfolding left_at
left_on_is e a y p h = cond-false _ _ _ (lt-leb (leaves (plain y)) (suc p) h)

pub left_below_is : (e m : ℕ) (x y : Laid) (p : ℕ) → p < leaves (plain x) → left_at (fork e m x y) p ≡ left_at x p
unfolding left_at
left_below_is e m x y p h = cond-true _ _ _ (lt-ltb p (leaves (plain x)) h)

pub left_after_is : (e m : ℕ) (x y : Laid) (p : ℕ) → leaves (plain x) ≤ p → suc p < leaves (plain x) + leaves (plain y) → left_at (fork e m x y) p ≡ new_fork m (keep x) (left_at y (p - leaves (plain x)))
unfolding left_at
left_after_is e m x y p h i = cond-false _ _ _ (le-ltb p (leaves (plain x)) h) ∙ cond-false _ _ _ (lt-leb (leaves (plain y)) (suc (p - leaves (plain x))) (omega arith))

-- a tree that ends at the place is kept
pub left_end_is : {R : Type 0} (c : ℕ → Content R) (t : Laid) (p : ℕ) → leaves (plain t) ≡ suc p → left_at t p ≡ keep t
unfolding left_at leaves
left_end_is c (last e a) p h = refl
left_end_is c (leaf e a t) ℕ.zero h = let some = leaves_some (plain t) in absurd (omega arith)
left_end_is c (leaf e a t) (suc p) h = cond-true _ _ _ (le-leb (leaves (plain t)) (suc p) (omega arith))
left_end_is c (fork e m x y) p h =
    let some = leaves_some (plain y) in
    let past : leaves (plain x) ≤ p = omega arith in
    let just : leaves (plain y) ≤ suc (p - leaves (plain x)) = omega arith in
    cond-false _ _ _ (le-ltb p (leaves (plain x)) past) ∙ cond-true _ _ _ (le-leb (leaves (plain y)) (suc (p - leaves (plain x))) just)

pub right_below_is : (n e m : ℕ) (x y : Laid) (p : ℕ) → p < leaves (plain x) → right_at n (fork e m x y) p ≡ new_fork m (right_at n x p) (keep y)
unfolding right_at
right_below_is n e m x y p h = cond-true _ _ _ (lt-ltb p (leaves (plain x)) h)

pub right_after_is : (n e m : ℕ) (x y : Laid) (p : ℕ) → leaves (plain x) ≤ p → right_at n (fork e m x y) p ≡ right_at n y (p - leaves (plain x))
unfolding right_at
right_after_is n e m x y p h = cond-false _ _ _ (le-ltb p (leaves (plain x)) h)

module _ {R Q : Type 0} (s : Summing R Q) (before : List (Node Q)) {used at : ℕ} (upto : ℕ) where
  pub left_end : {blocks : ℕ} → blocks ≡ blocks_in (slice_get before at) → blocks ≡ upto → LeftMade s before used at upto before at used
  left_end b end c t place h i =
      let count = count_of s c place upto t b h i in
      let total = count.1 in
      let to = count.2 in
      subst (Laying s c before used before at used) (sym (left_end_is c t place (omega arith))) (λ room. lay_kept s c t h)

  pub left_nothing : {after : List (Node Q)} {r next : ℕ} → None ≡ seen at (slice_get before at) → LeftMade s before used at upto after r next
  left_nothing see c = walk_nothing s c left_at upto see

  pub left_last : {b l : ℕ} → Some (Leaf b l None) ≡ seen at (slice_get before at) → LeftMade s before used at upto before at used
  unfolding left_at
  left_last see c = walk_last s c left_at upto see (λ e a p _ h _ room. lay_kept s c (last e a) h)

  pub left_stop : {after : List (Node Q)} {b l k own next : ℕ} {kept : Block Q} → Some (Leaf b l (Some k)) ≡ seen at (slice_get before at) → kept ≡ kept_in s b l (slice_get before at) → own ≡ min l 1 → upto ≤ own
      → LeafWritten s before used kept None after next → LeftMade s before used at upto after used next
  unfolding left_at
  left_stop see z o u w c = walk_stop s c left_at upto see o u (λ e a y old _ _ room. lay_last s c a w (as_kept s c z old) room)

  pub left_on : {mid after : List (Node Q)} {blocks b l k own r v next : ℕ} {kept : Block Q} → blocks ≡ blocks_in (slice_get before at) → (blocks ≡ upto → ⊥) → Some (Leaf b l (Some k)) ≡ seen at (slice_get before at) → kept ≡ kept_in s b l (slice_get before at) → own ≡ min l 1 → own < upto
      → LeftMade s before used k (upto - own) mid r v → length mid ≡ length before
      → LeafWritten s mid v kept (Some r) after next → LeftMade s before used at upto after v next
  unfolding leaves
  left_on {mid} {after} {v = v} {next = next} b not_end see z o u rest size w c =
      walk_on s c left_at upto see o u
      (λ e a y p old ready h i j.
      let count = count_of s c (suc p) upto (leaf e a y) b h i in
      let low = count.0 in
      let total = count.1 in
      let to = count.2 in
      subst (Laying s c before used after v next) (sym (left_on_is e a y p (omega arith)))
      (λ room. lay_leaf s c before a (left_at y p) (rest c y p ready j (room_leaf s c _ room)) w (as_kept s c z old) size room))

  pub left_below : {after : List (Node Q)} {m j k blocks r next : ℕ} → Some (Fork m j k) ≡ seen at (slice_get before at) → blocks ≡ blocks_in (slice_get before j) → upto ≤ blocks
      → LeftMade s before used j upto after r next → LeftMade s before used at upto after r next
  left_below {after} {m} {r = r} {next = next} see b u part c =
      walk_below s c left_at upto see b u
      (λ e x y p low below behind _ _ i. subst (Laying s c before used after r next) (sym (left_below_is e m x y p low)) (part c x p below i))

  pub left_after : {mid after : List (Node Q)} {m j k blocks all r v next : ℕ} → all ≡ blocks_in (slice_get before at) → (all ≡ upto → ⊥) → Some (Fork m j k) ≡ seen at (slice_get before at) → blocks ≡ blocks_in (slice_get before j) → blocks < upto
      → WritesFreeOnly before used mid v → LeftMade s before used k (upto - blocks) mid r v → length mid ≡ length before
      → ForkWritten s mid v m j r after next → LeftMade s before used at upto after v next
  unfolding leaves
  left_after {mid} {after} {m} {v = v} {next = next} a not_end see b u free_only part size w c =
      walk_after s c left_at upto see b u
      (λ e x y p high below behind h i j.
      let count = count_of s c p upto (fork e m x y) a h i in
      let low = count.0 in
      let total = count.1 in
      let to = count.2 in
      subst (Laying s c before used after v next) (sym (left_after_is e m x y p high (omega arith)))
      (λ room. lay_fork s c before m (keep x) (left_at y (p - leaves (plain x))) (lay_kept s c x below) free_only (part c y _ behind j (room_beside s c x _ room)) w size room))

module _ {R Q : Type 0} (s : Summing R Q) (before : List (Node Q)) {used at : ℕ} (upto : ℕ) {block : Block Q} where
  pub right_nothing : {after : List (Node Q)} {r next : ℕ} → None ≡ seen at (slice_get before at) → RightMade s before used at upto block after r next
  right_nothing see c n k = walk_nothing s c (right_at n) upto see

  pub right_last : {after : List (Node Q)} {b l next : ℕ} → Some (Leaf b l None) ≡ seen at (slice_get before at)
      → LeafWritten s before used block None after next → RightMade s before used at upto block after used next
  unfolding right_at
  right_last see w c n k = walk_last s c (right_at n) upto see (λ e a p _ _ _ room. lay_last s c n w k room)

  pub right_stop : {after : List (Node Q)} {b l k own next : ℕ} → Some (Leaf b l (Some k)) ≡ seen at (slice_get before at) → own ≡ min l 1 → upto ≤ own
      → LeafWritten s before used block (Some k) after next → RightMade s before used at upto block after used next
  unfolding right_at
  right_stop see o u w c n k = walk_stop s c (right_at n) upto see o u (λ e a y _ ready _. lay_leaf s c before n (keep y) (lay_kept s c y ready) w k refl)

  pub right_on : {after : List (Node Q)} {b l k own r next : ℕ} → Some (Leaf b l (Some k)) ≡ seen at (slice_get before at) → own ≡ min l 1 → own < upto
      → RightMade s before used k (upto - own) block after r next → RightMade s before used at upto block after r next
  unfolding right_at
  right_on see o u rest c n k = walk_on s c (right_at n) upto see o u (λ e a y p _ ready _ _ i. rest c n k y p ready i)

  pub right_below : {mid after : List (Node Q)} {m j k blocks r v next : ℕ} → Some (Fork m j k) ≡ seen at (slice_get before at) → blocks ≡ blocks_in (slice_get before j) → upto ≤ blocks
      → WritesFreeOnly before used mid v → RightMade s before used j upto block mid r v → length mid ≡ length before
      → ForkWritten s mid v m r k after next → RightMade s before used at upto block after v next
  right_below {mid} {after} {m} {v = v} {next = next} see b u free_only part size w c n k =
      walk_below s c (right_at n) upto see b u
      (λ e x y p low below behind _ _ i.
      subst (Laying s c before used after v next) (sym (right_below_is n e m x y p low))
      (λ room. lay_fork s c before m (right_at n x p) (keep y) (part c n k x p below i (room_below s c _ _ room)) (grown_none mid v) (lay_kept s c y (ready_on s c y free_only behind)) w size room))

  pub right_after : {after : List (Node Q)} {m j k blocks r next : ℕ} → Some (Fork m j k) ≡ seen at (slice_get before at) → blocks ≡ blocks_in (slice_get before j) → blocks < upto
      → RightMade s before used k (upto - blocks) block after r next → RightMade s before used at upto block after r next
  right_after {after} {m} {r = r} {next = next} see b u part c n k =
      walk_after s c (right_at n) upto see b u
      (λ e x y p high below behind _ _ i. subst (Laying s c before used after r next) (sym (right_after_is n e m x y p high)) (part c n k y _ behind i))

  -- both pieces under a fork
  pub cut_pieces : {mid then after : List (Node Q)} {level i v j w next : ℕ} → WritesFreeOnly before used mid v → LeftMade s before used at upto mid i v → length mid ≡ length before
      → WritesFreeOnly mid v then w → RightMade s mid v at upto block then j w → length then ≡ length mid
      → ForkWritten s then w level i j after next → CutMade s before used at upto block after w next level
  unfolding cut_at
  cut_pieces {mid} {level = level} g left size g' right size' f c n k t place h i room =
      let first = left c t place h i (room_below s c _ _ room) in
      let second = right c n k t place (ready_on s c t g h) i (room_after s c before (left_at t place) (right_at n t place) size first.used_up room) in
      lay_fork s c before level (left_at t place) (right_at n t place) first g' second f (size' ∙ size) room
