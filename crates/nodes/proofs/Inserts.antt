-- A block put in, arm by arm of the walk. Assumes nothing.
use Rattle.std.proofs.Common.{◌≡◌, ℕ, zero, suc, ◌-◌, ◌<◌, ◌≤◌, min, List, length, Some, None, Option, sym, refl, ap, ◌∙◌, subst, arith}
use Rattle.std.specs.List.{slice_get}
use Rattle.std.proofs.lemmas.Bool.{lt-ltb, le-ltb, le-leb, lt-leb, cond-true, cond-false}
use Rattle.flexlist.specs.Building.{keep, new_last, new_leaf, new_fork}
use Rattle.flexlist.specs.Nodes.{leaves}
use Rattle.summary.specs.Summing.{Summing}
use Rattle.nodes.specs.declared.node.Node.{Node}
use Rattle.nodes.specs.declared.node.Block.{Block}
use Rattle.nodes.specs.declared.node.Shape.TheVariants.{Leaf, Fork}
use Rattle.flexlist.specs.Laid.{Laid, last, leaf, fork, plain}
use Rattle.nodes.specs.Holding.{WritesFreeOnly}
use Rattle.nodes.specs.Views.{seen, blocks_in, kept_in}
use Rattle.nodes.specs.Making.{LeafWritten, ForkWritten}
use Rattle.nodes.specs.Walking.{CountedTo}
use Rattle.nodes.specs.Cutting.{cut_at, insert_at, CutMade, Inserted}
use Rattle.nodes.proofs.Held.{ready_on}
use Rattle.nodes.proofs.Counts.{at_followed}
use Rattle.nodes.proofs.Laying.{Laying, room_leaf, room_below, room_beside, as_kept, lay_kept, lay_last, lay_leaf, lay_fork}
use Rattle.nodes.proofs.Tables.{grown_none}
use Rattle.nodes.proofs.Arms.{walk_nothing, walk_last, walk_stop, walk_on, walk_below, walk_after}

pub insert_cut_last_is : (n k e a p : ℕ) → 0 < k → insert_at n k (last e a) p ≡ cut_at n k (last e a) p
unfolding insert_at
insert_cut_last_is n zero e a p h = absurd (omega arith)
insert_cut_last_is n (suc k) e a p h = refl

pub insert_cut_leaf_is : (n k e a : ℕ) (y : Laid) (p : ℕ) → 0 < k → insert_at n k (leaf e a y) p ≡ cut_at n k (leaf e a y) p
unfolding insert_at
insert_cut_leaf_is n zero e a y p h = absurd (omega arith)
insert_cut_leaf_is n (suc k) e a y p h = refl

pub insert_cut_below_is : (n k e m : ℕ) (x y : Laid) (p : ℕ) → p < leaves (plain x) → m ≤ k → insert_at n k (fork e m x y) p ≡ cut_at n k (fork e m x y) p
unfolding insert_at
insert_cut_below_is n k e m x y p h i = cond-true _ _ _ (lt-ltb p (leaves (plain x)) h) ∙ cond-true _ _ _ (le-leb m k i)

pub insert_below_is : (n k e m : ℕ) (x y : Laid) (p : ℕ) → p < leaves (plain x) → k < m → insert_at n k (fork e m x y) p ≡ new_fork m (insert_at n k x p) (keep y)
unfolding insert_at
insert_below_is n k e m x y p h i = cond-true _ _ _ (lt-ltb p (leaves (plain x)) h) ∙ cond-false _ _ _ (lt-leb m k i)

pub insert_cut_after_is : (n k e m : ℕ) (x y : Laid) (p : ℕ) → leaves (plain x) ≤ p → m < k → insert_at n k (fork e m x y) p ≡ cut_at n k (fork e m x y) p
unfolding insert_at
insert_cut_after_is n k e m x y p h i = cond-false _ _ _ (le-ltb p (leaves (plain x)) h) ∙ cond-true _ _ _ (lt-ltb m k i)

pub insert_after_is : (n k e m : ℕ) (x y : Laid) (p : ℕ) → leaves (plain x) ≤ p → k ≤ m → insert_at n k (fork e m x y) p ≡ new_fork m (keep x) (insert_at n k y (p - leaves (plain x)))
unfolding insert_at
insert_after_is n k e m x y p h i = cond-false _ _ _ (le-ltb p (leaves (plain x)) h) ∙ cond-false _ _ _ (le-ltb m k i)

pub insert_last_is : (n k e a p : ℕ) → k ≡ 0 → insert_at n k (last e a) p ≡ new_leaf a (new_last n)
unfolding insert_at
insert_last_is n k e a p h = ap (λ i. insert_at n i (last e a) p) h

pub insert_stop_is : (n k e a : ℕ) (y : Laid) → k ≡ 0 → insert_at n k (leaf e a y) 0 ≡ new_leaf a (new_leaf n (keep y))
unfolding insert_at
insert_stop_is n k e a y h = ap (λ i. insert_at n i (leaf e a y) 0) h

pub insert_on_is : (n k e a : ℕ) (y : Laid) (p : ℕ) → k ≡ 0 → insert_at n k (leaf e a y) (suc p) ≡ new_leaf a (insert_at n k y p)
unfolding insert_at
insert_on_is n k e a y p h = ap (λ i. insert_at n i (leaf e a y) (suc p)) h ∙ ap (λ i. new_leaf a (insert_at n i y p)) (sym h)

module _ {R Q : Type 0} (s : Summing R Q) (before : List (Node Q)) {used at : ℕ} (upto : ℕ) {block : Block Q} (level : ℕ) where
  pub insert_nothing : {after : List (Node Q)} {r next : ℕ} → None ≡ seen at (slice_get before at) → Inserted s before used at upto block after r next level
  insert_nothing see c n k = walk_nothing s c (insert_at n level) upto see

  pub insert_cut_leaf : {after : List (Node Q)} {b l r next : ℕ} (j : Option ℕ) → Some (Leaf b l j) ≡ seen at (slice_get before at) → 0 < level
      → CutMade s before used at upto block after r next level → Inserted s before used at upto block after r next level
  insert_cut_leaf {after} {r = r} {next = next} None see v cut c n k t place h i =
      walk_last s c (insert_at n level) upto see
      (λ e a p _ h i. subst (Laying s c before used after r next) (sym (insert_cut_last_is n level e a p v)) (cut c n k (last e a) p h i))
      t place h i
  insert_cut_leaf {after} {r = r} {next = next} (Some j) see v cut c n k t place h i =
      at_followed s c (λ t. CountedTo c t place upto → Laying s c before used after r next (insert_at n level t place)) t see h
      (λ e a y _ _ h i. subst (Laying s c before used after r next) (sym (insert_cut_leaf_is n level e a y place v)) (cut c n k (leaf e a y) place h i))
      i

  pub insert_cut_below : {after : List (Node Q)} {m i j blocks r next : ℕ} → Some (Fork m i j) ≡ seen at (slice_get before at) → blocks ≡ blocks_in (slice_get before i) → upto ≤ blocks → m ≤ level
      → CutMade s before used at upto block after r next level → Inserted s before used at upto block after r next level
  insert_cut_below {after} {m} {r = r} {next = next} see b u v cut c n k =
      walk_below s c (insert_at n level) upto see b u
      (λ e x y p low _ _ h i _. subst (Laying s c before used after r next) (sym (insert_cut_below_is n level e m x y p low v)) (cut c n k (fork e m x y) p h i))

  pub insert_cut_after : {after : List (Node Q)} {m i j blocks r next : ℕ} → Some (Fork m i j) ≡ seen at (slice_get before at) → blocks ≡ blocks_in (slice_get before i) → blocks < upto → m < level
      → CutMade s before used at upto block after r next level → Inserted s before used at upto block after r next level
  insert_cut_after {after} {m} {r = r} {next = next} see b u v cut c n k =
      walk_after s c (insert_at n level) upto see b u
      (λ e x y p high _ _ h i _. subst (Laying s c before used after r next) (sym (insert_cut_after_is n level e m x y p high v)) (cut c n k (fork e m x y) p h i))

  pub insert_last : {mid after : List (Node Q)} {b l v next : ℕ} {kept : Block Q} → Some (Leaf b l None) ≡ seen at (slice_get before at) → kept ≡ kept_in s b l (slice_get before at) → level ≡ 0
      → LeafWritten s before used block None mid v → length mid ≡ length before
      → LeafWritten s mid v kept (Some used) after next → Inserted s before used at upto block after v next level
  insert_last {mid} {after} {v = v} {next = next} see q z w size w' c n k =
      walk_last s c (insert_at n level) upto see
      (λ e a p old _ _. subst (Laying s c before used after v next) (sym (insert_last_is n level e a p z))
      (λ room. lay_leaf s c before a (new_last n) (lay_last s c n w k (room_leaf s c _ room)) w' (as_kept s c q old) size room))

  pub insert_stop : {mid after : List (Node Q)} {b l j own v next : ℕ} {kept : Block Q} → Some (Leaf b l (Some j)) ≡ seen at (slice_get before at) → kept ≡ kept_in s b l (slice_get before at) → own ≡ min l 1 → upto ≤ own → level ≡ 0
      → LeafWritten s before used block (Some j) mid v → length mid ≡ length before
      → LeafWritten s mid v kept (Some used) after next → Inserted s before used at upto block after v next level
  insert_stop {mid} {after} {v = v} {next = next} see q o u z w size w' c n k =
      walk_stop s c (insert_at n level) upto see o u
      (λ e a y old ready _. subst (Laying s c before used after v next) (sym (insert_stop_is n level e a y z))
      (λ room. lay_leaf s c before a (new_leaf n (keep y)) (lay_leaf s c before n (keep y) (lay_kept s c y ready) w k refl (room_leaf s c _ room)) w' (as_kept s c q old) size room))

  pub insert_on : {mid after : List (Node Q)} {b l j own r v next : ℕ} {kept : Block Q} → Some (Leaf b l (Some j)) ≡ seen at (slice_get before at) → kept ≡ kept_in s b l (slice_get before at) → own ≡ min l 1 → own < upto → level ≡ 0
      → Inserted s before used j (upto - own) block mid r v level → length mid ≡ length before
      → LeafWritten s mid v kept (Some r) after next → Inserted s before used at upto block after v next level
  insert_on {mid} {after} {v = v} {next = next} see q o u z rest size w c n k =
      walk_on s c (insert_at n level) upto see o u
      (λ e a y p old ready _ _ i. subst (Laying s c before used after v next) (sym (insert_on_is n level e a y p z))
      (λ room. lay_leaf s c before a (insert_at n level y p) (rest c n k y p ready i (room_leaf s c _ room)) w (as_kept s c q old) size room))

  pub insert_below : {mid after : List (Node Q)} {m i j blocks r v next : ℕ} → Some (Fork m i j) ≡ seen at (slice_get before at) → blocks ≡ blocks_in (slice_get before i) → upto ≤ blocks → level < m
      → WritesFreeOnly before used mid v → Inserted s before used i upto block mid r v level → length mid ≡ length before
      → ForkWritten s mid v m r j after next → Inserted s before used at upto block after v next level
  insert_below {mid} {after} {m} {v = v} {next = next} see b u z free_only part size w c n k =
      walk_below s c (insert_at n level) upto see b u
      (λ e x y p low below behind _ _ i.
      subst (Laying s c before used after v next) (sym (insert_below_is n level e m x y p low z))
      (λ room. lay_fork s c before m (insert_at n level x p) (keep y) (part c n k x p below i (room_below s c _ _ room)) (grown_none mid v) (lay_kept s c y (ready_on s c y free_only behind)) w size room))

  pub insert_after : {mid after : List (Node Q)} {m i j blocks r v next : ℕ} → Some (Fork m i j) ≡ seen at (slice_get before at) → blocks ≡ blocks_in (slice_get before i) → blocks < upto → level ≤ m
      → WritesFreeOnly before used mid v → Inserted s before used j (upto - blocks) block mid r v level → length mid ≡ length before
      → ForkWritten s mid v m i r after next → Inserted s before used at upto block after v next level
  insert_after {mid} {after} {m} {v = v} {next = next} see b u z free_only part size w c n k =
      walk_after s c (insert_at n level) upto see b u
      (λ e x y p high below behind _ _ i.
      subst (Laying s c before used after v next) (sym (insert_after_is n level e m x y p high z))
      (λ room. lay_fork s c before m (keep x) (insert_at n level y (p - leaves (plain x))) (lay_kept s c x below) free_only (part c n k y _ behind i (room_beside s c x _ room)) w size room))
