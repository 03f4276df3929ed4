-- Two trees joined, arm by arm of the walk. Assumes nothing.
use Rattle.std.proofs.Common.{◌≡◌, ℕ, ◌<◌, ◌≤◌, List, length, Some, sym, refl, subst, arith, None, Option}
use Rattle.std.specs.List.{slice_get}
use Rattle.std.proofs.lemmas.Bool.{lt-ltb, le-ltb, cond-true, cond-false}
use Rattle.flexlist.specs.Building.{keep, new_fork}
use Rattle.summary.specs.Summing.{Summing}
use Rattle.nodes.specs.declared.node.Node.{Node}
use Rattle.nodes.specs.declared.node.Block.{Block}
use Rattle.nodes.specs.declared.node.Shape.{Shape}
use Rattle.nodes.specs.declared.node.Shape.TheVariants.{Leaf, Fork}
use Rattle.flexlist.specs.Laid.{Laid, last, leaf, fork, root}
use Rattle.nodes.specs.Holding.{Content, WritesFreeOnly}
use Rattle.nodes.specs.Views.{seen, kept_in}
use Rattle.nodes.specs.Making.{LeafWritten, ForkWritten}
use Rattle.nodes.specs.Walking.{Ready}
use Rattle.nodes.specs.Removing.{joined_last, joined_leaf, joined_fork, joined, Merged}
use Rattle.nodes.proofs.Held.{ready_on, seen_held}
use Rattle.nodes.proofs.Counts.{at_nothing, at_last, at_followed, at_forked}
use Rattle.nodes.proofs.Laying.{Laying, room_leaf, room_below, room_beside, as_kept, lay_kept, lay_leaf, lay_fork}
use Rattle.nodes.proofs.Tables.{grown_none}

-- a tree whose root is below a level, or no fork
abbrev pub Lower : Laid → ℕ → Type 0
Lower (last e a) n = Unit {0}
Lower (leaf e a s) n = Unit {0}
Lower (fork e m r s) n = m < n

pub joined_kept_is : (x : Laid) (f j : ℕ) → joined x (last f j) ≡ keep x
unfolding joined joined_last joined_leaf joined_fork
joined_kept_is (last e a) f j = refl
joined_kept_is (leaf e a s) f j = refl
joined_kept_is (fork e m r s) f j = refl

pub joined_past_is : (e m : ℕ) (r s : Laid) (f n : ℕ) (u v : Laid) → n ≤ m → joined (fork e m r s) (fork f n u v) ≡ new_fork m (keep r) (joined s (fork f n u v))
unfolding joined joined_fork
joined_past_is e m r s f n u v h = cond-false _ _ _ (le-ltb m n h)

pub joined_under_is : (x : Laid) (f n : ℕ) (u v : Laid) → Lower x n → joined x (fork f n u v) ≡ new_fork n (joined x u) (keep v)
unfolding joined joined_last joined_leaf joined_fork
joined_under_is (last e a) f n u v h = refl
joined_under_is (leaf e a s) f n u v h = refl
joined_under_is (fork e m r s) f n u v h = cond-true _ _ _ (lt-ltb m n h)

pub no_level : {b l m i o n : ℕ} {j : Option ℕ} {v : Option Shape} → Some (Leaf b l j) ≡ v → Some (Fork m i o) ≡ v → m < n
no_level e f = let z : ◌≡◌ {A = ℕ} 0 1 = cc in absurd (omega arith)

pub level_below : {m i o m' i' o' n : ℕ} {v : Option Shape} → Some (Fork m' i' o') ≡ v → m' < n → Some (Fork m i o) ≡ v → m < n
level_below {m} {m' = m'} e h f = let same : m ≡ m' = cc in omega arith

module _ {R Q : Type 0} (s : Summing R Q) {before : List (Node Q)} {used first : ℕ} where
  lower_seen : (c : ℕ → Content R) (n : ℕ) → ((m i o : ℕ) → Some (Fork m i o) ≡ seen first (slice_get before first) → m < n) → (x : Laid) → Ready s c before used first x → Lower x n
  lower_seen c n low (last e a) h = tt
  lower_seen c n low (leaf e a x) h = tt
  lower_seen c n low (fork e m x y) h = low m (root x) (root y) (sym (seen_held s c before first (fork e m x y) h.holds h.here))

module _ {R Q : Type 0} (s : Summing R Q) (before : List (Node Q)) {used first second : ℕ} where
  pub merge_nothing : {after : List (Node Q)} {r next : ℕ} → None ≡ seen second (slice_get before second) → Merged s before used first second after r next
  merge_nothing see c x y h k room = absurd (at_nothing s c y see k)

  pub merge_none : {after : List (Node Q)} {r next : ℕ} → None ≡ seen first (slice_get before first) → Merged s before used first second after r next
  merge_none see c x y h k room = absurd (at_nothing s c x see h)

  pub merge_kept : {b l : ℕ} → Some (Leaf b l None) ≡ seen second (slice_get before second) → Merged s before used first second before first used
  merge_kept see c x y h k =
      at_last s c (λ y. Laying s c before used before first used (joined x y)) y see k
      (λ f j _ _. subst (Laying s c before used before first used) (sym (joined_kept_is x f j)) (λ room. lay_kept s c x h))

  pub merge_last : {after : List (Node Q)} {b l b' l' j next : ℕ} {kept : Block Q} → Some (Leaf b' l' (Some j)) ≡ seen second (slice_get before second) → Some (Leaf b l None) ≡ seen first (slice_get before first) → kept ≡ kept_in s b l (slice_get before first)
      → LeafWritten s before used kept (Some j) after next → Merged s before used first second after used next
  unfolding joined joined_last
  merge_last {after} {next = next} see' see z w c x y h k =
      at_followed s c (λ y. Laying s c before used after used next (joined x y)) y see' k
      (λ f d t _ ready _.
      at_last s c (λ x. Laying s c before used after used next (joined x (leaf f d t))) x see h
      (λ e a old _ room. lay_leaf s c before a (keep t) (lay_kept s c t ready) w (as_kept s c z old) refl room))

  pub merge_leaf : {mid after : List (Node Q)} {b l i b' l' j r v next : ℕ} {kept : Block Q} → Some (Leaf b' l' (Some j)) ≡ seen second (slice_get before second) → Some (Leaf b l (Some i)) ≡ seen first (slice_get before first) → kept ≡ kept_in s b l (slice_get before first)
      → Merged s before used i second mid r v → length mid ≡ length before
      → LeafWritten s mid v kept (Some r) after next → Merged s before used first second after v next
  unfolding joined joined_leaf
  merge_leaf {after = after} {v = v} {next = next} see' see z part size w c x y h k =
      at_followed s c (λ y. Laying s c before used after v next (joined x y)) y see' k
      (λ f d t _ _ k.
      at_followed s c (λ x. Laying s c before used after v next (joined x (leaf f d t))) x see h
      (λ e a x' old ready _ room. lay_leaf s c before a (joined x' (leaf f d t)) (part c x' (leaf f d t) ready k (room_leaf s c _ room)) w (as_kept s c z old) size room))

  pub merge_fork : {mid after : List (Node Q)} {m i o b' l' j r v next : ℕ} → Some (Leaf b' l' (Some j)) ≡ seen second (slice_get before second) → Some (Fork m i o) ≡ seen first (slice_get before first)
      → WritesFreeOnly before used mid v → Merged s before used o second mid r v → length mid ≡ length before
      → ForkWritten s mid v m i r after next → Merged s before used first second after v next
  unfolding joined joined_fork
  merge_fork {after = after} {m = m} {v = v} {next = next} see' see free_only part size w c x y h k =
      at_followed s c (λ y. Laying s c before used after v next (joined x y)) y see' k
      (λ f d t _ _ k.
      at_forked s c (λ x. Laying s c before used after v next (joined x (leaf f d t))) x see h
      (λ e x₁ x₂ below behind _ room. lay_fork s c before m (keep x₁) (joined x₂ (leaf f d t)) (lay_kept s c x₁ below) free_only (part c x₂ (leaf f d t) behind k (room_beside s c x₁ _ room)) w size room))

  pub merge_past : {mid after : List (Node Q)} {m i o n i' o' r v next : ℕ} → Some (Fork n i' o') ≡ seen second (slice_get before second) → Some (Fork m i o) ≡ seen first (slice_get before first) → n ≤ m
      → WritesFreeOnly before used mid v → Merged s before used o second mid r v → length mid ≡ length before
      → ForkWritten s mid v m i r after next → Merged s before used first second after v next
  merge_past {after = after} {m = m} {n = n} {v = v} {next = next} see' see high free_only part size w c x y h k =
      at_forked s c (λ y. Laying s c before used after v next (joined x y)) y see' k
      (λ f y₁ y₂ _ _ k.
      at_forked s c (λ x. Laying s c before used after v next (joined x (fork f n y₁ y₂))) x see h
      (λ e x₁ x₂ below behind _.
      subst (Laying s c before used after v next) (sym (joined_past_is e m x₁ x₂ f n y₁ y₂ high))
      (λ room. lay_fork s c before m (keep x₁) (joined x₂ (fork f n y₁ y₂)) (lay_kept s c x₁ below) free_only (part c x₂ (fork f n y₁ y₂) behind k (room_beside s c x₁ _ room)) w size room)))

  pub merge_under : {mid after : List (Node Q)} {n i o r v next : ℕ} → Some (Fork n i o) ≡ seen second (slice_get before second) → ((m i o : ℕ) → Some (Fork m i o) ≡ seen first (slice_get before first) → m < n)
      → WritesFreeOnly before used mid v → Merged s before used first i mid r v → length mid ≡ length before
      → ForkWritten s mid v n r o after next → Merged s before used first second after v next
  merge_under {mid} {after} {n = n} {v = v} {next = next} see' low free_only part size w c x y h k =
      at_forked s c (λ y. Laying s c before used after v next (joined x y)) y see' k
      (λ f y₁ y₂ below behind _.
      subst (Laying s c before used after v next) (sym (joined_under_is x f n y₁ y₂ (lower_seen s c n low x h)))
      (λ room. lay_fork s c before n (joined x y₁) (keep y₂) (part c x y₁ h below (room_below s c _ _ room)) (grown_none mid v) (lay_kept s c y₂ (ready_on s c y₂ free_only behind)) w size room))
