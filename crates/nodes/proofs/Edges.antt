-- Edits on any table, and where there is no such place. Assumes nothing.
use Rattle.std.proofs.Common.{not, ◌∙◌, Option, Some, None, ◌≡◌, ℕ, zero, suc, ◌-◌, Bool, true, false, cond, nat_lt, nat_le, ◌<◌, ◌≤◌, List, length, refl, arith}
use Rattle.std.specs.List.{slice_get}
use Rattle.std.specs.Option.{is_some}
use Rattle.flexlist.specs.Building.{Plan, keep, new_fork, made}
use Rattle.flexlist.specs.Nodes.{leaves}
use Rattle.summary.specs.Summing.{Summing}
use Rattle.nodes.specs.declared.node.Node.{Node}
use Rattle.flexlist.specs.Laid.{Laid, last, leaf, fork, plain}
use Rattle.nodes.specs.Holding.{Content, WritesFreeOnly, Bounds, capacity}
use Rattle.nodes.specs.Views.{seen, blocks_in}
use Rattle.nodes.specs.Changing.{change_at}
use Rattle.nodes.specs.Cutting.{cut_at, insert_at}
use Rattle.nodes.specs.Walking.{Walked, AnyTable}
use Rattle.nodes.proofs.Counts.{count_of}
use Rattle.nodes.proofs.Tables.{grown_full}

module _ {Q : Type 0} (before : List (Node Q)) {used at upto : ℕ} where
  -- an edit that tried no more than the place
  pub any_none : AnyTable before used at upto before at used
  any_none = record {
    unseen = λ h. (refl, refl, refl);
    bounds = record { within = omega arith; newest = λ h. absurd (omega arith) };
    full = λ h. (refl, refl);
    past = λ h. (refl, refl, refl);
  }

  -- an edit that walked
  pub any_walked : {blocks root next : ℕ} {after : List (Node Q)} → (seen at (slice_get before at) ≡ None → ⊥) → blocks ≡ blocks_in (slice_get before at) → upto ≤ blocks → WritesFreeOnly before used after next → Bounds before used at root next
      → length after ≡ length before → AnyTable before used at upto after root next
  any_walked there e u free_only bounds size = record { unseen = λ h. absurd (there h); bounds = bounds; full = grown_full free_only bounds size; past = λ h. absurd (omega arith) }

-- no tree that the table holds has a place to which more blocks lead than its root counts
pub walk_past : {R Q : Type 0} (s : Summing R Q) (c : ℕ → Content R) (edit : Laid → ℕ → Plan Laid) {before after : List (Node Q)} {used at r next blocks : ℕ} (upto : ℕ)
    → blocks ≡ blocks_in (slice_get before at) → blocks < upto → Walked s c edit before used at upto after r next
walk_past s c edit upto b u t place h i = let count = count_of s c place upto t b h i in absurd (omega arith)

-- a change and an insert make a node, so that a full table has no room for either
cond_made : (b : Bool) (x y : Plan Laid) → 1 ≤ made x → 1 ≤ made y → 1 ≤ made (cond b x y)
cond_made true x y p q = p
cond_made false x y p q = q

pub change_made : (n : ℕ) (t : Laid) (p : ℕ) → 1 ≤ made (change_at n t p)
unfolding change_at made
change_made n (last e a) p = omega arith
change_made n (leaf e a t) zero = omega arith
change_made n (leaf e a t) (suc p) = omega arith
change_made n (fork e m x y) p = cond_made (nat_lt p (leaves (plain x))) (new_fork m (change_at n x p) (keep y)) (new_fork m (keep x) (change_at n y (p - leaves (plain x)))) (omega arith) (omega arith)

cut_made : (n k : ℕ) (t : Laid) (p : ℕ) → 1 ≤ made (cut_at n k t p)
unfolding cut_at made
cut_made n k t p = omega arith

pub insert_made : (n k : ℕ) (t : Laid) (p : ℕ) → 1 ≤ made (insert_at n k t p)
unfolding insert_at made
insert_made n zero (last e a) p = omega arith
insert_made n (suc k) (last e a) p = cut_made n (suc k) (last e a) p
insert_made n zero (leaf e a t) zero = omega arith
insert_made n zero (leaf e a t) (suc p) = omega arith
insert_made n (suc k) (leaf e a t) p = cut_made n (suc k) (leaf e a t) p
insert_made n k (fork e m x y) p =
    let c = cut_made n k (fork e m x y) p in
    cond_made (nat_lt p (leaves (plain x))) _ _ (cond_made (nat_le m k) _ _ c (omega arith)) (cond_made (nat_lt m k) _ _ c (omega arith))

pub no_room : {R Q : Type 0} (s : Summing R Q) (c : ℕ → Content R) (edit : Laid → ℕ → Plan Laid) → ((t : Laid) (p : ℕ) → 1 ≤ made (edit t p)) → {before after : List (Node Q)} {used at r next : ℕ} (upto : ℕ)
    → capacity before ≤ used → Walked s c edit before used at upto after r next
no_room s c edit some upto full t place h i room = let m = some t place in let fits = room.fits in absurd (omega arith)

-- where a test says that a walk sees nothing, or something
pub unseen : {A : Type 0} (o : Option A) (b : Bool) → is_some o ≡ not b → b ≡ true → None ≡ o
unseen None b e h = refl
unseen (Some x) true e h = cc
unseen (Some x) false e h = cc

pub seen_there : {A : Type 0} (o : Option A) (b : Bool) → is_some o ≡ not b → b ≡ false → (v : Option A) → o ≡ v → v ≡ None → ⊥
seen_there o true e h v q n = cc
seen_there None false e h v q n = cc
seen_there {A} (Some x) false e h v q n = let w : ◌≡◌ {A = Option A} (Some x) None = q ∙ n in let z : ◌≡◌ {A = ℕ} 0 1 = cc in omega arith
