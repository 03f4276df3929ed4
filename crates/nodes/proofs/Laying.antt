-- A plan laid out node by node: what each write adds to what stands already. Assumes nothing.
use Rattle.std.proofs.Common.{◌≡◌, ℕ, ◌+◌, List, length, Some, None, sym, refl, ap, ◌∙◌, subst, arith}
use Rattle.std.specs.List.{slice_get}
use Rattle.flexlist.specs.Building.{Plan, keep, new_last, new_leaf, new_fork, made}
use Rattle.summary.specs.Summing.{Summing}
use Rattle.nodes.specs.declared.node.Node.{Node}
use Rattle.nodes.specs.declared.node.Block.{Block}
use Rattle.flexlist.specs.Laid.{Laid, root, lay}
use Rattle.nodes.specs.Holding.{Content, fork_node, node_of, Holds, WritesFreeOnly}
use Rattle.nodes.specs.Making.{LeafOf, LeafWritten, ForkWritten}
use Rattle.nodes.specs.Walking.{Ready, Room, LaidOut}
use Rattle.nodes.proofs.Held.{held_root, held_on}

module _ {R Q : Type 0} (s : Summing R Q) (c : ℕ → Content R) where
  -- a plan is laid out if there is room for it
  abbrev pub Laying : List (Node Q) → ℕ → List (Node Q) → ℕ → ℕ → Plan Laid → Type 0
  Laying before u after at next plan = Room s c before u plan → LaidOut s c u plan after at next

  -- room for a part
  pub room_leaf : {before : List (Node Q)} {u a : ℕ} (x : Plan Laid) → Room s c before u (new_leaf a x) → Room s c before u x
  unfolding made
  room_leaf x h = let fits = h.fits in record { fits = omega arith }

  pub room_below : {before : List (Node Q)} {u m : ℕ} (x y : Plan Laid) → Room s c before u (new_fork m x y) → Room s c before u x
  unfolding made
  room_below x y h = let fits = h.fits in record { fits = omega arith }

  pub room_after : (before : List (Node Q)) {mid : List (Node Q)} {u v m : ℕ} (x y : Plan Laid) → length mid ≡ length before → v ≡ u + made x → Room s c before u (new_fork m x y) → Room s c mid v y
  unfolding made
  room_after before x y size up h = let fits = h.fits in record { fits = omega arith }

  pub room_beside : {before : List (Node Q)} {u m : ℕ} (x : Laid) (y : Plan Laid) → Room s c before u (new_fork m (keep x) y) → Room s c before u y
  unfolding made
  room_beside x y h = let fits = h.fits in record { fits = omega arith }

  -- a piece that is kept
  pub lay_kept : {table : List (Node Q)} {u at : ℕ} (t : Laid) → Ready s c table u at t → LaidOut s c u (keep t) table at u
  unfolding lay made
  lay_kept t h = record { holds = h.holds; here = h.here; under = h.under; used_up = omega arith }

  -- a leaf written anew keeps what the old one kept
  pub as_kept : {k : Content R} {kept old : Block Q} → kept ≡ old → LeafOf s k old → LeafOf s k kept
  as_kept e h = subst (LeafOf s _) (sym e) h

  -- a new leaf with nothing after it
  pub lay_last : {before after : List (Node Q)} {u next : ℕ} {block : Block Q} (n : ℕ) → LeafWritten s before u block None after next
      → LeafOf s (c n) block → Room s c before u (new_last n) → LaidOut s c u (new_last n) after u next
  unfolding lay made node_of
  lay_last n w k room =
      let fits = room.fits in
      let there = w.there (omega arith) (c n) k None tt in
      let end = there.1 in
      record { holds = there.0; here = refl; under = omega arith; used_up = end }

  -- a new leaf over what was laid last
  pub lay_leaf : (before : List (Node Q)) {mid after : List (Node Q)} {u v at next : ℕ} {block : Block Q} (a : ℕ) (x : Plan Laid) → LaidOut s c u x mid at v → LeafWritten s mid v block (Some at) after next
      → LeafOf s (c a) block → length mid ≡ length before → Room s c before u (new_leaf a x) → LaidOut s c u (new_leaf a x) after v next
  unfolding lay made node_of
  lay_leaf before {mid} {after} {u} {v} {at} a x p w k size room =
      let fits = room.fits in
      let low = p.under in
      let up = p.used_up in
      let t = lay x u in
      let follows : slice_get mid at ≡ Some (node_of s c t) = ap (slice_get mid) (sym p.here) ∙ held_root s c mid t p.holds in
      let there = w.there (omega arith) (c a) k (Some (root t, node_of s c t)) (sym p.here, follows) in
      let end = there.1 in
      record {
        holds = (ap (slice_get after) (sym up) ∙ there.0, omega arith, held_on s c t w.free_only low p.holds);
        here = sym up;
        under = omega arith;
        used_up = omega arith;
      }

  -- a new fork over two trees, the second laid after the first
  pub lay_fork : (before : List (Node Q)) {mid then after : List (Node Q)} {u v w j k next : ℕ} (m : ℕ) (x y : Plan Laid) → LaidOut s c u x mid j v → WritesFreeOnly mid v then w → LaidOut s c v y then k w
      → ForkWritten s then w m j k after next → length then ≡ length before → Room s c before u (new_fork m x y) → LaidOut s c u (new_fork m x y) after w next
  unfolding lay made node_of
  lay_fork before {mid} {then} {after} {u} {v} {w} {j} {k} m x y p g q f size room =
      let fits = room.fits in
      let more = g.more in
      let low = p.under in
      let up = p.used_up in
      let q' : LaidOut s c (u + made x) y then k w = subst (λ i. LaidOut s c i y then k w) up q in
      let low' = q'.under in
      let up' = q'.used_up in
      let s₁ = lay x u in
      let t₁ = lay y (u + made x) in
      let first : Holds s c then s₁ = held_on s c s₁ g low p.holds in
      let below : slice_get then j ≡ Some (node_of s c s₁) = ap (slice_get then) (sym p.here) ∙ held_root s c then s₁ first in
      let behind : slice_get then k ≡ Some (node_of s c t₁) = ap (slice_get then) (sym q'.here) ∙ held_root s c then t₁ q'.holds in
      let there = f.there (omega arith) (node_of s c s₁) (node_of s c t₁) below behind in
      let end = there.1 in
      let same : u + made x + made y ≡ w = omega arith in
      record {
        holds = (
          ap (slice_get after) same ∙ there.0 ∙ ap (λ i. Some (fork_node s m (i, node_of s c s₁) (k, node_of s c t₁))) (sym p.here) ∙ ap (λ i. Some (fork_node s m (root s₁, node_of s c s₁) (i, node_of s c t₁))) (sym q'.here),
          omega arith,
          omega arith,
          held_on s c s₁ f.free_only (omega arith) first,
          held_on s c t₁ f.free_only low' q'.holds,
        );
        here = same;
        under = omega arith;
        used_up = omega arith;
      }
