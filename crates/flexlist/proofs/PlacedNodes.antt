-- The nodes of a laid tree are its stretches at entries, and a laid plan is the tree that the plan gives. Assumes nothing.
use Prim.Native.Nat.{ℕ, suc, ◌+◌}
use mathlib.Core.List.{List, [], ◌∷◌, ◌++◌}
use mathlib.Core.Logic.{inl, inr}
use mathlib.Core.Path.{◌≡◌, refl, ap, ap₂, sym, subst}
use Rattle.flexlist.specs.Shape as flat
use Rattle.flexlist.specs.Nodes.{identities, stretches, Among}
use Rattle.flexlist.specs.Building.{Plan, keep, new_last, new_leaf, new_fork, made, built, Keeps}
use Rattle.flexlist.proofs.Lists.{among_left, among_right, among_cases}
use Rattle.flexlist.specs.Laid.{Laid, last, leaf, fork, plain, plain_plan, lay}
use Rattle.flexlist.specs.Shared.{PlacedNode, placed_nodes, KeepsPlacedNodes}

pub plain_lay : (p : Plan Laid) (u : ℕ) → plain (lay p u) ≡ built (plain_plan p)
unfolding lay built
plain_lay (keep t) u = refl
plain_lay (new_last a) u = refl
plain_lay (new_leaf a p) u = ap (flat.Tree.leaf a) (plain_lay p u)
plain_lay (new_fork m p q) u = ap₂ (flat.Tree.fork m) (plain_lay p u) (plain_lay q (u + made p))

pub made_plain : (p : Plan Laid) → made (plain_plan p) ≡ made p
unfolding made
made_plain (keep t) = refl
made_plain (new_last a) = refl
made_plain (new_leaf a p) = ap suc (made_plain p)
made_plain (new_fork m p q) = ap₂ (λ i j. suc (i + j)) (made_plain p) (made_plain q)

-- a node's stretch is one of the tree's
pub placed_stretch : (t : Laid) (x : PlacedNode) → Among x (placed_nodes t) → Among x.stretch (stretches (plain t))
placed_stretch (last e a) x (inl h) = inl (ap (λ s. s.stretch) h)
placed_stretch (last e a) x (inr h) = inr h
placed_stretch (leaf e a t) x (inl h) = inl (ap (λ s. s.stretch) h)
placed_stretch (leaf e a t) x (inr h) = inr (placed_stretch t x h)
placed_stretch (fork e m s t) x (inl h) = inl (ap (λ s. s.stretch) h)
placed_stretch (fork e m s t) x (inr h) =
    elim (among_cases x (placed_nodes s) (placed_nodes t) h) [
      | inl k ↦ inr (among_left x.stretch (stretches (plain s)) (stretches (plain t)) (placed_stretch s x k))
      | inr k ↦ inr (among_right x.stretch (stretches (plain s)) (stretches (plain t)) (placed_stretch t x k))
    ]

-- and each of the tree's is some node's
pub stretch_spot : (t : Laid) (z : List ℕ) → Among z (stretches (plain t)) → (x : PlacedNode) × Among x (placed_nodes t) × (z ≡ x.stretch)
stretch_spot (last e a) z (inl h) = (record { stretch = a ∷ []; entry = e }, inl refl, h)
stretch_spot (last e a) z (inr h) = absurd h
stretch_spot (leaf e a t) z (inl h) = (record { stretch = a ∷ identities (plain t); entry = e }, inl refl, h)
stretch_spot (leaf e a t) z (inr h) = let r = stretch_spot t z h in (r.0, inr r.1, r.2)
stretch_spot (fork e m s t) z (inl h) = (record { stretch = identities (plain s) ++ identities (plain t); entry = e }, inl refl, h)
stretch_spot (fork e m s t) z (inr h) =
    elim (among_cases z (stretches (plain s)) (stretches (plain t)) h) [
      | inl k ↦ (let r = stretch_spot s z k in (r.0, inr (among_left r.0 (placed_nodes s) (placed_nodes t) r.1), r.2))
      | inr k ↦ (let r = stretch_spot t z k in (r.0, inr (among_right r.0 (placed_nodes s) (placed_nodes t) r.1), r.2))
    ]

-- a plan that keeps the base's nodes at their entries keeps its stretches
pub keeps_plain : (base : Laid) (p : Plan Laid) → KeepsPlacedNodes base p → Keeps (stretches (plain base)) (plain_plan p)
keeps_plain base (keep t) k = λ z h. let r = stretch_spot t z h in subst (λ y. Among y (stretches (plain base))) (sym r.2) (placed_stretch base r.0 (k r.0 r.1))
keeps_plain base (new_last a) k = tt
keeps_plain base (new_leaf a p) k = keeps_plain base p k
keeps_plain base (new_fork m p q) k = (keeps_plain base p k.0, keeps_plain base q k.1)
