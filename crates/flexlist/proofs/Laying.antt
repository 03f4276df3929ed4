-- A plan is laid by the sharing rule. Assumes nothing.
use Prim.Native.Nat.{ℕ, ◌+◌, ◌<◌, ◌≤◌}
use mathlib.Core.List.{List, [], ◌∷◌, ◌++◌}
use mathlib.Core.Logic.{◌⊎◌, inl, inr}
use mathlib.Core.Path.{◌≡◌, refl, ap, ap₂, sym, ◌∙◌, subst}
use native.Mathlib.Omega.{arith}
use native.Mathlib.Decide.{dec_lt}
use Rattle.flexlist.specs.Nodes.{identities, stretches, Among}
use Rattle.flexlist.specs.Sharing.{written, missing}
use Rattle.flexlist.specs.Building.{Plan, keep, new_last, new_leaf, new_fork, made, built, New, EachMade}
use Rattle.flexlist.proofs.Lists.{among_left, among_right, among_cases}
use Rattle.flexlist.proofs.Written.{written_exactly}
use Rattle.flexlist.specs.Laid.{Laid, plain, plain_plan, lay}
use Rattle.flexlist.specs.Shared.{PlacedNode, placed_nodes, OwnEntries, Under, KeepsPlacedNodes, LayingShares}
use Rattle.flexlist.proofs.PlacedNodes.{plain_lay, made_plain, keeps_plain, placed_stretch}

-- the nodes that a laid plan makes
made_spots : Plan Laid → ℕ → List PlacedNode
made_spots (keep t) u = []
made_spots (new_last a) u = record { stretch = a ∷ []; entry = u } ∷ []
made_spots (new_leaf a p) u = record { stretch = a ∷ identities (plain (lay p u)); entry = u + made p } ∷ made_spots p u
made_spots (new_fork m p q) u =
    record { stretch = identities (plain (lay p u)) ++ identities (plain (lay q (u + made p))); entry = u + made p + made q } ∷ (made_spots p u ++ made_spots q (u + made p))

-- a node of a laid plan is the base's or is made
sorted : (base : Laid) (p : Plan Laid) (u : ℕ) → KeepsPlacedNodes base p → (x : PlacedNode) → Among x (placed_nodes (lay p u)) → Among x (placed_nodes base) ⊎ Among x (made_spots p u)
unfolding lay made_spots
sorted base (keep t) u k x h = inl (k x h)
sorted base (new_last a) u k x h = inr h
sorted base (new_leaf a p) u k x (inl h) = inr (inl h)
sorted base (new_leaf a p) u k x (inr h) = elim (sorted base p u k x h) [ inl b ↦ inl b | inr m ↦ inr (inr m) ]
sorted base (new_fork m p q) u k x (inl h) = inr (inl h)
sorted base (new_fork m p q) u k x (inr h) =
    elim (among_cases x (placed_nodes (lay p u)) (placed_nodes (lay q (u + made p))) h) [
      | inl i ↦ elim (sorted base p u k.0 x i) [ inl b ↦ inl b | inr j ↦ inr (inr (among_left x (made_spots p u) (made_spots q (u + made p)) j)) ]
      | inr i ↦ elim (sorted base q (u + made p) k.1 x i) [ inl b ↦ inl b | inr j ↦ inr (inr (among_right x (made_spots p u) (made_spots q (u + made p)) j)) ]
    ]

made_there : (p : Plan Laid) (u : ℕ) (x : PlacedNode) → Among x (made_spots p u) → Among x (placed_nodes (lay p u))
unfolding lay made_spots
made_there (keep t) u x h = absurd h
made_there (new_last a) u x h = h
made_there (new_leaf a p) u x (inl h) = inl h
made_there (new_leaf a p) u x (inr h) = inr (made_there p u x h)
made_there (new_fork m p q) u x (inl h) = inl h
made_there (new_fork m p q) u x (inr h) =
    elim (among_cases x (made_spots p u) (made_spots q (u + made p)) h) [
      | inl i ↦ inr (among_left x (placed_nodes (lay p u)) (placed_nodes (lay q (u + made p))) (made_there p u x i))
      | inr i ↦ inr (among_right x (placed_nodes (lay p u)) (placed_nodes (lay q (u + made p))) (made_there q (u + made p) x i))
    ]

-- where made nodes stand
abbrev Between : ℕ → ℕ → PlacedNode → Type 0
Between lo hi x = (lo ≤ x.entry) × (x.entry < hi)

range : (p : Plan Laid) (u : ℕ) (x : PlacedNode) → Among x (made_spots p u) → Between u (u + made p) x
unfolding made made_spots
range (keep t) u x h = absurd h
range (new_last a) u x (inl h) = let e = ap (λ s. s.entry) h in (omega arith, omega arith)
range (new_last a) u x (inr h) = absurd h
range (new_leaf a p) u x (inl h) = let e = ap (λ s. s.entry) h in (omega arith, omega arith)
range (new_leaf a p) u x (inr h) = let r = range p u x h in (r.0, omega arith)
range (new_fork m p q) u x (inl h) = let e = ap (λ s. s.entry) h in (omega arith, omega arith)
range (new_fork m p q) u x (inr h) =
    elim (among_cases x (made_spots p u) (made_spots q (u + made p)) h) [
      | inl i ↦ (let r = range p u x i in (r.0, omega arith))
      | inr i ↦ (let r = range q (u + made p) x i in (omega arith, omega arith))
    ]

made_new : (old : List (List ℕ)) (p : Plan Laid) (u : ℕ) → EachMade (New old) (plain_plan p) → (x : PlacedNode) → Among x (made_spots p u) → New old x.stretch
unfolding made_spots
made_new old (keep t) u n x h = absurd h
made_new old (new_last a) u n x (inl h) = subst (New old) (sym (ap (λ s. s.stretch) h)) n
made_new old (new_last a) u n x (inr h) = absurd h
made_new old (new_leaf a p) u n x (inl h) =
    let e : x.stretch ≡ a ∷ identities (built (plain_plan p)) = ap (λ s. s.stretch) h ∙ ap (λ t. a ∷ identities t) (plain_lay p u) in
    subst (New old) (sym e) n.0
made_new old (new_leaf a p) u n x (inr h) = made_new old p u n.1 x h
made_new old (new_fork m p q) u n x (inl h) =
    let e : x.stretch ≡ identities (built (plain_plan p)) ++ identities (built (plain_plan q)) =
    ap (λ s. s.stretch) h ∙ ap₂ (λ s t. identities s ++ identities t) (plain_lay p u) (plain_lay q (u + made p)) in
    subst (New old) (sym e) n.0
made_new old (new_fork m p q) u n x (inr h) =
    elim (among_cases x (made_spots p u) (made_spots q (u + made p)) h) [
      | inl i ↦ made_new old p u n.1 x i
      | inr i ↦ made_new old q (u + made p) n.2 x i
    ]

-- every entry of the range is some made node's
reached : (p : Plan Laid) (u k : ℕ) → u ≤ k → k < u + made p → (x : PlacedNode) × Among x (made_spots p u) × (x.entry ≡ k)
unfolding made made_spots
reached (keep t) u k l h = absurd (omega arith)
reached (new_last a) u k l h = (record { stretch = a ∷ []; entry = u }, inl refl, omega arith)
reached (new_leaf a p) u k l h =
    elim (dec_lt k (u + made p)) [
      | yes i ↦ (let r = reached p u k l i in (r.0, inr r.1, r.2))
      | no i ↦ (record { stretch = a ∷ identities (plain (lay p u)); entry = u + made p }, inl refl, omega arith)
    ]
reached (new_fork m p q) u k l h =
    elim (dec_lt k (u + made p)) [
      | yes i ↦ (let r = reached p u k l i in (r.0, inr (among_left r.0 (made_spots p u) (made_spots q (u + made p)) r.1), r.2))
      | no i ↦ elim (dec_lt k (u + made p + made q)) [
        | yes j ↦ (let r = reached q (u + made p) k (omega arith) j in (r.0, inr (among_right r.0 (made_spots p u) (made_spots q (u + made p)) r.1), r.2))
        | no j ↦ (record { stretch = identities (plain (lay p u)) ++ identities (plain (lay q (u + made p))); entry = u + made p + made q }, inl refl, omega arith)
      ]
    ]

-- no two made nodes have one entry
made_own : (p : Plan Laid) (u : ℕ) (x y : PlacedNode) → Among x (made_spots p u) → Among y (made_spots p u) → x.entry ≡ y.entry → x ≡ y
unfolding made made_spots
made_own (keep t) u x y h k e = absurd h
made_own (new_last a) u x y (inl h) (inl k) e = h ∙ sym k
made_own (new_last a) u x y (inl h) (inr k) e = absurd k
made_own (new_last a) u x y (inr h) k e = absurd h
made_own (new_leaf a p) u x y (inl h) (inl k) e = h ∙ sym k
made_own (new_leaf a p) u x y (inl h) (inr k) e = let i = ap (λ s. s.entry) h in let r = range p u y k in absurd (omega arith)
made_own (new_leaf a p) u x y (inr h) (inl k) e = let i = ap (λ s. s.entry) k in let r = range p u x h in absurd (omega arith)
made_own (new_leaf a p) u x y (inr h) (inr k) e = made_own p u x y h k e
made_own (new_fork m p q) u x y (inl h) (inl k) e = h ∙ sym k
made_own (new_fork m p q) u x y (inl h) (inr k) e =
    let i = ap (λ s. s.entry) h in
    elim (among_cases y (made_spots p u) (made_spots q (u + made p)) k) [
      | inl j ↦ (let r = range p u y j in absurd (omega arith))
      | inr j ↦ (let r = range q (u + made p) y j in absurd (omega arith))
    ]
made_own (new_fork m p q) u x y (inr h) (inl k) e =
    let i = ap (λ s. s.entry) k in
    elim (among_cases x (made_spots p u) (made_spots q (u + made p)) h) [
      | inl j ↦ (let r = range p u x j in absurd (omega arith))
      | inr j ↦ (let r = range q (u + made p) x j in absurd (omega arith))
    ]
made_own (new_fork m p q) u x y (inr h) (inr k) e =
    elim (among_cases x (made_spots p u) (made_spots q (u + made p)) h) [
      | inl i ↦ elim (among_cases y (made_spots p u) (made_spots q (u + made p)) k) [
        | inl j ↦ made_own p u x y i j e
        | inr j ↦ (let r = range p u x i in let s = range q (u + made p) y j in absurd (omega arith))
      ]
      | inr i ↦ elim (among_cases y (made_spots p u) (made_spots q (u + made p)) k) [
        | inl j ↦ (let r = range q (u + made p) x i in let s = range p u y j in absurd (omega arith))
        | inr j ↦ made_own q (u + made p) x y i j e
      ]
    ]

module _ (base : Laid) (plan : Plan Laid) (u : ℕ) (own : OwnEntries base) (under : Under u base) (keeps : KeepsPlacedNodes base plan)
    (makes : EachMade (New (stretches (plain base))) (plain_plan plan)) where
  one_own : (x y : PlacedNode) → Among x (placed_nodes (lay plan u)) → Among y (placed_nodes (lay plan u)) → x.entry ≡ y.entry → x ≡ y
  one_own x y h k e =
      elim (sorted base plan u keeps x h) [
        | inl i ↦ elim (sorted base plan u keeps y k) [
          | inl j ↦ own x y i j e
          | inr j ↦ (let a = under x i in let r = range plan u y j in absurd (omega arith))
        ]
        | inr i ↦ elim (sorted base plan u keeps y k) [
          | inl j ↦ (let a = under y j in let r = range plan u x i in absurd (omega arith))
          | inr j ↦ made_own plan u x y i j e
        ]
      ]

  is_old : (x : PlacedNode) → Among x (placed_nodes (lay plan u)) → Among x.stretch (stretches (plain base)) → Among x (placed_nodes base)
  is_old x h k = elim (sorted base plan u keeps x h) [ inl i ↦ i | inr i ↦ absurd (made_new (stretches (plain base)) plan u makes x i k) ]

  is_low : (x : PlacedNode) → Among x (placed_nodes (lay plan u)) → New (stretches (plain base)) x.stretch → u ≤ x.entry
  is_low x h n = elim (sorted base plan u keeps x h) [ inl i ↦ absurd (n (placed_stretch base x i)) | inr i ↦ (range plan u x i).0 ]

  is_high : (x : PlacedNode) → Among x (placed_nodes (lay plan u)) → x.entry < u + made plan
  is_high x h = elim (sorted base plan u keeps x h) [ inl i ↦ (let a = under x i in omega arith) | inr i ↦ (range plan u x i).1 ]

  is_all : (k : ℕ) → u ≤ k → k < u + made plan → (x : PlacedNode) × Among x (placed_nodes (lay plan u)) × (x.entry ≡ k) × New (stretches (plain base)) x.stretch
  is_all k l h = let r = reached plan u k l h in (r.0, made_there plan u r.0 r.1, r.2, made_new (stretches (plain base)) plan u makes r.0 r.1)

  is_exact : u + made plan ≡ u + written (plain base) (plain (lay plan u))
  unfolding written
  is_exact =
      ap (λ n. u + n) (sym (made_plain plan) ∙ sym (written_exactly (stretches (plain base)) (plain_plan plan) (keeps_plain base plan keeps) makes)
      ∙ ap (λ t. missing (stretches (plain base)) (stretches t)) (sym (plain_lay plan u)))

pub laying_shares : LayingShares
laying_shares base plan u own under keeps makes = record {
  old = is_old base plan u own under keeps makes;
  low = is_low base plan u own under keeps makes;
  high = is_high base plan u own under keeps makes;
  all = is_all base plan u own under keeps makes;
  own = one_own base plan u own under keeps makes;
  exact = is_exact base plan u own under keeps makes;
}
