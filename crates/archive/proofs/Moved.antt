-- A table that keeps the entries of a tree still holds it, also where contents of other identities have changed. Assumes nothing.
use Rattle.std.proofs.Common.{◌≡◌, ℕ, List, Some, None, sym, refl, ap, ◌∙◌, ap₂, inl, inr}
use Rattle.std.specs.List.{slice_get}
use Rattle.summary.specs.Summing.{Summing}
use Rattle.flexlist.specs.Nodes.{identities, Among}
use Rattle.flexlist.proofs.Lists.{among_left, among_right}
use Rattle.flexlist.specs.Laid.{Laid, last, leaf, fork, plain, root}
use Rattle.flexlist.specs.Shared.{PlacedNode, placed_nodes}
use Rattle.flexlist.specs.Edits.{Content}
use Rattle.nodes.specs.declared.node.Node.{Node}
use Rattle.nodes.specs.Holding.{node_of, Holds, leaf_node, fork_node}

module _ {R Q : Type 0} (s : Summing R Q) (c d : ℕ → Content R) where
  -- both say the same of the blocks of a tree
  abbrev pub Agree : Laid → Type 0
  Agree t = (i : ℕ) → Among i (identities (plain t)) → d i ≡ c i

  pub node_agree : (t : Laid) → Agree t → node_of s d t ≡ node_of s c t
  unfolding node_of
  node_agree (last e a) h = ap (λ k. leaf_node s k None) (h a (inl refl))
  node_agree (leaf e a t) h =
      ap₂ (λ k n. leaf_node s k (Some (root t, n))) (h a (inl refl)) (node_agree t (λ i k. h i (inr k)))
  node_agree (fork e m x y) h =
      ap₂ (λ n k. fork_node s m (root x, n) (root y, k)) (node_agree x (λ i k. h i (among_left i (identities (plain x)) (identities (plain y)) k)))
      (node_agree y (λ i k. h i (among_right i (identities (plain x)) (identities (plain y)) k)))

  -- the entries of a tree stay
  abbrev pub Stay : List (Node Q) → List (Node Q) → Laid → Type 0
  Stay before after t = (x : PlacedNode) → Among x (placed_nodes t) → slice_get after x.entry ≡ slice_get before x.entry

  pub holds_moved : (before after : List (Node Q)) (t : Laid) → Agree t → Stay before after t → Holds s c before t → Holds s d after t
  holds_moved before after (last e a) h k p = k _ (inl refl) ∙ p ∙ ap Some (sym (node_agree (last e a) h))
  holds_moved before after (leaf e a t) h k p =
      (k _ (inl refl) ∙ p.0 ∙ ap Some (sym (node_agree (leaf e a t) h)), p.1, holds_moved before after t (λ i q. h i (inr q)) (λ x q. k x (inr q)) p.2)
  holds_moved before after (fork e m x y) h k p = (
    k _ (inl refl) ∙ p.0 ∙ ap Some (sym (node_agree (fork e m x y) h)),
    p.1,
    p.2,
    holds_moved before after x (λ i q. h i (among_left i (identities (plain x)) (identities (plain y)) q)) (λ z q. k z (inr (among_left z (placed_nodes x) (placed_nodes y) q))) p.3,
    holds_moved before after y (λ i q. h i (among_right i (identities (plain x)) (identities (plain y)) q)) (λ z q. k z (inr (among_right z (placed_nodes x) (placed_nodes y) q))) p.4,
  )
