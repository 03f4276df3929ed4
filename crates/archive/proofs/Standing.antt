-- What a version that stands gives to the walks over its tree. Assumes nothing.
use Rattle.std.proofs.Common.{◌≡◌, ℕ, suc, ◌≤◌, eqb, List, [], ◌∷◌, ◌++◌, length, sym, refl, ap, ◌∙◌, subst, inl, arith, ne_eqb}
use lib.ListN.{length-map}
use Rattle.std.specs.List.{AllByRecursion}
use Rattle.std.proofs.lemmas.Bool.{cond-false}
use Rattle.summary.specs.Summing.{Summing}
use Rattle.flexlist.specs.Shape.{FlexList, Tree}
use Rattle.flexlist.specs.Nodes.{identities, leaves, Among}
use Rattle.flexlist.proofs.Shape.{flex_identities, lead, tail_of, lead_tail}
use Rattle.flexlist.proofs.Places.{long_enough}
use Rattle.flexlist.specs.Laid.{Laid, last, leaf, fork, plain, root, leader}
use Rattle.flexlist.specs.Shared.{PlacedNode, placed_nodes, Under}
use Rattle.flexlist.specs.Edits.{Content, lead as lead_content, Item, Edit, Known, blocks_of, content_of, identities_of}
use Rattle.flexlist.proofs.EditBounds.{ids_blocks}
use Rattle.nodes.specs.declared.node.Node.{Node}
use Rattle.nodes.specs.Holding.{Holds, BlocksAfter, Counted, own_blocks}
use Rattle.nodes.specs.Walking.{Ready}
use Rattle.questions.specs.Storing.{Stored, AllStored}
use Rattle.archive.specs.Stands.{WithinLimits, RowsStand}

module _ {R : Type 0} where
  pub content_lead : (es : List (Edit R)) → content_of es 0 ≡ lead_content
  content_lead [] = refl
  content_lead (e ∷ es) = cond-false (eqb 0 (suc (length es))) _ _ (ne_eqb 0 (suc (length es)) (λ h. omega arith)) ∙ content_lead es

  -- the identities of a version's tree: the lead's, then its blocks'
  pub tree_ids : (xs : List (Item R)) (t : Tree) → FlexList 0 (blocks_of xs) t → identities t ≡ 0 ∷ identities_of xs
  tree_ids xs t f = flex_identities f ∙ ap (λ l. 0 ∷ l) (ids_blocks xs)

  module _ (es : List (Edit R)) (P : Content R → Type 0) where
    -- what holds of each block's content holds of what its identity stands for
    pub known_all : (xs : List (Item R)) → AllByRecursion (Known es) xs → AllByRecursion (λ x. P x.content) xs → AllByRecursion (λ i. P (content_of es i)) (identities_of xs)
    known_all [] k h = tt
    known_all (x ∷ xs) k h = (subst P (sym k.0.holds) h.0, known_all xs k.1 h.1)

module _ {R : Type 0} (rows : List (List R)) (c : ℕ → Content R) where
  all_left : (P : ℕ → Type 0) (as' bs : List ℕ) → AllByRecursion P (as' ++ bs) → AllByRecursion P as'
  all_left P [] bs h = tt
  all_left P (a ∷ as') bs h = (h.0, all_left P as' bs h.1)

  all_right : (P : ℕ → Type 0) (as' bs : List ℕ) → AllByRecursion P (as' ++ bs) → AllByRecursion P bs
  all_right P [] bs h = h
  all_right P (a ∷ as') bs h = all_right P as' bs h.1

  pub tree_stored : (t : Laid) → AllByRecursion (λ i. Stored rows (c i)) (identities (plain t)) → AllStored rows c t
  tree_stored (last e a) h = h.0
  tree_stored (leaf e a t) h = (h.0, tree_stored t h.1)
  tree_stored (fork e m x y) h =
      (tree_stored x (all_left (λ i. Stored rows (c i)) (identities (plain x)) (identities (plain y)) h), tree_stored y (all_right (λ i. Stored rows (c i)) (identities (plain x)) (identities (plain y)) h))

  abbrev Solid : ℕ → Type 0
  Solid i = 1 ≤ length (c i).row

  leader_first : (t : Laid) (P : ℕ → Type 0) → AllByRecursion P (identities (plain t)) → P (leader t)
  leader_first (last e a) P h = h.0
  leader_first (leaf e a t) P h = h.0
  leader_first (fork e m x y) P h = leader_first x P (all_left P (identities (plain x)) (identities (plain y)) h)

  all_solid : (t : Laid) → AllByRecursion Solid (identities (plain t)) → BlocksAfter c t
  all_solid (last e a) h = tt
  all_solid (leaf e a t) h = (leader_first t Solid h.1, all_solid t h.1)
  all_solid (fork e m x y) h =
      let p = all_left Solid (identities (plain x)) (identities (plain y)) h in
      let q = all_right Solid (identities (plain x)) (identities (plain y)) h in
      (all_solid x p, leader_first y Solid q, all_solid y q)

  pub rest_solid : (t : Laid) → AllByRecursion Solid (tail_of (plain t)) → BlocksAfter c t
  unfolding tail_of
  rest_solid (last e a) h = tt
  rest_solid (leaf e a t) h = (leader_first t Solid h, all_solid t h)
  rest_solid (fork e m x y) h =
      let p = all_left Solid (tail_of (plain x)) (identities (plain y)) h in
      let q = all_right Solid (tail_of (plain x)) (identities (plain y)) h in
      (rest_solid x p, leader_first y Solid q, all_solid y q)

pub leader_lead : (t : Laid) → leader t ≡ lead (plain t)
unfolding lead
leader_lead (last e a) = refl
leader_lead (leaf e a t) = refl
leader_lead (fork e m x y) = leader_lead x

pub root_spot : (t : Laid) → (x : PlacedNode) × Among x (placed_nodes t) × (x.entry ≡ root t)
root_spot (last e a) = (record { stretch = a ∷ []; entry = e }, inl refl, refl)
root_spot (leaf e a t) = (record { stretch = a ∷ identities (plain t); entry = e }, inl refl, refl)
root_spot (fork e m x y) = (record { stretch = identities (plain x) ++ identities (plain y); entry = e }, inl refl, refl)

-- a list of known blocks within the limits, and its laid tree
module _ {R : Type 0} (es : List (Edit R)) (xs : List (Item R)) (t : Laid) (shaped : FlexList 0 (blocks_of xs) (plain t)) (known : AllByRecursion (Known es) xs) (in_limits : AllByRecursion WithinLimits xs) (many : length xs ≤ 500) where
  ids : identities (plain t) ≡ 0 ∷ identities_of xs
  ids = tree_ids xs (plain t) shaped

  -- the lead leads it
  pub led : leader t ≡ 0
  led = let e : lead (plain t) ∷ tail_of (plain t) ≡ 0 ∷ identities_of xs = sym (lead_tail (plain t)) ∙ ids in
      leader_lead t ∙ cc

  rest_is : tail_of (plain t) ≡ identities_of xs
  rest_is = let e : lead (plain t) ∷ tail_of (plain t) ≡ 0 ∷ identities_of xs = sym (lead_tail (plain t)) ∙ ids in cc

  pub lead_empty : own_blocks (length (content_of es (leader t)).row) ≡ 0
  lead_empty = ap (λ i. own_blocks (length (content_of es i).row)) led ∙ ap (λ k. own_blocks (length k.row)) (content_lead es)

  pub leaves_are : leaves (plain t) ≡ suc (length xs)
  leaves_are = long_enough shaped ∙ ap suc (length-map xs _)

  fair_solid : (ys : List (Item R)) → AllByRecursion WithinLimits ys → AllByRecursion (λ x. 1 ≤ length x.content.row) ys
  fair_solid [] h = tt
  fair_solid (y ∷ ys) h = (h.0.some, fair_solid ys h.1)

  pub counted : Counted (content_of es) t
  counted =
      let few = many in
      let n = leaves_are in
      record {
        solid = rest_solid [] (content_of es) t (subst (AllByRecursion (λ i. 1 ≤ length (content_of es i).row)) (sym rest_is)
            (known_all es (λ k. 1 ≤ length k.row) xs known (fair_solid xs in_limits)));
        few = omega arith;
      }

  always_stored : (rows : List (List R)) (ys : List (Item R)) → RowsStand rows ys → AllByRecursion (λ x. Stored rows x.content) ys
  always_stored rows [] h = tt
  always_stored rows (y ∷ ys) h = ((λ _. h.0), always_stored rows ys h.1)

  lead_stored : (rows : List (List R)) → Stored rows (content_of es 0)
  lead_stored rows = subst (Stored rows) (sym (content_lead es)) (λ h. absurd (omega arith))

  pub in_store : (rows : List (List R)) → RowsStand rows xs → AllStored rows (content_of es) t
  in_store rows h = tree_stored rows (content_of es) t (subst (AllByRecursion (λ i. Stored rows (content_of es i))) (sym ids)
      (lead_stored rows, known_all es (Stored rows) xs known (always_stored rows xs h)))

  pub ready : {Q : Type 0} (means : Summing R Q) (nodes : List (Node Q)) (used : ℕ) → Holds means (content_of es) nodes t → Under used t
      → Ready means (content_of es) nodes used (root t) t
  ready means nodes used h u =
      let x = root_spot t in
      let l = u x.0 x.1 in
      let i = x.2 in
      record { holds = h; here = refl; under = omega arith; counted = counted }
