-- What an edit writes, after any history. Assumes nothing.
use Rattle.std.proofs.Common.{◌≡◌, ℕ, zero, suc, ◌+◌, ◌<◌, ◌≤◌, List, [], ◌∷◌, ◌++◌, map, length, take, drop, sym, refl, ap, ◌∙◌, subst, inl, inr, add-one, arith, take-append-drop, length-take, drop-drop}
use lib.ListN.{length-map}
use Rattle.std.proofs.lemmas.List.{map-append}
use Rattle.flexlist.specs.Shape.{block, FlexList}
use Rattle.flexlist.specs.Nodes.{identities, nodes, nodes_of_both, to_place, Among}
use Rattle.flexlist.specs.Sharing.{written}
use Rattle.flexlist.proofs.Bounds.{insert_bound, removal_bound}
use Rattle.flexlist.proofs.Exact.{change_bound}
use Rattle.flexlist.proofs.Shape.{exactly_one, flex_identities}
use Rattle.std.specs.List.{AllByRecursion}
use Rattle.flexlist.specs.Edits.{Known, Item, Edit, insert, change, removal, first_changed, list_of, blocks_of, identities_of}
use Rattle.flexlist.specs.Replay.{shape, path, two_paths, written_by, EditsBounded}
use Rattle.flexlist.proofs.Sound.{version_sound, fresh}

module _ {R : Type 0} where
  pub shape_is : (xs : List (Item R)) → FlexList 0 (blocks_of xs) (shape xs)
  unfolding shape
  shape_is xs = (exactly_one 0 (blocks_of xs)).is

  -- a version's shape, of a list that is known in two parts
  pub shape_at : (xs as' bs : List (Item R)) → xs ≡ as' ++ bs → FlexList 0 (blocks_of as' ++ blocks_of bs) (shape xs)
  shape_at xs as' bs e =
      subst (λ l. FlexList 0 l (shape xs)) (ap blocks_of e ∙ map-append (λ x. block x.identity x.level) as' bs) (shape_is xs)

  blocks_length : (xs : List (Item R)) → length (blocks_of xs) ≡ length xs
  blocks_length xs = length-map xs (λ x. block x.identity x.level)

  pub front_length : (p : ℕ) (xs : List (Item R)) → p ≤ length xs → length (blocks_of (take p xs)) ≡ p
  front_length p xs h = blocks_length (take p xs) ∙ length-take p xs ∙ omega arith

  pub ids_blocks : (xs : List (Item R)) → map (λ b. b.identity) (blocks_of xs) ≡ identities_of xs
  ids_blocks [] = refl
  ids_blocks (x ∷ xs) = ap (λ l. x.identity ∷ l) (ids_blocks xs)

  -- a new identity is none of a version's, the lead's neither
  not_among : (es : List (Edit R)) (v : ℕ) → Among (suc (length es)) (identities (shape (list_of es v))) → ⊥
  not_among es v h =
      let xs = list_of es v in
      let ids : identities (shape xs) ≡ 0 ∷ identities_of xs = flex_identities (shape_is xs) ∙ ap (λ l. 0 ∷ l) (ids_blocks xs) in
      cases xs (version_sound es v).known (subst (Among (suc (length es))) ids h)
    where
      cases : (xs : List (Item R)) → AllByRecursion (Known es) xs → Among (suc (length es)) (0 ∷ identities_of xs) → ⊥
      cases xs k (inl e) = omega arith
      cases xs k (inr a) = fresh es xs k a

  -- the first of what is left at a place
  pub first_of : (p : ℕ) (xs : List (Item R)) → p < length xs → (x : Item R) × (ys : List (Item R)) × (drop p xs ≡ x ∷ ys)
  first_of p [] h = absurd (omega arith)
  first_of zero (x ∷ xs) h = (x, xs, refl)
  first_of (suc p) (x ∷ xs) h = first_of p xs (omega arith)

  pub edits_bounded : EditsBounded R
  unfolding written_by path two_paths
  edits_bounded es (insert base p k c) h =
      let xs = list_of es base in
      let n = suc (length es) in
      let x : Item R = record { identity = n; level = k; content = c } in
      let bound = insert_bound 0 (blocks_of (take p xs)) (blocks_of (drop p xs)) (block n k) (shape xs) (shape (take p xs ++ (x ∷ drop p xs)))
      (shape_at xs (take p xs) (drop p xs) (sym (take-append-drop p xs))) (shape_at _ (take p xs) (x ∷ drop p xs) refl) in
      subst (λ q. written (shape xs) (shape (take p xs ++ (x ∷ drop p xs))) ≤ nodes (to_place (shape xs) q) + 2) (front_length p xs h) bound
  edits_bounded es (change base p c) h =
      let xs = list_of es base in
      let n = suc (length es) in
      let f = first_of p xs h in
      let x : Item R = record { identity = n; level = f.0.level; content = c } in
      let new : take p xs ++ first_changed n c (drop p xs) ≡ take p xs ++ (x ∷ f.1) = ap (λ l. take p xs ++ first_changed n c l) f.2 in
      let bound = change_bound 0 (blocks_of (take p xs)) (blocks_of f.1) (block f.0.identity f.0.level) (block n f.0.level) (shape xs) (shape (take p xs ++ first_changed n c (drop p xs)))
      (shape_at xs (take p xs) (f.0 ∷ f.1) (sym (take-append-drop p xs) ∙ ap (λ l. take p xs ++ l) f.2)) (shape_at _ (take p xs) (x ∷ f.1) new) refl (not_among es base) in
      bound ∙ ap (λ q. nodes (to_place (shape xs) (suc q))) (front_length p xs (omega arith))
  edits_bounded es (removal base p) h =
      let xs = list_of es base in
      let f = first_of p xs h in
      let rest : drop (suc p) xs ≡ f.1 = sym (drop-drop 1 p xs ∙ ap (λ n. drop n xs) (add-one p)) ∙ ap (drop 1) f.2 in
      let bound = removal_bound 0 (blocks_of (take p xs)) (blocks_of f.1) (block f.0.identity f.0.level) (shape xs) (shape (take p xs ++ drop (suc p) xs))
      (shape_at xs (take p xs) (f.0 ∷ f.1) (sym (take-append-drop p xs) ∙ ap (λ l. take p xs ++ l) f.2)) (shape_at _ (take p xs) f.1 (ap (λ l. take p xs ++ l) rest)) in
      subst (λ q. written (shape xs) (shape (take p xs ++ drop (suc p) xs)) < nodes_of_both (to_place (shape xs) q) (to_place (shape xs) (suc q))) (front_length p xs (omega arith)) bound
