-- A plan for an edit, laid into the free entries, is by the sharing rule the tree of the version that the edit gives. Assumes nothing.
use Rattle.std.proofs.Common.{◌≡◌, ℕ, suc, ◌+◌, ◌<◌, ◌≤◌, List, [], ◌∷◌, ◌++◌, length, take, drop, sym, refl, ap, ◌∙◌, subst, ap₂, inl, inr, add-one, arith, take-append-drop, drop-drop}
use Rattle.std.specs.List.{AllByRecursion}
use Rattle.std.proofs.lemmas.List.{map-append}
use Rattle.flexlist.specs.Shape.{block, Tree, FlexList}
use Rattle.flexlist.specs.Nodes.{identities, stretches, to_place, Among, Distinct}
use Rattle.flexlist.specs.Sharing.{written}
use Rattle.flexlist.specs.Building.{Plan, made, built, New, EachMade, Builds, insert as insert_plan, change as change_plan, remove as remove_plan, Gap, to_this}
use Rattle.flexlist.proofs.Exact.{insert_builds, change_builds, removal_builds}
use Rattle.flexlist.proofs.Shape.{exactly_one}
use Rattle.flexlist.specs.Laid.{Laid, plain, plain_plan, lay}
use Rattle.flexlist.specs.Shared.{OwnEntries, Under, Shared, KeepsPlacedNodes}
use Rattle.flexlist.proofs.PlacedNodes.{plain_lay}
use Rattle.flexlist.proofs.Laying.{laying_shares}
use Rattle.flexlist.specs.Edits.{Content, Item, Edit, Known, insert, change, removal, base_of, first_changed, list_of, blocks_of, identities_of}
use Rattle.flexlist.specs.Replay.{shape, written_by, next_list}
use Rattle.flexlist.proofs.Sound.{version_sound, fresh}
use Rattle.flexlist.proofs.EditBounds.{shape_is, front_length, first_of}
use Rattle.archive.proofs.Standing.{tree_ids}

module _ {R : Type 0} where
  -- a plan over a base's laid tree that gives the version of an edit, keeps the base's nodes at their entries, and makes only what the base lacks
  pub record PlanFor (es : List (Edit R)) (e : Edit R) (b : Laid) (plan : Plan Laid) : Type 0 where
    pub gives : FlexList 0 (blocks_of (next_list es e)) (built (plain_plan plan))
    pub keeps : KeepsPlacedNodes b plan
    pub makes : EachMade (New (stretches (plain b))) (plain_plan plan)

  -- two FlexLists of one list are one tree
  pub same_shape : (xs : List (Item R)) (t : Tree) → FlexList 0 (blocks_of xs) t → t ≡ shape xs
  same_shape xs t f = let o = exactly_one 0 (blocks_of xs) in o.only t f ∙ sym (o.only (shape xs) (shape_is xs))

  module _ (es : List (Edit R)) (e : Edit R) (b : Laid) (plan : Plan Laid) (u : ℕ) (base : FlexList 0 (blocks_of (list_of es (base_of e))) (plain b)) (own : OwnEntries b) (under : Under u b) (p : PlanFor es e b plan) where
    pub laid_shape : FlexList 0 (blocks_of (next_list es e)) (plain (lay plan u))
    laid_shape = subst (FlexList 0 (blocks_of (next_list es e))) (sym (plain_lay plan u)) p.gives

    pub made_written : made plan ≡ written_by es e
    unfolding written_by
    made_written =
        let s = laying_shares b plan u own under p.keeps p.makes in
        let exact : made plan ≡ written (plain b) (plain (lay plan u)) = let x = s.exact in omega arith in
        exact ∙ ap₂ written (same_shape (list_of es (base_of e)) (plain b) base) (same_shape (next_list es e) (plain (lay plan u)) laid_shape)

    pub laid_shared : Shared b (lay plan u) u (u + written_by es e)
    laid_shared = subst (λ n. Shared b (lay plan u) u (u + n)) made_written (laying_shares b plan u own under p.keeps p.makes)

  -- the identities of a tree of a version are distinct, and a new one is none of them
  tree_distinct : (es : List (Edit R)) (v : ℕ) (t : Tree) → FlexList 0 (blocks_of (list_of es v)) t → Distinct (suc (length es) ∷ identities t)
  tree_distinct es v t f =
      let s = version_sound es v in
      subst (λ l. Distinct (suc (length es) ∷ l)) (sym (tree_ids (list_of es v) t f)) (new (list_of es v) s.known, (lead_apart (list_of es v) s.known, s.apart))
    where
      new : (xs : List (Item R)) → AllByRecursion (Known es) xs → Among (suc (length es)) (0 ∷ identities_of xs) → ⊥
      new xs k (inl h) = omega arith
      new xs k (inr h) = fresh es xs k h

      lead_apart : (xs : List (Item R)) → AllByRecursion (Known es) xs → Among 0 (identities_of xs) → ⊥
      lead_apart [] k h = h
      lead_apart (x ∷ xs) k (inl h) = let g = k.0.some in omega arith
      lead_apart (x ∷ xs) k (inr h) = lead_apart xs k.1 h

  blocks_append : (xs as' bs : List (Item R)) → xs ≡ as' ++ bs → blocks_of xs ≡ blocks_of as' ++ blocks_of bs
  blocks_append xs as' bs e = ap blocks_of e ∙ map-append (λ x. block x.identity x.level) as' bs

  module _ (es : List (Edit R)) (base place : ℕ) (b : Laid) (plan : Plan Laid) (f : FlexList 0 (blocks_of (list_of es base)) (plain b)) (keeps : KeepsPlacedNodes b plan) where
    xs : List (Item R)
    xs = list_of es base

    n : ℕ
    n = suc (length es)

    planned_by : (e : Edit R) (q : Plan Tree) (apart : Type 0) → apart → plain_plan plan ≡ q → Builds 0 (blocks_of (next_list es e)) (plain b) apart q → PlanFor es e b plan
    planned_by e q apart a same g = record {
      gives = subst (λ x. FlexList 0 (blocks_of (next_list es e)) (built x)) (sym same) g.gives;
      keeps = keeps;
      makes = subst (EachMade (New (stretches (plain b)))) (sym same) (g.makes_new a);
    }

    pub insert_planned : (level : ℕ) (c : Content R) → place ≤ length (list_of es base) → plain_plan plan ≡ insert_plan (suc (length es)) level (to_place (plain b) place) → PlanFor es (insert base place level c) b plan
    unfolding xs n
    insert_planned level c h same =
        let x : Item R = record { identity = n; level = level; content = c } in
        let g = insert_builds 0 (blocks_of (take place xs)) (blocks_of (drop place xs)) (block n level) (plain b)
        (subst (λ l. FlexList 0 l (plain b)) (blocks_append xs (take place xs) (drop place xs) (sym (take-append-drop place xs))) f) in
        let at : to_place (plain b) (length (blocks_of (take place xs))) ≡ to_place (plain b) place = ap (to_place (plain b)) (front_length place xs h) in
        planned_by (insert base place level c) (insert_plan n level (to_place (plain b) (length (blocks_of (take place xs))))) (Distinct (n ∷ identities (plain b))) (tree_distinct es base (plain b) f)
        (same ∙ ap (insert_plan n level) (sym at))
        (subst (λ l. Builds 0 l (plain b) (Distinct (n ∷ identities (plain b))) (insert_plan n level (to_place (plain b) (length (blocks_of (take place xs)))))) (sym (blocks_append _ (take place xs) (x ∷ drop place xs) refl)) g)

    pub change_planned : (c : Content R) → place < length (list_of es base) → plain_plan plan ≡ change_plan (suc (length es)) (to_place (plain b) (suc place)) → PlanFor es (change base place c) b plan
    unfolding xs n
    change_planned c h same =
        let k = first_of place xs h in
        let x : Item R = record { identity = n; level = k.0.level; content = c } in
        let split : xs ≡ take place xs ++ (k.0 ∷ k.1) = sym (take-append-drop place xs) ∙ ap (λ l. take place xs ++ l) k.2 in
        let new : take place xs ++ first_changed n c (drop place xs) ≡ take place xs ++ (x ∷ k.1) = ap (λ l. take place xs ++ first_changed n c l) k.2 in
        let g = change_builds 0 (blocks_of (take place xs)) (blocks_of k.1) (block k.0.identity k.0.level) (block n k.0.level) (plain b)
        (subst (λ l. FlexList 0 l (plain b)) (blocks_append xs (take place xs) (k.0 ∷ k.1) split) f) refl in
        let at : to_place (plain b) (suc (length (blocks_of (take place xs)))) ≡ to_place (plain b) (suc place) = ap (λ q. to_place (plain b) (suc q)) (front_length place xs (omega arith)) in
        planned_by (change base place c) (change_plan n (to_place (plain b) (suc (length (blocks_of (take place xs)))))) (Among n (identities (plain b)) → ⊥) (tree_distinct es base (plain b) f).0
        (same ∙ ap (change_plan n) (sym at))
        (subst (λ l. Builds 0 l (plain b) (Among n (identities (plain b)) → ⊥) (change_plan n (to_place (plain b) (suc (length (blocks_of (take place xs))))))) (sym (blocks_append _ (take place xs) (x ∷ k.1) new)) g)

    pub removal_planned : place < length (list_of es base) → ((g : Gap (plain b)) → to_this g ≡ to_place (plain b) (suc place) → plain_plan plan ≡ remove_plan g) → PlanFor es (removal base place) b plan
    unfolding xs n
    removal_planned h same =
        let k = first_of place xs h in
        let split : xs ≡ take place xs ++ (k.0 ∷ k.1) = sym (take-append-drop place xs) ∙ ap (λ l. take place xs ++ l) k.2 in
        let rest : drop (suc place) xs ≡ k.1 = sym (drop-drop 1 place xs ∙ ap (λ q. drop q xs) (add-one place)) ∙ ap (drop 1) k.2 in
        let g = removal_builds 0 (blocks_of (take place xs)) (blocks_of k.1) (block k.0.identity k.0.level) (plain b)
        (subst (λ l. FlexList 0 l (plain b)) (blocks_append xs (take place xs) (k.0 ∷ k.1) split) f) in
        let at : to_this g.gap ≡ to_place (plain b) (suc place) = g.this ∙ ap (λ q. to_place (plain b) (suc q)) (front_length place xs (omega arith)) in
        planned_by (removal base place) (remove_plan g.gap) (Distinct (identities (plain b))) (tree_distinct es base (plain b) f).1
        (same g.gap at)
        (subst (λ l. Builds 0 l (plain b) (Distinct (identities (plain b))) (remove_plan g.gap)) (sym (blocks_append _ (take place xs) k.1 (ap (λ l. take place xs ++ l) rest))) g.builds)
