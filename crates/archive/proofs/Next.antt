-- The tables of an archive after one accepted edit more. Assumes nothing.
use Rattle.std.proofs.Common.{◌≡◌, ℕ, suc, ◌+◌, ◌<◌, ◌≤◌, List, [], ◌∷◌, ◌++◌, length, Some, sym, ap, ◌∙◌, subst, inl, inr, add-one, arith, length-append}
use Rattle.std.proofs.lemmas.Option.{slice_get_within}
use Rattle.std.specs.List.{slice_get, AllByRecursion}
use Rattle.summary.specs.Summing.{Summing}
use Rattle.flexlist.specs.Shape.{FlexList}
use Rattle.flexlist.specs.Nodes.{identities, Among}
use Rattle.flexlist.proofs.Shape.{flex_identities}
use Rattle.flexlist.specs.Laid.{Laid, plain, root}
use Rattle.flexlist.specs.Shared.{Shared}
use Rattle.flexlist.specs.Edits.{Item, Edit, Known, base_of, list_of, blocks_of, content_of, identities_of}
use Rattle.flexlist.specs.Replay.{node_count, written_by}
use Rattle.flexlist.proofs.Sound.{version_sound}
use Rattle.flexlist.proofs.EditBounds.{ids_blocks}
use Rattle.archive.specs.Records.{edit_of, edits_before}
use Rattle.archive.specs.Stands.{Tables, WithinLimits, VersionStands, TablesStand}
use Rattle.archive.specs.Steps.{MadeNext, StepsStand}
use Rattle.archive.proofs.Later.{older_or_new, nth_front, nth_end, same_some, list_later, list_new, content_later, edit_later, before_later, edit_new, before_new, edit_past, record_later, record_new}
use Rattle.archive.proofs.Moved.{Agree, holds_moved}

module _ {R Q : Type 0} (means : Summing R Q) where
  -- identities of a version were all given by its history
  given_by : (es : List (Edit R)) (xs : List (Item R)) → AllByRecursion (Known es) xs → (i : ℕ) → Among i (0 ∷ identities_of xs) → i ≤ length es
  given_by es xs k i (inl h) = omega arith
  given_by es [] k i (inr h) = absurd h
  given_by es (x ∷ xs) k i (inr (inl h)) = let g = k.0.given in omega arith
  given_by es (x ∷ xs) k i (inr (inr h)) = given_by es xs k.1 i (inr h)

  pub agree_later : (e : Edit R) (es : List (Edit R)) (v : ℕ) (t : Laid) → FlexList 0 (blocks_of (list_of es v)) (plain t) → Agree means (content_of es) (content_of (e ∷ es)) t
  agree_later e es v t f i h =
      let ids : identities (plain t) ≡ 0 ∷ identities_of (list_of es v) = flex_identities f ∙ ap (λ l. 0 ∷ l) (ids_blocks (list_of es v)) in
      content_later e es i (given_by es (list_of es v) (version_sound es v).known i (subst (Among i) ids h))

  module _ (es : List (Edit R)) (s : Tables Q) (e : Edit R) (b t : Laid) (next : Tables Q) (st : TablesStand means es s) (found : slice_get st.trees (base_of e) ≡ Some b) (m : MadeNext means es s e b t next) where
    -- an older version still stands
    older_stands : (v : ℕ) (o : Laid) → v ≤ length es → slice_get st.trees v ≡ Some o → VersionStands means (e ∷ es) next v o
    older_stands v o h q =
        let w = st.each v o q in
        let same = list_later e es v h in
        let n = st.counted in
        let low : v < s.count = omega arith in
        let more = m.free_only.more in
        record {
          shaped = subst (λ l. FlexList 0 (blocks_of l) (plain o)) (sym same) w.shaped;
          holds = holds_moved means (content_of es) (content_of (e ∷ es)) s.nodes next.nodes o (agree_later e es v o w.shaped) (λ x k. m.free_only.kept x.entry (w.under x k)) w.holds;
          own = w.own;
          under = λ x k. let u = w.under x k in omega arith;
          recorded = m.versions_kept v low ∙ w.recorded ∙ ap Some (sym (record_later e es v (root o) h));
          in_limits = subst (AllByRecursion WithinLimits) (sym same) w.in_limits;
          few = subst (λ l. length l ≤ 500) (sym same) w.few;
        }

    new_stands : VersionStands means (e ∷ es) next (suc (length es)) t
    new_stands =
        let new = list_new e es in
        let u = m.used_up in
        record {
          shaped = subst (λ l. FlexList 0 (blocks_of l) (plain t)) (sym new) m.shaped;
          holds = m.holds;
          own = m.shared.own;
          under = λ x k. let h = m.shared.high x k in omega arith;
          recorded = ap (slice_get next.versions) (sym st.counted) ∙ m.version_new ∙ ap Some (sym (record_new e es (root t)));
          in_limits = subst (AllByRecursion WithinLimits) (sym new) m.in_limits;
          few = subst (λ l. length l ≤ 500) (sym new) m.few;
        }

    all_trees : List Laid
    all_trees = st.trees ++ (t ∷ [])

    tree_older : (v : ℕ) → v ≤ length es → slice_get all_trees v ≡ slice_get st.trees v
    unfolding all_trees
    tree_older v h = let n = st.as_many in nth_front st.trees (t ∷ []) v (omega arith)

    tree_new : slice_get all_trees (suc (length es)) ≡ Some t
    unfolding all_trees
    tree_new = nth_end st.trees t (suc (length es)) (sym st.as_many)

    how_many : length all_trees ≡ suc (suc (length es))
    unfolding all_trees
    how_many = length-append st.trees (t ∷ []) ∙ add-one (length st.trees) ∙ ap suc st.as_many

    in_reach : (v : ℕ) (o : Laid) → slice_get all_trees v ≡ Some o → v ≤ suc (length es)
    in_reach v o q = let w = slice_get_within all_trees v o q in let n = how_many in omega arith

    each_next : (v : ℕ) (o : Laid) → slice_get all_trees v ≡ Some o → VersionStands means (e ∷ es) next v o
    each_next v o q =
        elim (older_or_new es v (in_reach v o q)) [
          | inl h ↦ older_stands v o h (sym (tree_older v h) ∙ q)
          | inr h ↦ subst (λ k. VersionStands means (e ∷ es) next k o) (sym h)
              (subst (VersionStands means (e ∷ es) next (suc (length es))) (same_some t o (sym tree_new ∙ ap (slice_get all_trees) (sym h) ∙ q)) new_stands)
        ]

    older_next : (v : ℕ) (f : Edit R) → edit_of (e ∷ es) v ≡ Some f → base_of f < v
    older_next v f q =
        elim (older_or_new es v (edit_past (e ∷ es) v f q)) [
          | inl h ↦ st.older v f (sym (edit_later e es v h) ∙ q)
          | inr h ↦ (let same : e ≡ f = same_some e f (sym (edit_new e es) ∙ ap (edit_of (e ∷ es)) (sym h) ∙ q) in
              let n = st.counted in
              let l = m.base in
              subst (λ g. base_of g < v) same (omega arith))
        ]

    abbrev Rule : List (Edit R) → Edit R → Laid → Laid → Type 0
    Rule past f p o = Shared p o (node_count past) (node_count past + written_by past f)

    shared_next : (v : ℕ) (f : Edit R) (o p : Laid) → edit_of (e ∷ es) v ≡ Some f → slice_get all_trees v ≡ Some o → slice_get all_trees (base_of f) ≡ Some p → Rule (edits_before (e ∷ es) v) f p o
    shared_next v f o p q a c =
        elim (older_or_new es v (edit_past (e ∷ es) v f q)) [
          | inl h ↦ (let q' = sym (edit_later e es v h) ∙ q in
              let l = st.older v f q' in
              subst (λ past. Rule past f p o) (sym (before_later e es v h)) (st.shared v f o p q' (sym (tree_older v h) ∙ a) (sym (tree_older (base_of f) (omega arith)) ∙ c)))
          | inr h ↦ (let same : e ≡ f = same_some e f (sym (edit_new e es) ∙ ap (edit_of (e ∷ es)) (sym h) ∙ q) in
              let tree : t ≡ o = same_some t o (sym tree_new ∙ ap (slice_get all_trees) (sym h) ∙ a) in
              let n = st.counted in
              let l = m.base in
              let under : base_of e ≤ length es = omega arith in
              let from : b ≡ p = same_some b p (sym found ∙ sym (tree_older (base_of e) under) ∙ ap (λ g. slice_get all_trees (base_of g)) same ∙ c) in
              let rule : Rule es e b t = subst (λ u. Shared b t u (u + written_by es e)) st.used_up m.shared in
              let at_f : Rule es f b t = subst (λ g. Rule es g b t) same rule in
              let at_p : Rule es f p t = subst (λ x. Rule es f x t) from at_f in
              let at_o : Rule es f p o = subst (Rule es f p) tree at_p in
              subst (λ past. Rule past f p o) (sym (ap (edits_before (e ∷ es)) h ∙ before_new e es)) at_o)
        ]

    pub stands_next : TablesStand means (e ∷ es) next
    unfolding node_count
    stands_next = record {
      trees = all_trees;
      as_many = how_many;
      counted = m.counted ∙ ap suc st.counted;
      used_up = m.used_up ∙ ap (λ n. n + written_by es e) st.used_up;
      nodes_fit = m.nodes_fit;
      versions_fit = m.versions_fit;
      each = each_next;
      older = older_next;
      shared = shared_next;
    }

-- one accepted edit more
pub steps_stand : {R Q : Type 0} (means : Summing R Q) → StepsStand means
steps_stand means es s e b t next st found m = stands_next means es s e b t next st found m
