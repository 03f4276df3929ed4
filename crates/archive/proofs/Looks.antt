-- What a look at tables that stand finds. Assumes nothing.
use Rattle.std.proofs.Common.{◌≡◌, ℕ, zero, suc, ◌+◌, ◌-◌, ◌<◌, ◌≤◌, Bool, true, false, cond, eqb, ltb, leb, List, [], ◌∷◌, length, Some, None, Ok, Err, Option, unwrap_or, sym, refl, ap, ◌∙◌, subst, arith, le-ltb, lt-ltb, le-leb, leb-false, leb-true}
use borrow.Author.Tests.{lt-leb, eqb-false}
use Rattle.std.specs.List.{slice_get}
use Rattle.std.proofs.lemmas.Bool.{cond-true, cond-false}
use Rattle.summary.specs.Summing.{Summing}
use Rattle.flexlist.specs.Nodes.{nodes, nodes_of_both, leaves, to_place}
use Rattle.flexlist.specs.Laid.{Laid, plain, root}
use Rattle.flexlist.specs.Edits.{Edit, Item, lists, list_of, content_of}
use Rattle.flexlist.specs.Replay.{shape, path, two_paths}
use Rattle.flexlist.proofs.Sound.{version_sound, histories_sound}
use Rattle.questions.specs.Paths.{PathCounted, PathsCounted}
use Rattle.archive.specs.declared.version.Version.{Version}
use Rattle.archive.specs.declared.fault.EditFault.{EditFault}
use Rattle.archive.specs.declared.fault.EditFault.TheVariants as fault
use Rattle.archive.specs.Records.{edit_of, edits_before, readings_in, record_by, record_of}
use Rattle.archive.specs.Stands.{Tables, VersionStands, TablesStand, node_limit, version_limit}
use Rattle.archive.specs.Looking.{in_use, RefusedOr}
use Rattle.archive.specs.Refusals.{first_of, early_fault, later_fault, full, free, insert_refusal, change_refusal, removal_refusal}
use Rattle.archive.proofs.Later.{nth_front, same_some, some_none}
use Rattle.archive.proofs.PathBounds.{path_short, paths_short}
use Rattle.archive.proofs.Planned.{same_shape}
use Rattle.archive.proofs.Standing.{counted, lead_empty, leaves_are}

pub nth_some : {A : Type 0} (xs : List A) (k : ℕ) → k < length xs → (x : A) × (slice_get xs k ≡ Some x)
nth_some [] k h = absurd (omega arith)
nth_some (x ∷ xs) zero h = (x, refl)
nth_some (x ∷ xs) (suc k) h = nth_some xs k (omega arith)

module _ {R : Type 0} where
  pub list_zero : (es : List (Edit R)) → list_of es 0 ≡ []
  unfolding lists
  list_zero [] = refl
  list_zero (e ∷ es) = let n = (histories_sound es).0 in ap (λ o. unwrap_or o []) (nth_front (lists es) _ 0 (omega arith)) ∙ list_zero es

  -- every version but 0 was given by an edit
  edit_given : (es : List (Edit R)) (v : ℕ) → v ≤ length es → edit_of es v ≡ None → v ≡ 0
  edit_given [] v h e = omega arith
  edit_given (f ∷ es) v h e = go (edit_given es v) (eqb v (suc (length es))) refl
    where
      go : (v ≤ length es → edit_of es v ≡ None → v ≡ 0) → (b : Bool) → eqb v (suc (length es)) ≡ b → v ≡ 0
      go ih true q = absurd (some_none f (sym (cond-true (eqb v (suc (length es))) (Some f) (edit_of es v) q) ∙ e))
      go ih false q = let n = eqb-false v (suc (length es)) q in ih (omega arith) (sym (cond-false (eqb v (suc (length es))) (Some f) (edit_of es v) q) ∙ e)

  -- what a version's record says of its root and list
  pub record Told (v : Version) (root : ℕ) (xs : List (Item R)) : Type 0 where
    pub root_is : v.root ≡ root
    pub blocks_is : v.blocks ≡ length xs
    pub readings_is : v.readings ≡ readings_in xs

  readings_none : (xs : List (Item R)) → xs ≡ [] → readings_in xs ≡ 0
  unfolding readings_in
  readings_none xs e = ap readings_in e

  told : (es : List (Edit R)) (v root : ℕ) → v ≤ length es → Told (record_of es v root) root (list_of es v)
  told es v root h = go (edit_of es v) refl
    where
      go : (o : Option (Edit R)) → edit_of es v ≡ o → Told (record_by o (edits_before es v) (list_of es v) root) root (list_of es v)
      go (Some e) q = record { root_is = refl; blocks_is = refl; readings_is = refl }
      go None q =
          let empty : list_of es v ≡ [] = ap (list_of es) (edit_given es v h q) ∙ list_zero es in
          record { root_is = refl; blocks_is = sym (ap length empty); readings_is = sym (readings_none (list_of es v) empty) }

module _ {R Q : Type 0} (means : Summing R Q) (s : Tables Q) (es : List (Edit R)) (st : TablesStand means es s) (base : ℕ) where
  -- the base of a call, found in use
  pub record BaseFound (from : Version) : Type 0 where
    pub low : base ≤ length es
    pub tree : Laid
    pub at : slice_get st.trees base ≡ Some tree
    pub stands : VersionStands means es s base tree
    pub told_of : Told from (root tree) (list_of es base)
    pub there : slice_get s.versions base ≡ Some from

  -- a version below the count is there
  pub found_below : base ≤ length es → (from : Version) → slice_get s.versions base ≡ Some from → BaseFound from
  found_below h from q =
      let n = st.as_many in
      let t = nth_some st.trees base (omega arith) in
      let w = st.each base t.0 t.1 in
      record {
        low = h;
        tree = t.0;
        at = t.1;
        stands = w;
        told_of = subst (λ v. Told v (root t.0) (list_of es base)) (same_some _ _ (sym w.recorded ∙ q)) (told es base (root t.0) h);
        there = q;
      }

  pub found : (from : Version) → in_use s.versions s.count base ≡ Some from → BaseFound from
  found from q = go (leb s.count base) refl
    where
      go : (b : Bool) → leb s.count base ≡ b → BaseFound from
      go true p = absurd (some_none from (sym q ∙ cond-true (leb s.count base) None (slice_get s.versions base) p))
      go false p =
          let h = leb-false s.count base p in
          let n = st.counted in
          found_below (omega arith) from (sym (cond-false (leb s.count base) None (slice_get s.versions base) p) ∙ q)

  -- the refusals of every edit: version, place, and what is tried later
  abbrev pub refusal_by : Bool → Option EditFault → Option EditFault
  refusal_by far later = cond (leb (suc (length es)) base) (Some fault.Version) (cond far (Some fault.Place) later)

  refusal_known : (far : Bool) (later : Option EditFault) → base ≤ length es → refusal_by far later ≡ cond far (Some fault.Place) later
  refusal_known far later h = cond-false (leb (suc (length es)) base) _ _ (lt-leb (suc (length es)) base (omega arith))

  pub looked_far : (far : Bool) (later : Option EditFault) (o : Option Version) → base ≤ length es → far ≡ true → RefusedOr (refusal_by far later) o (Err fault.Place)
  looked_far far later o h q = subst (λ r. RefusedOr r o (Err fault.Place)) (sym (refusal_known far later h ∙ cond-true far _ _ q)) refl

  looked_later : (far : Bool) (later : Option EditFault) (o : Option Version) (f : EditFault) → base ≤ length es → far ≡ false → later ≡ Some f → RefusedOr (refusal_by far later) o (Err f)
  looked_later far later o f h q e = subst (λ r. RefusedOr r o (Err f)) (sym (refusal_known far later h ∙ cond-false far _ _ q ∙ e)) refl

  looked_fine : (far : Bool) (later : Option EditFault) (from : Version) → BaseFound from → far ≡ false → later ≡ None → RefusedOr (refusal_by far later) (slice_get s.versions base) (Ok from)
  looked_fine far later from b q e =
      subst (λ o. RefusedOr (refusal_by far later) o (Ok from)) (sym b.there) (subst (λ r. RefusedOr r (Some from) (Ok from)) (sym (refusal_known far later b.low ∙ cond-false far _ _ q ∙ e)) refl)

  module _ (from : Version) (b : BaseFound from) where
    pub way_is : (place : ℕ) (r : Option ℕ) → place ≤ length (list_of es base) → PathCounted means s.nodes from.root place r → r ≡ Some (path (list_of es base) place)
    unfolding path
    way_is place r h p =
        let w = b.stands in
        let t = b.tree in
        let known = (version_sound es base).known in
        let n = leaves_are es (list_of es base) t w.shaped known w.in_limits w.few in
        let own = lead_empty es (list_of es base) t w.shaped known w.in_limits w.few in
        p (content_of es) t place (record { holds = w.holds; here = sym b.told_of.root_is }) (counted es (list_of es base) t w.shaped known w.in_limits w.few) (omega arith, omega arith)
        ∙ ap (λ x. Some (nodes (to_place x place))) (same_shape (list_of es base) (plain t) w.shaped)

    pub ways_are : (place : ℕ) (r : Option ℕ) → place < length (list_of es base) → PathsCounted means s.nodes from.root (suc place) r → r ≡ Some (two_paths (list_of es base) place)
    unfolding two_paths
    ways_are place r h p =
        let w = b.stands in
        let t = b.tree in
        let known = (version_sound es base).known in
        let few = w.few in
        let n = leaves_are es (list_of es base) t w.shaped known w.in_limits w.few in
        let own = lead_empty es (list_of es base) t w.shaped known w.in_limits w.few in
        p (content_of es) t place (record { holds = w.holds; here = sym b.told_of.root_is }) (counted es (list_of es base) t w.shaped known w.in_limits w.few) (omega arith) (omega arith, omega arith)
        ∙ ap (λ x. Some (nodes_of_both (to_place x place) (to_place x (suc place)))) (same_shape (list_of es base) (plain t) w.shaped)

    -- A version has 500 blocks at most, so a path in it 501 nodes at most.
    leaves_few : leaves (shape (list_of es base)) ≤ 501
    leaves_few =
        let w = b.stands in
        let t = b.tree in
        let few = w.few in
        let n = leaves_are es (list_of es base) t w.shaped (version_sound es base).known w.in_limits w.few in
        let same : leaves (plain t) ≡ leaves (shape (list_of es base)) = ap leaves (same_shape (list_of es base) (plain t) w.shaped) in
        omega arith

    pub path_few : (place : ℕ) → path (list_of es base) place ≤ 501
    unfolding path
    path_few place =
        let few = leaves_few in
        let short = path_short (to_place (shape (list_of es base)) place) in
        omega arith

    pub paths_few : (place : ℕ) → two_paths (list_of es base) place ≤ 1002
    unfolding two_paths
    paths_few place =
        let few = leaves_few in
        let both = paths_short (to_place (shape (list_of es base)) place) (to_place (shape (list_of es base)) (suc place)) in
        let one = path_short (to_place (shape (list_of es base)) place) in
        let other = path_short (to_place (shape (list_of es base)) (suc place)) in
        omega arith

  -- The exits of a look past the place: what is tried early, by the tables and by the replay; and the free nodes.
  module _ (from : Version) (b : BaseFound from) (far : Bool) (near : far ≡ false) (level len : ℕ) (crowded here : Bool) (same : crowded ≡ here) (due : ℕ) where
    early : Option EditFault
    early = early_fault level len here (full s es)

    few : Option EditFault
    few = cond (ltb (free s es) due) (Some fault.Nodes) None

    early_same : early_fault level len crowded (leb (version_limit s) s.count) ≡ early
    unfolding early
    early_same =
        ap (λ c. early_fault level len c (leb (version_limit s) s.count)) same ∙ ap (λ n. early_fault level len here (leb (version_limit s) n)) st.counted

    pub exit_early : (f : EditFault) → early_fault level len crowded (leb (version_limit s) s.count) ≡ Some f
        → RefusedOr (refusal_by far (later_fault level len here (full s es) (free s es) due)) (slice_get s.versions base) (Err f)
    unfolding early
    exit_early f e =
        looked_later far _ (slice_get s.versions base) f b.low near (ap (λ o. first_of o (cond (ltb (free s es) due) (Some fault.Nodes) None)) (sym early_same ∙ e))

    module _ (none : early_fault level len crowded (leb (version_limit s) s.count) ≡ None) where
      few_only : later_fault level len here (full s es) (free s es) due ≡ cond (ltb (free s es) due) (Some fault.Nodes) None
      unfolding early
      few_only = ap (λ o. first_of o (cond (ltb (free s es) due) (Some fault.Nodes) None)) (sym early_same ∙ none)

      -- so many nodes are free as it may need, or more
      pub exit_ample : (room : ℕ) → due ≤ room → leb (s.used + room) (node_limit s) ≡ true
          → RefusedOr (refusal_by far (later_fault level len here (full s es) (free s es) due)) (slice_get s.versions base) (Ok from)
      exit_ample room enough l =
          let low = leb-true (s.used + room) (node_limit s) l in
          let u = st.used_up in
          let t = le-ltb (free s es) due (omega arith) in
          looked_fine far _ from b near (few_only ∙ cond-false (ltb (free s es) due) (Some fault.Nodes) None t)

      module _ (need : ℕ) (is : need ≡ due) where
        pub exit_few : leb (s.used + need) (node_limit s) ≡ false
            → RefusedOr (refusal_by far (later_fault level len here (full s es) (free s es) due)) (slice_get s.versions base) (Err fault.Nodes)
        exit_few l =
            let low = leb-false (s.used + need) (node_limit s) l in
            let u = st.used_up in
            let fits = st.nodes_fit in
            let t = lt-ltb (free s es) due (omega arith) in
            looked_later far _ (slice_get s.versions base) fault.Nodes b.low near (few_only ∙ cond-true (ltb (free s es) due) (Some fault.Nodes) None t)

        pub exit_fine : leb (s.used + need) (node_limit s) ≡ true
            → RefusedOr (refusal_by far (later_fault level len here (full s es) (free s es) due)) (slice_get s.versions base) (Ok from)
        exit_fine = exit_ample need (omega arith)

  -- ---- of an insert

  pub insert_misplaced : (place level len : ℕ) (from : Version) → in_use s.versions s.count base ≡ Some from → from.blocks < place
      → RefusedOr (insert_refusal s es base place level len) (slice_get s.versions base) (Err fault.Place)
  insert_misplaced place level len from q l =
      let b = found from q in
      let n = b.told_of.blocks_is in
      looked_far _ _ (slice_get s.versions base) b.low (lt-ltb (length (list_of es base)) place (omega arith))

  pub insert_lost : (place : ℕ) (from : Version) → in_use s.versions s.count base ≡ Some from → place ≤ from.blocks → PathCounted means s.nodes from.root place None → ⊥
  insert_lost place from q l p =
      let b = found from q in
      let n = b.told_of.blocks_is in
      some_none _ (sym (way_is from b place None (omega arith) p))

  module _ (place level len : ℕ) (from : Version) (q : in_use s.versions s.count base ≡ Some from) (l : place ≤ from.blocks) where
    in_place : ltb (length (list_of es base)) place ≡ false
    in_place = let n = (found from q).told_of.blocks_is in le-ltb (length (list_of es base)) place (omega arith)

    crowd : leb 500 from.blocks ≡ leb 500 (length (list_of es base))
    crowd = ap (leb 500) (found from q).told_of.blocks_is

    pub insert_stopped : (f : EditFault) → early_fault level len (leb 500 from.blocks) (leb (version_limit s) s.count) ≡ Some f
        → RefusedOr (insert_refusal s es base place level len) (slice_get s.versions base) (Err f)
    insert_stopped = exit_early from (found from q) _ in_place level len _ _ crowd (path (list_of es base) place + 2)

    pub insert_ample : early_fault level len (leb 500 from.blocks) (leb (version_limit s) s.count) ≡ None → leb (s.used + 503) (node_limit s) ≡ true
        → RefusedOr (insert_refusal s es base place level len) (slice_get s.versions base) (Ok from)
    insert_ample none =
        let short = path_few from (found from q) place in
        exit_ample from (found from q) _ in_place level len _ _ crowd (path (list_of es base) place + 2) none 503 (omega arith)

    module _ (none : early_fault level len (leb 500 from.blocks) (leb (version_limit s) s.count) ≡ None) (way : ℕ) (p : PathCounted means s.nodes from.root place (Some way)) where
      due : way + 2 ≡ path (list_of es base) place + 2
      due = let b = found from q in let n = b.told_of.blocks_is in ap (λ k. k + 2) (same_some _ _ (way_is from b place (Some way) (omega arith) p))

      pub insert_few : leb (s.used + (way + 2)) (node_limit s) ≡ false → RefusedOr (insert_refusal s es base place level len) (slice_get s.versions base) (Err fault.Nodes)
      insert_few = exit_few from (found from q) _ in_place level len _ _ crowd (path (list_of es base) place + 2) none (way + 2) due

      pub insert_fine : leb (s.used + (way + 2)) (node_limit s) ≡ true → RefusedOr (insert_refusal s es base place level len) (slice_get s.versions base) (Ok from)
      insert_fine = exit_fine from (found from q) _ in_place level len _ _ crowd (path (list_of es base) place + 2) none (way + 2) due

  -- ---- of a change and of a removal

  module _ (place : ℕ) (from : Version) (q : in_use s.versions s.count base ≡ Some from) where
    misplaced : (later : Option EditFault) → from.blocks ≤ place → RefusedOr (refusal_by (leb (length (list_of es base)) place) later) (slice_get s.versions base) (Err fault.Place)
    misplaced later l =
        let b = found from q in
        let n = b.told_of.blocks_is in
        looked_far _ _ (slice_get s.versions base) b.low (le-leb (length (list_of es base)) place (omega arith))

    pub change_misplaced : (len : ℕ) → from.blocks ≤ place → RefusedOr (change_refusal s es base place len) (slice_get s.versions base) (Err fault.Place)
    change_misplaced len = misplaced _

    pub removal_misplaced : from.blocks ≤ place → RefusedOr (removal_refusal s es base place) (slice_get s.versions base) (Err fault.Place)
    removal_misplaced = misplaced _

    module _ (l : place < from.blocks) where
      there : leb (length (list_of es base)) place ≡ false
      there = let n = (found from q).told_of.blocks_is in lt-leb (length (list_of es base)) place (omega arith)

      pub removal_lost : PathsCounted means s.nodes from.root (suc place) None → ⊥
      removal_lost p =
          let b = found from q in
          let n = b.told_of.blocks_is in
          some_none _ (sym (ways_are from b place None (omega arith) p))

      pub change_stopped : (len : ℕ) (f : EditFault) → early_fault 0 len false (leb (version_limit s) s.count) ≡ Some f
          → RefusedOr (change_refusal s es base place len) (slice_get s.versions base) (Err f)
      change_stopped len = exit_early from (found from q) _ there 0 len false false refl (path (list_of es base) (suc place))

      pub removal_stopped : (f : EditFault) → early_fault 0 1 false (leb (version_limit s) s.count) ≡ Some f → RefusedOr (removal_refusal s es base place) (slice_get s.versions base) (Err f)
      removal_stopped = exit_early from (found from q) _ there 0 1 false false refl (two_paths (list_of es base) place - 1)

      pub change_ample : (len : ℕ) → early_fault 0 len false (leb (version_limit s) s.count) ≡ None → leb (s.used + 501) (node_limit s) ≡ true
          → RefusedOr (change_refusal s es base place len) (slice_get s.versions base) (Ok from)
      change_ample len none =
          exit_ample from (found from q) _ there 0 len false false refl (path (list_of es base) (suc place)) none 501 (path_few from (found from q) (suc place))

      pub removal_ample : early_fault 0 1 false (leb (version_limit s) s.count) ≡ None → leb (s.used + 1001) (node_limit s) ≡ true
          → RefusedOr (removal_refusal s es base place) (slice_get s.versions base) (Ok from)
      removal_ample none =
          let short = paths_few from (found from q) place in
          exit_ample from (found from q) _ there 0 1 false false refl (two_paths (list_of es base) place - 1) none 1001 (omega arith)

      module _ (len : ℕ) (none : early_fault 0 len false (leb (version_limit s) s.count) ≡ None) (way : ℕ) (p : PathCounted means s.nodes from.root (suc place) (Some way)) where
        way_due : way ≡ path (list_of es base) (suc place)
        way_due = let b = found from q in let n = b.told_of.blocks_is in same_some _ _ (way_is from b (suc place) (Some way) (omega arith) p)

        pub change_few : leb (s.used + way) (node_limit s) ≡ false → RefusedOr (change_refusal s es base place len) (slice_get s.versions base) (Err fault.Nodes)
        change_few = exit_few from (found from q) _ there 0 len false false refl (path (list_of es base) (suc place)) none way way_due

        pub change_fine : leb (s.used + way) (node_limit s) ≡ true → RefusedOr (change_refusal s es base place len) (slice_get s.versions base) (Ok from)
        change_fine = exit_fine from (found from q) _ there 0 len false false refl (path (list_of es base) (suc place)) none way way_due

      module _ (none : early_fault 0 1 false (leb (version_limit s) s.count) ≡ None) (ways : ℕ) (p : PathsCounted means s.nodes from.root (suc place) (Some ways)) where
        both_due : ways - 1 ≡ two_paths (list_of es base) place - 1
        both_due = let b = found from q in let n = b.told_of.blocks_is in ap (λ k. k - 1) (same_some _ _ (ways_are from b place (Some ways) (omega arith) p))

        pub removal_few : leb (s.used + (ways - 1)) (node_limit s) ≡ false → RefusedOr (removal_refusal s es base place) (slice_get s.versions base) (Err fault.Nodes)
        removal_few = exit_few from (found from q) _ there 0 1 false false refl (two_paths (list_of es base) place - 1) none (ways - 1) both_due

        pub removal_fine : leb (s.used + (ways - 1)) (node_limit s) ≡ true → RefusedOr (removal_refusal s es base place) (slice_get s.versions base) (Ok from)
        removal_fine = exit_fine from (found from q) _ there 0 1 false false refl (two_paths (list_of es base) place - 1) none (ways - 1) both_due
