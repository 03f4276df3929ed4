-- A change, from what its look, its put, its walk and its record leave. Assumes nothing.
use Rattle.store.specs.Keeping.{Keeping}
use Rattle.std.proofs.Common.{◌<◌, ◌≡◌, ℕ, suc, ◌+◌, ◌-◌, ◌≤◌, false, List, [], ◌∷◌, ◌++◌, length, take, drop, set, Some, Ok, sym, refl, ap, ◌∙◌, subst, arith, length-append, take-append-drop, leb-false}
use Rattle.std.specs.List.{slice_get, AllByRecursion}
use Rattle.std.proofs.ByRecursion.{All-append, All-take, All-drop}
use Rattle.summary.specs.Summing.{Summing}
use Rattle.store.specs.Interface.{Taken, OneCause}
use Rattle.flexlist.specs.Building.{Plan, made}
use Rattle.flexlist.specs.Laid.{Laid, lay, whole}
use Rattle.flexlist.specs.Edits.{Content, Item, Edit, Known, change, list_of, content_of, first_changed}
use Rattle.flexlist.specs.Replay.{path, written_by, next_list}
use Rattle.flexlist.proofs.Sound.{version_sound}
use Rattle.flexlist.proofs.EditBounds.{edits_bounded}
use Rattle.nodes.specs.declared.node.Node.{Node}
use Rattle.nodes.specs.declared.node.Block.{Block}
use Rattle.nodes.specs.Holding.{WritesFreeOnly}
use Rattle.nodes.specs.Making.{LeafOf}
use Rattle.nodes.specs.Views.{blocks_in, readings_in as readings_at}
use Rattle.nodes.specs.Changing.{change_at, Changed}
use Rattle.nodes.specs.Walking.{LaidOut}
use Rattle.nodes.proofs.Parts.{change_keeps}
use Rattle.nodes.proofs.Plans.{change_plain}
use Rattle.archive.specs.declared.version.Version.{Version}
use Rattle.archive.specs.declared.version.Kind.TheVariants.{Change}
use Rattle.archive.specs.Records.{readings_in, edit_record}
use Rattle.archive.specs.Stands.{Tables, WithinLimits, Stands, node_limit, version_limit}
use Rattle.archive.specs.Refusals.{change_refusal}
use Rattle.archive.specs.Looking.{RefusedOr}
use Rattle.archive.specs.Editing.{ByRefusal, RowAcceptedAs, RowAccepted}
use Rattle.archive.proofs.Later.{list_new}
use Rattle.archive.proofs.Planned.{change_planned, laid_shape}
use Rattle.archive.proofs.Tried.{passed, all_passed}
use Rattle.archive.proofs.Looks.{found_below, BaseFound}
use Rattle.archive.proofs.Edited.{kept_placed, brought_leaf, base_ready, base_place, made_is, has_room, edit_stands}
use Rattle.archive.proofs.Inserts.{looked_ok, looked_accepted, block_new, sub_is, placed_kept, placed_new, rows_kept, rows_next}
use Rattle.archive.proofs.Roots.{root_blocks, root_readings}

module _ {R : Type 0} where
  all_first_changed : (P : Item R → Type 0) (n : ℕ) (c : Content R) → ((x : Item R) → P x → P (record { identity = n; level = x.level; content = c })) → (ds : List (Item R)) → AllByRecursion P ds → AllByRecursion P (first_changed n c ds)
  all_first_changed P n c f [] h = tt
  all_first_changed P n c f (x ∷ ds) h = (f x h.0, h.1)

  all_changed : (P : Item R → Type 0) (n p : ℕ) (c : Content R) (xs : List (Item R)) → ((x : Item R) → P x → P (record { identity = n; level = x.level; content = c })) → AllByRecursion P xs → AllByRecursion P (take p xs ++ first_changed n c (drop p xs))
  all_changed P n p c xs f h = All-append P (take p xs) (first_changed n c (drop p xs)) (All-take P p xs h) (all_first_changed P n c f (drop p xs) (All-drop P p xs h))

  length_first_changed : (n : ℕ) (c : Content R) (ds : List (Item R)) → length (first_changed n c ds) ≡ length ds
  length_first_changed n c [] = refl
  length_first_changed n c (x ∷ ds) = refl

  length_changed : (n p : ℕ) (c : Content R) (xs : List (Item R)) → length (take p xs ++ first_changed n c (drop p xs)) ≡ length xs
  length_changed n p c xs =
      length-append (take p xs) (first_changed n c (drop p xs)) ∙ ap (λ k. length (take p xs) + k) (length_first_changed n c (drop p xs))
      ∙ sym (length-append (take p xs) (drop p xs)) ∙ ap length (take-append-drop p xs)

module _ {R Q S : Type 0} (means : Summing R Q) (keeps : Keeping S R) (s : Tables Q) (store after : S) (base place : ℕ) (row : List R) (from : Version)
    (n : ℕ) (block : Block Q) (nodes : List (Node Q)) (at next some_blocks some_readings : ℕ) where
  -- the record that is written: the root of the new tree counts its blocks and readings
  abbrev pub noted : Version
  noted = record { parent = base; edit = Change; place = place; level = 0; block = block.number; root = at; blocks = some_blocks; readings = some_readings; written = next - s.used }

  module _ (es : List (Edit R)) (st : Stands means keeps.rows es s store) (looked : RefusedOr (change_refusal s es base place (length row)) (slice_get s.versions base) (Ok from))
      (taken : Taken keeps.rows keeps.refuses keeps.area_long store row n after) (leaf : LeafOf means (record { number = n; row = row }) block) (free_only : WritesFreeOnly s.nodes s.used nodes next)
      (walked : Changed means s.nodes s.used from.root (place + 1) block nodes at next) (size : length nodes ≡ length s.nodes)
      (blocks_read : some_blocks ≡ blocks_in (slice_get nodes at)) (readings_read : some_readings ≡ readings_at (slice_get nodes at)) where
    new : Content R
    new = record { number = n; row = row }

    xs : List (Item R)
    xs = list_of es base

    accepted_as : RowAcceptedAs means keeps es s (change base place) row (record { root = at; used = next }) nodes (set s.versions s.count noted) after n
    unfolding new xs
    accepted_as =
        let e = change base place new in
        let tb = st.tables in
        let none = (looked_ok (change_refusal s es base place (length row)) (slice_get s.versions base) from looked).0 in
        let a = passed _ _ _ none in
        let low = leb-false (suc (length es)) base a.0 in
        let d = passed _ _ _ a.1 in
        let in_place = leb-false (length xs) place d.0 in
        let p = all_passed 0 (length row) false _ _ _ d.1 in
        let b : BaseFound means s es tb base from = found_below means s es tb base (omega arith) from (looked_ok (change_refusal s es base place (length row)) (slice_get s.versions base) from looked).1 in
        let w = b.stands in
        let open_table = leb-false (version_limit s) (suc (length es)) p.open_table in
        let kept = placed_kept (keeps.rows store) (keeps.rows after) row n taken.placed in
        let plan : Plan Laid = change_at (suc (length es)) b.tree (suc place) in
        let planned = change_planned es base place b.tree plan w.shaped (kept_placed b.tree plan (change_keeps b.tree (suc (length es)) b.tree (suc place) whole)) new in_place (change_plain (suc (length es)) b.tree (suc place)) in
        let exact = edits_bounded es e in_place in
        let bound : written_by es e ≤ path xs (suc place) = omega arith in
        let count_is = tb.counted in
        let used_is = tb.used_up in
        let enough : path xs (suc place) ≤ node_limit s - s.used = subst (λ u. path xs (suc place) ≤ node_limit s - u) (sym used_is) p.enough in
        let room = has_room means s es tb e from b plan planned (path xs (suc place)) bound enough in
        let bp = base_place means s es tb e from b (suc place) (omega arith) in
        let to = bp.1 in
        let out : LaidOut means (content_of (e ∷ es)) s.used plan nodes at next = walked (content_of (e ∷ es)) (suc (length es)) (brought_leaf means s es tb e from b block leaf) b.tree (suc place)
        (base_ready means s es tb e from b) (bp.0, omega arith) room in
        let mw : made plan ≡ written_by es e = made_is means s es tb e from b plan planned in
        let up : next ≡ s.used + made plan = out.used_up in
        let fits = tb.nodes_fit in
        let in_limits : AllByRecursion WithinLimits (next_list es e) = all_changed WithinLimits (suc (length es)) place new xs (λ x h. record { level = h.level; some = p.some; most = p.most }) w.in_limits in
        let long = length_changed (suc (length es)) place new xs in
        let many = w.few in
        let few : length (next_list es e) ≤ 500 = omega arith in
        let known : AllByRecursion (Known (e ∷ es)) (next_list es e) = subst (AllByRecursion (Known (e ∷ es))) (list_new e es) (version_sound (e ∷ es) (suc (length es))).known in
        let shaped = laid_shape es e b.tree plan s.used w.shaped w.own w.under planned in
        let blocks : some_blocks ≡ length (next_list es e) = blocks_read ∙ root_blocks (e ∷ es) (next_list es e) (lay plan s.used) shaped known in_limits few means nodes at out.holds out.here in
        let readings : some_readings ≡ readings_in (next_list es e) = readings_read ∙ root_readings (e ∷ es) (next_list es e) (lay plan s.used) shaped known in_limits few means nodes at out.holds out.here in
        let grew : next ≡ s.used + written_by es e = up ∙ ap (λ k. s.used + k) mw in
        let count : next - s.used ≡ written_by es e = sub_is next s.used (written_by es e) grew in
        let is : noted ≡ edit_record es e (next_list es e) at = λ i. record { parent = base; edit = Change; place = place; level = 0; block = leaf.number i; root = at; blocks = blocks i; readings = readings i; written = count i } in
        let stored = rows_kept (keeps.rows store) (keeps.rows after) kept xs (st.stored base) in
        record {
          written = grew;
          stands = record {
            tables = edit_stands means s es tb e from b plan planned nodes at next noted out free_only size (omega arith) (omega arith) is in_limits few;
            stored = rows_next (keeps.rows after) e es (λ v. rows_kept (keeps.rows store) (keeps.rows after) kept (list_of es v) (st.stored v))
                (all_changed (λ x. slice_get (keeps.rows after) x.content.number ≡ Some x.content.row) (suc (length es)) place new xs (λ x _. placed_new (keeps.rows store) (keeps.rows after) row n taken.placed) stored);
          };
        }

    accepted : s.count < length s.versions → RowAccepted means keeps es s (change base place) row (record { root = at; used = next }) nodes (set s.versions s.count noted) after
    accepted room =
        subst (RowAcceptedAs means keeps es s (change base place) row (record { root = at; used = next }) nodes (set s.versions s.count noted) after)
        (sym (block_new s.versions s.count noted room ∙ leaf.number)) accepted_as

    pub answered : s.count < length s.versions → (versions : List Version) → versions ≡ set s.versions s.count noted
        → ByRefusal (change_refusal s es base place (length row)) (Ok (record { root = at; used = next })) (λ b. RowAccepted means keeps es s (change base place) row b nodes versions after)
        (OneCause keeps.rows keeps.refuses keeps.area_long store row)
    answered room versions is =
        subst (λ l. ByRefusal (change_refusal s es base place (length row)) (Ok (record { root = at; used = next })) (λ b. RowAccepted means keeps es s (change base place) row b nodes l after)
        (OneCause keeps.rows keeps.refuses keeps.area_long store row)) (sym is)
        (looked_accepted (change_refusal s es base place (length row)) (slice_get s.versions base) from (record { root = at; used = next })
        (λ b. RowAccepted means keeps es s (change base place) row b nodes (set s.versions s.count noted) after) (OneCause keeps.rows keeps.refuses keeps.area_long store row) looked (accepted room))
