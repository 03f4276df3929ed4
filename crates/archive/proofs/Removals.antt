-- A removal, from what its look, its walk and its record leave. Assumes nothing.
use Rattle.std.proofs.Common.{◌≡◌, ℕ, suc, ◌+◌, ◌-◌, ◌≤◌, false, List, ◌∷◌, ◌++◌, length, take, drop, set, Some, Ok, sym, ap, ◌∙◌, subst, arith, length-append, length-drop, length-take, leb-false}
use Rattle.std.specs.List.{slice_get, AllByRecursion}
use Rattle.std.proofs.ByRecursion.{All-append, All-take, All-drop}
use Rattle.summary.specs.Summing.{Summing}
use Rattle.flexlist.specs.Building.{Plan, made}
use Rattle.flexlist.specs.Laid.{Laid, lay, whole}
use Rattle.flexlist.specs.Edits.{Item, Edit, Known, removal, list_of, content_of}
use Rattle.flexlist.specs.Replay.{two_paths, written_by, next_list}
use Rattle.flexlist.proofs.Sound.{version_sound}
use Rattle.flexlist.proofs.EditBounds.{edits_bounded}
use Rattle.nodes.specs.declared.node.Node.{Node}
use Rattle.nodes.specs.Holding.{WritesFreeOnly}
use Rattle.nodes.specs.Views.{blocks_in, readings_in as readings_at}
use Rattle.nodes.specs.Removing.{remove_at, Removed}
use Rattle.nodes.specs.Walking.{LaidOut}
use Rattle.nodes.proofs.Parts.{remove_keeps}
use Rattle.nodes.proofs.Gaps.{remove_plain}
use Rattle.archive.specs.declared.version.Version.{Version}
use Rattle.archive.specs.declared.version.Kind.TheVariants.{Removal}
use Rattle.archive.specs.Records.{readings_in, edit_record}
use Rattle.archive.specs.Stands.{Tables, WithinLimits, Stands, node_limit, version_limit}
use Rattle.archive.specs.Refusals.{removal_refusal}
use Rattle.archive.specs.Looking.{RefusedOr}
use Rattle.archive.specs.Editing.{ByRefusal, RemovalAccepted}
use Rattle.archive.proofs.Later.{list_new}
use Rattle.archive.proofs.Planned.{removal_planned, laid_shape}
use Rattle.archive.proofs.Tried.{passed, all_passed}
use Rattle.archive.proofs.Looks.{found_below, BaseFound}
use Rattle.archive.proofs.Edited.{kept_placed, base_ready, base_place, made_is, has_room, edit_stands}
use Rattle.archive.proofs.Inserts.{looked_ok, looked_accepted, sub_is, rows_next}
use Rattle.archive.proofs.Roots.{root_blocks, root_readings}

module _ {R Q S : Type 0} (means : Summing R Q) (rows : S → List (List R)) (s : Tables Q) (store : S) (base place : ℕ) (from : Version)
    (nodes : List (Node Q)) (at next some_blocks some_readings : ℕ) where
  -- the record that is written
  abbrev pub noted : Version
  noted = record { parent = base; edit = Removal; place = place; level = 0; block = 0; root = at; blocks = some_blocks; readings = some_readings; written = next - s.used }

  module _ (es : List (Edit R)) (st : Stands means rows es s store) (looked : RefusedOr (removal_refusal s es base place) (slice_get s.versions base) (Ok from))
      (free_only : WritesFreeOnly s.nodes s.used nodes next) (walked : Removed means s.nodes s.used from.root (place + 1) nodes at next) (size : length nodes ≡ length s.nodes)
      (blocks_read : some_blocks ≡ blocks_in (slice_get nodes at)) (readings_read : some_readings ≡ readings_at (slice_get nodes at)) where
    xs : List (Item R)
    xs = list_of es base

    without : (P : Item R → Type 0) → AllByRecursion P xs → AllByRecursion P (take place xs ++ drop (suc place) xs)
    without P h = All-append P (take place xs) (drop (suc place) xs) (All-take P place xs h) (All-drop P (suc place) xs h)

    accepted : RemovalAccepted means rows es s store base place (record { root = at; used = next }) nodes (set s.versions s.count noted)
    unfolding xs
    accepted =
        let e : Edit R = removal base place in
        let tb = st.tables in
        let met = looked_ok (removal_refusal s es base place) (slice_get s.versions base) from looked in
        let a = passed _ _ _ met.0 in
        let low = leb-false (suc (length es)) base a.0 in
        let d = passed _ _ _ a.1 in
        let in_place = leb-false (length xs) place d.0 in
        let p = all_passed 0 1 false _ _ _ d.1 in
        let b : BaseFound means s es tb base from = found_below means s es tb base (omega arith) from met.1 in
        let w = b.stands in
        let open_table = leb-false (version_limit s) (suc (length es)) p.open_table in
        let plan : Plan Laid = remove_at b.tree (suc place) in
        let bp = base_place means s es tb e from b (suc place) (omega arith) in
        let to = bp.1 in
        let planned = removal_planned es base place b.tree plan w.shaped (kept_placed b.tree plan (remove_keeps b.tree b.tree (suc place) whole)) in_place (λ g q. remove_plain b.tree (suc place) g q bp.0) in
        let exact = edits_bounded es e in_place in
        let bound : written_by es e ≤ two_paths xs place - 1 = omega arith in
        let count_is = tb.counted in
        let used_is = tb.used_up in
        let enough : two_paths xs place - 1 ≤ node_limit s - s.used = subst (λ u. two_paths xs place - 1 ≤ node_limit s - u) (sym used_is) p.enough in
        let room = has_room means s es tb e from b plan planned (two_paths xs place - 1) bound enough in
        let out : LaidOut means (content_of (e ∷ es)) s.used plan nodes at next = walked (content_of (e ∷ es)) b.tree (suc place) (base_ready means s es tb e from b) (bp.0, omega arith) room in
        let mw : made plan ≡ written_by es e = made_is means s es tb e from b plan planned in
        let up : next ≡ s.used + made plan = out.used_up in
        let fits = tb.nodes_fit in
        let in_limits : AllByRecursion WithinLimits (next_list es e) = without WithinLimits w.in_limits in
        let many = w.few in
        let la = length-append (take place xs) (drop (suc place) xs) in
        let lt = length-take place xs in
        let ld = length-drop (suc place) xs in
        let few : length (next_list es e) ≤ 500 = omega arith in
        let known : AllByRecursion (Known (e ∷ es)) (next_list es e) = subst (AllByRecursion (Known (e ∷ es))) (list_new e es) (version_sound (e ∷ es) (suc (length es))).known in
        let shaped = laid_shape es e b.tree plan s.used w.shaped w.own w.under planned in
        let blocks : some_blocks ≡ length (next_list es e) = blocks_read ∙ root_blocks (e ∷ es) (next_list es e) (lay plan s.used) shaped known in_limits few means nodes at out.holds out.here in
        let readings : some_readings ≡ readings_in (next_list es e) = readings_read ∙ root_readings (e ∷ es) (next_list es e) (lay plan s.used) shaped known in_limits few means nodes at out.holds out.here in
        let grew : next ≡ s.used + written_by es e = up ∙ ap (λ k. s.used + k) mw in
        let count : next - s.used ≡ written_by es e = sub_is next s.used (written_by es e) grew in
        let is : noted ≡ edit_record es e (next_list es e) at = λ i. record { parent = base; edit = Removal; place = place; level = 0; block = 0; root = at; blocks = blocks i; readings = readings i; written = count i } in
        record {
          written = grew;
          stands = record {
            tables = edit_stands means s es tb e from b plan planned nodes at next noted out free_only size (omega arith) (omega arith) is in_limits few;
            stored = rows_next (rows store) e es st.stored (without (λ x. slice_get (rows store) x.content.number ≡ Some x.content.row) (st.stored base));
          };
        }

    pub answered : (versions : List Version) → versions ≡ set s.versions s.count noted
        → ByRefusal (removal_refusal s es base place) (Ok (record { root = at; used = next })) (λ b. RemovalAccepted means rows es s store base place b nodes versions) (λ _. ⊥)
    answered versions is =
        subst (λ l. ByRefusal (removal_refusal s es base place) (Ok (record { root = at; used = next })) (λ b. RemovalAccepted means rows es s store base place b nodes l) (λ _. ⊥)) (sym is)
        (looked_accepted (removal_refusal s es base place) (slice_get s.versions base) from (record { root = at; used = next })
        (λ b. RemovalAccepted means rows es s store base place b nodes (set s.versions s.count noted)) (λ _. ⊥) looked accepted)
