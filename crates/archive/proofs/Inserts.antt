-- An insert, from what its look, its put, its walk and its record leave. Assumes nothing.
use Rattle.store.specs.Keeping.{Keeping}
use Rattle.std.proofs.Common.{◌≡◌, ℕ, suc, ◌+◌, ◌-◌, ◌*◌, ◌%◌, ◌^◌, ◌<◌, ◌≤◌, List, [], ◌∷◌, ◌++◌, length, take, drop, set, Some, None, Ok, Err, Option, unwrap_or, sym, refl, ap, ◌∙◌, subst, mod-eq_of_lt, arith, length-append, length-drop, take-append-drop, length-take, ltb-false, leb-false}
use native.Mathlib.Decide.{dec_le}
use Rattle.std.proofs.lemmas.Option.{slice_get_past, slice_get_within}
use Rattle.std.specs.List.{slice_get, AllByRecursion}
use Rattle.std.proofs.ByRecursion.{All-weaker, All-append, All-take, All-drop}
use Rattle.summary.specs.Summing.{Summing}
use Rattle.store.specs.declared.cause.Cause.{Cause}
use Rattle.store.specs.Interface.{Placed, earlier, added, Taken, OneCause}
use Rattle.flexlist.specs.Building.{Plan, made}
use Rattle.flexlist.specs.Laid.{Laid, whole}
use Rattle.flexlist.specs.Edits.{Content, Item, Edit, insert, list_of, lists, content_of}
use Rattle.flexlist.specs.Replay.{path, written_by, next_list}
use Rattle.flexlist.proofs.Sound.{histories_sound}
use Rattle.flexlist.proofs.EditBounds.{edits_bounded}
use Rattle.nodes.specs.declared.node.Node.{Node}
use Rattle.nodes.specs.declared.node.Block.{Block}
use Rattle.nodes.specs.declared.walks.Built.{Built}
use Rattle.nodes.specs.Holding.{WritesFreeOnly}
use Rattle.nodes.specs.Making.{LeafOf}
use Rattle.nodes.specs.Cutting.{insert_at, Inserted}
use Rattle.nodes.specs.Walking.{LaidOut}
use Rattle.nodes.proofs.Parts.{insert_keeps}
use Rattle.nodes.proofs.Plans.{insert_plain}
use Rattle.archive.specs.declared.version.Version.{Version}
use Rattle.archive.specs.declared.version.Kind.TheVariants.{Insert}
use Rattle.archive.specs.declared.fault.EditFault.{EditFault}
use Rattle.archive.specs.declared.fault.EditFault.TheVariants.{Store}
use Rattle.archive.specs.Records.{readings_in, edit_record, block_in, block_at}
use Rattle.nodes.proofs.Tables.{nth_set_same}
use Rattle.archive.specs.Stands.{Tables, WithinLimits, RowsStand, Stands, node_limit, version_limit}
use Rattle.archive.specs.Refusals.{insert_refusal}
use Rattle.archive.specs.Looking.{RefusedOr}
use Rattle.archive.specs.Editing.{ByRefusal, RowAcceptedAs, RowAccepted}
use Rattle.archive.proofs.Later.{nth_front, nth_end, list_later, list_new}
use Rattle.archive.proofs.Planned.{insert_planned}
use Rattle.archive.proofs.Tried.{passed, all_passed}
use Rattle.archive.proofs.Looks.{found_below, BaseFound}
use Rattle.archive.proofs.Edited.{kept_placed, brought_leaf, base_ready, base_place, made_is, has_room, edit_stands}

-- a look that answers a record has met no refusal
pub looked_ok : (o : Option EditFault) (v : Option Version) (from : Version) → RefusedOr o v (Ok from) → (o ≡ None) × (v ≡ Some from)
looked_ok (Some f) v from h = let z : ◌≡◌ {A = ℕ} 0 1 = cc in absurd (omega arith)
looked_ok None (Some v) from h = (refl, cc)
looked_ok None None from h = absurd h

pub looked_accepted : (o : Option EditFault) (v : Option Version) (from : Version) (b : Built) (accepted : Built → Type 0) (refused : Cause → Type 0) → RefusedOr o v (Ok from) → accepted b → ByRefusal o (Ok b) accepted refused
looked_accepted (Some f) v from b accepted refused h k = let z : ◌≡◌ {A = ℕ} 0 1 = cc in absurd (omega arith)
looked_accepted None v from b accepted refused h k = k

-- the block number that a new record has
pub block_new : (versions : List Version) (count : ℕ) (noted : Version) → count < length versions → block_at (set versions count noted) count ≡ noted.block
block_new versions count noted h = ap block_in (nth_set_same versions count noted h)

-- a look that answers a record, and then a row that the store refuses
pub looked_unfit : (o : Option EditFault) (v : Option Version) (from : Version) (c : Cause) (accepted : Built → Type 0) (refused : Cause → Type 0) → RefusedOr o v (Ok from) → refused c → ByRefusal o (Err (Store c)) accepted refused
looked_unfit (Some f) v from c accepted refused h r = let z : ◌≡◌ {A = ℕ} 0 1 = cc in absurd (omega arith)
looked_unfit None v from c accepted refused h r = (c, refl, r)

pub sub_is : (a b c : ℕ) → a ≡ b + c → a - b ≡ c
sub_is a b c e = omega arith

module _ {R : Type 0} where
  -- readings of two parts
  readings_append : (as' bs : List (Item R)) → readings_in (as' ++ bs) ≡ readings_in as' + readings_in bs
  unfolding readings_in
  readings_append [] bs = omega arith
  readings_append (a ∷ as') bs = let ih = readings_append as' bs in omega arith

  readings_between : (p : ℕ) (xs : List (Item R)) (x : Item R) → readings_in (take p xs ++ (x ∷ drop p xs)) ≡ readings_in xs + length x.content.row
  unfolding readings_in
  readings_between p xs x =
      let a = readings_append (take p xs) (x ∷ drop p xs) in
      let b : readings_in xs ≡ readings_in (take p xs) + readings_in (drop p xs) = ap readings_in (sym (take-append-drop p xs)) ∙ readings_append (take p xs) (drop p xs) in
      omega arith

  pub readings_few : (xs : List (Item R)) → AllByRecursion WithinLimits xs → readings_in xs ≤ length xs * 1024
  unfolding readings_in
  readings_few [] h = omega arith
  readings_few (x ∷ xs) h = let ih = readings_few xs h.1 in let m = h.0.most in omega arith

  length_between : (p : ℕ) (xs : List (Item R)) (x : Item R) → p ≤ length xs → length (take p xs ++ (x ∷ drop p xs)) ≡ length xs + 1
  length_between p xs x h =
      let a = length-append (take p xs) (x ∷ drop p xs) in
      let b = length-take p xs in
      let c = length-drop p xs in
      omega arith

  pub all_between : (P : Item R → Type 0) (p : ℕ) (xs : List (Item R)) (x : Item R) → AllByRecursion P xs → P x → AllByRecursion P (take p xs ++ (x ∷ drop p xs))
  all_between P p xs x h k = All-append P (take p xs) (x ∷ drop p xs) (All-take P p xs h) (k, All-drop P p xs h)

  -- what stood in the list of rows still stands, and the row that was put too
  pub placed_kept : (before after : List (List R)) (row : List R) (n : ℕ) → Placed before row n after → (k : ℕ) (r : List R) → slice_get before k ≡ Some r → slice_get after k ≡ Some r
  placed_kept before after row n (earlier same there) k r h = ap (λ l. slice_get l k) same ∙ h
  placed_kept before after row n (added more is) k r h = ap (λ l. slice_get l k) more ∙ nth_front before (row ∷ []) k (slice_get_within before k r h) ∙ h

  pub placed_new : (before after : List (List R)) (row : List R) (n : ℕ) → Placed before row n after → slice_get after n ≡ Some row
  placed_new before after row n (earlier same there) = ap (λ l. slice_get l n) same ∙ there
  placed_new before after row n (added more is) = ap (λ l. slice_get l n) more ∙ nth_end before row n is

  pub rows_kept : (before after : List (List R)) → ((k : ℕ) (r : List R) → slice_get before k ≡ Some r → slice_get after k ≡ Some r) → (xs : List (Item R)) → RowsStand before xs → RowsStand after xs
  rows_kept before after h xs k =
      All-weaker (λ x. slice_get before x.content.number ≡ Some x.content.row) (λ x. slice_get after x.content.number ≡ Some x.content.row) (λ x q. h x.content.number x.content.row q) xs k

  -- the rows of every version after one edit more
  pub rows_next : (rows : List (List R)) (e : Edit R) (es : List (Edit R)) → ((v : ℕ) → RowsStand rows (list_of es v)) → RowsStand rows (next_list es e) → (v : ℕ) → RowsStand rows (list_of (e ∷ es) v)
  rows_next rows e es old new v =
      elim (dec_le v (length es)) [
        | yes h ↦ subst (RowsStand rows) (sym (list_later e es v h)) (old v)
        | no h ↦ elim (dec_le v (suc (length es))) [
          | yes k ↦ (let i : v ≡ suc (length es) = omega arith in subst (RowsStand rows) (sym (ap (list_of (e ∷ es)) i ∙ list_new e es)) new)
          | no k ↦ subst (RowsStand rows) (sym (past v (omega arith))) tt
        ]
      ]
    where
      past : (w : ℕ) → suc (length es) < w → list_of (e ∷ es) w ≡ []
      past w h = let n = (histories_sound (e ∷ es)).0 in ap (λ o. unwrap_or o []) (slice_get_past (lists (e ∷ es)) w (omega arith))

module _ {R Q S : Type 0} (means : Summing R Q) (keeps : Keeping S R) (s : Tables Q) (store after : S) (base place level : ℕ) (row : List R) (from : Version)
    (n : ℕ) (block : Block Q) (nodes : List (Node Q)) (at next : ℕ) where
  -- the record that is written
  abbrev pub noted : Version
  noted = record { parent = base; edit = Insert; place = place; level = level; block = block.number; root = at; blocks = (from.blocks + 1) % 2 ^ 32; readings = (from.readings + block.length) % 2 ^ 32; written = next - s.used }

  module _ (es : List (Edit R)) (st : Stands means keeps.rows es s store) (looked : RefusedOr (insert_refusal s es base place level (length row)) (slice_get s.versions base) (Ok from))
      (taken : Taken keeps.rows keeps.refuses keeps.area_long store row n after) (leaf : LeafOf means (record { number = n; row = row }) block) (free_only : WritesFreeOnly s.nodes s.used nodes next)
      (walked : Inserted means s.nodes s.used from.root place block nodes at next level) (size : length nodes ≡ length s.nodes) where
    new : Content R
    new = record { number = n; row = row }

    xs : List (Item R)
    xs = list_of es base

    pub none : insert_refusal s es base place level (length row) ≡ None
    none = (looked_ok _ _ from looked).0

    accepted_as : RowAcceptedAs means keeps es s (insert base place level) row (record { root = at; used = next }) nodes (set s.versions s.count noted) after n
    unfolding new xs
    accepted_as =
        let e = insert base place level new in
        let tb = st.tables in
        let a = passed _ _ _ none in
        let low = leb-false (suc (length es)) base a.0 in
        let d = passed _ _ _ a.1 in
        let in_place = ltb-false (length xs) place d.0 in
        let p = all_passed level (length row) _ _ _ _ d.1 in
        let b : BaseFound means s es tb base from = found_below means s es tb base (omega arith) from (looked_ok _ _ from looked).1 in
        let w = b.stands in
        let roomy = leb-false 500 (length xs) p.roomy in
        let open_table = leb-false (version_limit s) (suc (length es)) p.open_table in
        let kept = placed_kept (keeps.rows store) (keeps.rows after) row n taken.placed in
        let plan : Plan Laid = insert_at (suc (length es)) level b.tree place in
        let planned = insert_planned es base place b.tree plan w.shaped (kept_placed b.tree plan (insert_keeps b.tree (suc (length es)) level b.tree place whole)) level new in_place (insert_plain (suc (length es)) level b.tree place) in
        let bound = edits_bounded es e in_place in
        let count_is = tb.counted in
        let used_is = tb.used_up in
        let enough : path xs place + 2 ≤ node_limit s - s.used = subst (λ u. path xs place + 2 ≤ node_limit s - u) (sym used_is) p.enough in
        let room = has_room means s es tb e from b plan planned (path xs place + 2) bound enough in
        let out : LaidOut means (content_of (e ∷ es)) s.used plan nodes at next = walked (content_of (e ∷ es)) (suc (length es)) (brought_leaf means s es tb e from b block leaf) b.tree place (base_ready means s es tb e from b) (base_place means s es tb e from b place in_place) room in
        let mw : made plan ≡ written_by es e = made_is means s es tb e from b plan planned in
        let up : next ≡ s.used + made plan = out.used_up in
        let fits = tb.nodes_fit in
        let item : Item R = record { identity = suc (length es); level = level; content = new } in
        let in_limits : AllByRecursion WithinLimits (next_list es e) = all_between WithinLimits place xs item w.in_limits (record { level = p.flat; some = p.some; most = p.most }) in
        let long = length_between place xs item in_place in
        let few : length (next_list es e) ≤ 500 = omega arith in
        let blocks : (from.blocks + 1) % 2 ^ 32 ≡ length (next_list es e) = (let q = b.told_of.blocks_is in mod-eq_of_lt (omega arith) ∙ omega arith) in
        let readings : (from.readings + block.length) % 2 ^ 32 ≡ readings_in (next_list es e) = (let z : block.length ≡ length row = leaf.size in let q = b.told_of.readings_is in let l = readings_few xs w.in_limits in let m = p.most in mod-eq_of_lt (omega arith) ∙ (let t = readings_between place xs item in omega arith)) in
        let grew : next ≡ s.used + written_by es e = up ∙ ap (λ k. s.used + k) mw in
        let count : next - s.used ≡ written_by es e = sub_is next s.used (written_by es e) grew in
        let is : noted ≡ edit_record es e (next_list es e) at = λ i. record { parent = base; edit = Insert; place = place; level = level; block = leaf.number i; root = at; blocks = blocks i; readings = readings i; written = count i } in
        record {
          written = grew;
          stands = record {
            tables = edit_stands means s es tb e from b plan planned nodes at next noted out free_only size (omega arith) (omega arith) is in_limits few;
            stored = rows_next (keeps.rows after) e es (λ v. rows_kept (keeps.rows store) (keeps.rows after) kept (list_of es v) (st.stored v))
                (all_between (λ x. slice_get (keeps.rows after) x.content.number ≡ Some x.content.row) place xs item (rows_kept (keeps.rows store) (keeps.rows after) kept xs (st.stored base)) (placed_new (keeps.rows store) (keeps.rows after) row n taken.placed));
          };
        }

    pub accepted : s.count < length s.versions → RowAccepted means keeps es s (insert base place level) row (record { root = at; used = next }) nodes (set s.versions s.count noted) after
    accepted room =
        subst (RowAcceptedAs means keeps es s (insert base place level) row (record { root = at; used = next }) nodes (set s.versions s.count noted) after)
        (sym (block_new s.versions s.count noted room ∙ leaf.number)) accepted_as

    -- the same as the insert's answer, where the table of versions holds the record
    pub answered : s.count < length s.versions → (versions : List Version) → versions ≡ set s.versions s.count noted
        → ByRefusal (insert_refusal s es base place level (length row)) (Ok (record { root = at; used = next })) (λ b. RowAccepted means keeps es s (insert base place level) row b nodes versions after)
        (OneCause keeps.rows keeps.refuses keeps.area_long store row)
    answered room versions is =
        subst (λ l. ByRefusal (insert_refusal s es base place level (length row)) (Ok (record { root = at; used = next })) (λ b. RowAccepted means keeps es s (insert base place level) row b nodes l after)
        (OneCause keeps.rows keeps.refuses keeps.area_long store row)) (sym is)
        (looked_accepted (insert_refusal s es base place level (length row)) (slice_get s.versions base) from (record { root = at; used = next })
        (λ b. RowAccepted means keeps es s (insert base place level) row b nodes (set s.versions s.count noted) after) (OneCause keeps.rows keeps.refuses keeps.area_long store row) looked (accepted room))
