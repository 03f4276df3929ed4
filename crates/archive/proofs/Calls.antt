-- From the edits over plain slices to the edits on a node table. Assumes nothing.
use Rattle.store.specs.Keeping.{Keeping}
use Rattle.std.proofs.Common.{◌≡◌, ℕ, Bool, leb, ◌+◌, ◌-◌, ◌<◌, inl, inr, List, ◌∷◌, length, Some, None, Ok, Err, Option, Result, sym, refl, ap, ◌∙◌, subst, arith, ltb-false, leb-false}
use Rattle.summary.specs.Summing.{Summing, Lawful}
use Rattle.store.specs.declared.cause.Cause.{Cause}
use Rattle.flexlist.specs.Edits.{Content, Edit, list_of}
use Rattle.flexlist.specs.Edits as edits
use Rattle.flexlist.specs.Replay.{InPlace, WithinBound, written_by}
use Rattle.flexlist.proofs.Chains.{chains_replayed}
use Rattle.flexlist.proofs.EditBounds.{edits_bounded}
use Rattle.nodes.specs.declared.node.Node.{Node}
use Rattle.nodes.specs.declared.walks.Built.{Built}
use Rattle.questions.specs.declared.found.Answer.{Answer}
use Rattle.archive.specs.declared.version.Version.{Version}
use Rattle.archive.specs.declared.fault.EditFault.{EditFault}
use Rattle.archive.specs.declared.fault.ReadFault.{ReadFault}
use Rattle.archive.specs.declared.fault.ReadFault.TheVariants as unread
use Rattle.archive.specs.declared.table.Accepted.{Accepted}
use Rattle.archive.specs.Stands.{Tables, Stands, tables_of, version_limit}
use Rattle.archive.specs.Looking.{in_use}
use Rattle.archive.specs.Refusals.{insert_early, insert_refusal, change_refusal, removal_refusal}
use Rattle.archive.specs.Editing.{ByRefusal, InsertLaw, ChangeLaw, RemovalLaw}
use Rattle.archive.specs.Records.{edit_of, edits_before}
use Rattle.archive.specs.Calling.{Archive, Asked, Answered, EachInPlace, StandsInPlace, number_in, edit_asked, record_refusal, early_refusal, Recorded, EditDone, EditKept, LateRefusal, no_path, few_nodes, no_fit, RefusedBy, EditAccepted, EditTold, EditLaw, ReadingTold, SpanTold, SummaryTold}
use Rattle.archive.specs.Asking.{ReadingLaw, SpanLeft, SpanLaw, SummaryLaw}
use Rattle.archive.specs.Calling as asked
use Rattle.archive.proofs.Holding.{nodes_hold}
use Rattle.archive.proofs.Inserts.{sub_is}
use Rattle.archive.proofs.Looks.{found}
use Rattle.archive.proofs.Tried.{passed}
use Rattle.archive.proofs.Later.{same_some, older_or_new, edit_later, before_later, edit_new, before_new, edit_past}

-- the archive that a table of nodes, its counts, a table of versions and a store are
abbrev pub archive : {Q S : Type 0} → List (Node Q) → ℕ → List Version → ℕ → S → Archive Q S
archive nodes used versions count store = record { tables = tables_of nodes used versions count; store = store }

pub same_archive : {Q S : Type 0} (n m : List (Node Q)) (u w : ℕ) (v y : List Version) (k l : ℕ) (s t : S) → n ≡ m → u ≡ w → v ≡ y → k ≡ l → s ≡ t → archive n u v k s ≡ archive m w y l t
same_archive n m u w v y k l s t a b c d e =
    ap (λ x. archive x u v k s) a ∙ (ap (λ x. archive m x v k s) b ∙ (ap (λ x. archive m w x k s) c ∙ (ap (λ x. archive m w y x s) d ∙ ap (λ x. archive m w y l x) e)))

-- an answer that was accepted met no refusal
pub still_accepted : {A : Type 0} (o : Option EditFault) (b : Built) (x : A) (accepted : Built → Type 0) (accepts : A → Type 0) (refused : Cause → Type 0) → ByRefusal o (Ok b) accepted refused
    → (o ≡ None → accepted b → accepts x) → Answered o (Ok x) accepts refused
still_accepted (Some g) b x accepted accepts refused h k = let z : ◌≡◌ {A = ℕ} 0 1 = cc in absurd (omega arith)
still_accepted None b x accepted accepts refused h k = k refl h

-- what an edit answers, by what its walk built
abbrev pub counted_by : ℕ → ℕ → Built → Accepted
counted_by count used b = record { version = count; written = b.used - used }

-- one edit more at a place of its base's list
module _ {R : Type 0} (es : List (Edit R)) (e : Edit R) where
  pub one_more_in_place : EachInPlace es → InPlace es e → EachInPlace (e ∷ es)
  one_more_in_place placed there v f q =
      elim (older_or_new es v (edit_past (e ∷ es) v f q)) [
        | inl h ↦ subst (λ past. InPlace past f) (sym (before_later e es v h)) (placed v f (sym (edit_later e es v h) ∙ q))
        | inr h ↦ (let same : e ≡ f = same_some e f (sym (edit_new e es) ∙ ap (edit_of (e ∷ es)) (sym h) ∙ q) in
            subst (λ past. InPlace past f) (sym (ap (edits_before (e ∷ es)) h ∙ before_new e es)) (subst (InPlace es) same there))
      ]

-- the place of an edit that no refusal met is one of the base's
module _ {R Q : Type 0} (t : Tables Q) (es : List (Edit R)) where
  insert_in_place : (base place level : ℕ) (c : Content R) → insert_refusal t es base place level (length c.row) ≡ None → InPlace es (edits.Edit.insert base place level c)
  insert_in_place base place level c e = ltb-false (length (list_of es base)) place (passed _ _ _ (passed _ _ _ e).1).0

  change_in_place : (base place : ℕ) (c : Content R) → change_refusal t es base place (length c.row) ≡ None → InPlace es (edits.Edit.change base place c)
  change_in_place base place c e = leb-false (length (list_of es base)) place (passed _ _ _ (passed _ _ _ e).1).0

  removal_in_place : (base place : ℕ) → removal_refusal t es base place ≡ None → InPlace es (edits.Edit.removal base place)
  removal_in_place base place e = leb-false (length (list_of es base)) place (passed _ _ _ (passed _ _ _ e).1).0

-- tables and a store that stand for edits at places of their bases, in all that this means
pub standing : {R Q S : Type 0} (means : Summing R Q) (lawful : Lawful means) (keeps : Keeping S R) (es : List (Edit R)) (t : Tables Q) (store : S) → Stands means keeps.rows es t store → EachInPlace es
    → StandsInPlace means keeps es t store
standing means lawful keeps es t store st placed = record { stands = st; placed = placed; chains = chains_replayed es; held = nodes_hold means lawful es t st.tables }

-- an accepted edit, over plain slices and on a node table
module _ {R Q S : Type 0} (means : Summing R Q) (lawful : Lawful means) (keeps : Keeping S R) (s : Archive Q S) (nodes : List (Node Q)) (versions : List Version) (after : S) (b : Built) where
  abbrev next : Archive Q S
  next = archive nodes b.used versions (s.tables.count + 1) after

  -- the edit e of the number that was recorded, at a place of its base
  accepted : (asked : Asked R) (e : Edit R) (es : List (Edit R)) → edit_asked es asked (number_in means keeps s next) ≡ e → EditDone means keeps s asked (counted_by s.tables.count s.tables.used b) next
      → StandsInPlace means keeps es s.tables s.store → InPlace es e → b.used ≡ s.tables.used + written_by es e → Stands means keeps.rows (e ∷ es) (tables_of nodes b.used versions (s.tables.count + 1)) after
      → EditAccepted means keeps es s asked (counted_by s.tables.count s.tables.used b) next
  accepted asked e es is left st there written stands =
      let all = standing means lawful keeps (e ∷ es) (tables_of nodes b.used versions (s.tables.count + 1)) after stands (one_more_in_place es e st.placed there) in
      record {
        version = st.stands.tables.counted;
        written = sub_is b.used s.tables.used (written_by es e) written ∙ ap (written_by es) (sym is);
        growth = left.growth;
        bounded = subst (WithinBound es) (sym is) (edits_bounded es e there);
        put = left.put;
        stands = subst (λ f. StandsInPlace means keeps (f ∷ es) next.tables next.store) (sym is) all;
      }

  module _ (base place level : ℕ) (row : List R) (left : EditDone means keeps s (asked.Asked.insert base place level row) (counted_by s.tables.count s.tables.used b) next) where
    pub insert_ok : InsertLaw means keeps s.tables s.store base place level row (Ok b) nodes versions after → base < s.tables.count
        → EditLaw means keeps s (asked.Asked.insert base place level row) (Ok (counted_by s.tables.count s.tables.used b)) next
    insert_ok law l None st = absurd (omega arith)
    insert_ok law l (Some es) st = still_accepted (insert_refusal s.tables es base place level (length row)) b (counted_by s.tables.count s.tables.used b) _ _ _ (law es st.stands)
        (λ none acc. let c : Content R = record { number = number_in means keeps s next; row = row } in
        accepted (asked.Asked.insert base place level row) (edits.Edit.insert base place level c) es refl left st (insert_in_place s.tables es base place level c none) acc.written acc.stands)

  module _ (base place : ℕ) (row : List R) (left : EditDone means keeps s (asked.Asked.change base place row) (counted_by s.tables.count s.tables.used b) next) where
    pub change_ok : ChangeLaw means keeps s.tables s.store base place row (Ok b) nodes versions after → base < s.tables.count
        → EditLaw means keeps s (asked.Asked.change base place row) (Ok (counted_by s.tables.count s.tables.used b)) next
    change_ok law l None st = absurd (omega arith)
    change_ok law l (Some es) st = still_accepted (change_refusal s.tables es base place (length row)) b (counted_by s.tables.count s.tables.used b) _ _ _ (law es st.stands)
        (λ none acc. let c : Content R = record { number = number_in means keeps s next; row = row } in
        accepted (asked.Asked.change base place row) (edits.Edit.change base place c) es refl left st (change_in_place s.tables es base place c none) acc.written acc.stands)

  module _ (base place : ℕ) (left : EditDone means keeps s (asked.Asked.removal base place) (counted_by s.tables.count s.tables.used b) next) where
    pub removal_ok : after ≡ s.store → RemovalLaw means keeps.rows s.tables s.store base place (Ok b) nodes versions → base < s.tables.count
        → EditLaw means keeps s (asked.Asked.removal base place) (Ok (counted_by s.tables.count s.tables.used b)) next
    removal_ok same law l None st = absurd (omega arith)
    removal_ok same law l (Some es) st = still_accepted (removal_refusal s.tables es base place) b (counted_by s.tables.count s.tables.used b) _ _ _ (law es st.stands)
        (λ none acc. let stands = subst (Stands means keeps.rows (edits.Edit.removal base place ∷ es) (tables_of nodes b.used versions (s.tables.count + 1))) (sym same) acc.stands in
        accepted (asked.Asked.removal base place) (edits.Edit.removal base place) es refl left st (removal_in_place s.tables es base place none) acc.written stands)

-- what is accepted may be said in other words
answered_as : {A : Type 0} (o : Option EditFault) (r : Result A EditFault) (accepted accepts : A → Type 0) (refused : Cause → Type 0) → ((x : A) → accepted x → accepts x) → Answered o r accepted refused → Answered o r accepts refused
answered_as (Some f) r accepted accepts refused k h = h
answered_as None (Ok x) accepted accepts refused k h = k x h
answered_as None (Err f) accepted accepts refused k h = h

-- an append is an insert at the end
module _ {R Q S : Type 0} (means : Summing R Q) (keeps : Keeping S R) (s t : Archive Q S) (base : ℕ) (row : List R) where
  append_accepted : (es : List (Edit R)) (x : Accepted) → EditAccepted means keeps es s (asked.Asked.insert base (length (list_of es base)) 0 row) x t → EditAccepted means keeps es s (asked.Asked.append base row) x t
  append_accepted es x a = record {
    version = a.version;
    written = a.written;
    growth = a.growth;
    bounded = a.bounded;
    put = a.put;
    stands = a.stands;
  }

  module _ (from : Version) (q : in_use s.tables.versions s.tables.count base ≡ Some from) where
    pub append_law : (r : Result Accepted EditFault) → EditLaw means keeps s (asked.Asked.insert base from.blocks 0 row) r t → EditLaw means keeps s (asked.Asked.append base row) r t
    append_law r law None st = law None st
    append_law r law (Some es) st =
        let blocks = (found means s.tables es st.stands.tables base from q).told_of.blocks_is in
        let there : EditTold means keeps (Some es) s (asked.Asked.insert base (length (list_of es base)) 0 row) r t =
        subst (λ p. EditTold means keeps (Some es) s (asked.Asked.insert base p 0 row) r t) blocks (law (Some es) st) in
        answered_as (insert_refusal s.tables es base (length (list_of es base)) 0 (length row)) r _ _ _ (append_accepted es) there

    same_early : (full : Bool) (o : Option Version) → o ≡ Some from → record_refusal full (asked.Asked.insert base from.blocks 0 row) o ≡ record_refusal full (asked.Asked.append base row) o
    same_early full None e = cc
    same_early full (Some f) e = ap (λ v. insert_early full v.blocks 0 (length row) f) (sym (same_some f from e))

    early_is : early_refusal s.tables (asked.Asked.insert base from.blocks 0 row) ≡ early_refusal s.tables (asked.Asked.append base row)
    early_is = same_early (leb (version_limit s.tables) s.tables.count) (in_use s.tables.versions s.tables.count base) q

    late_append : (f : EditFault) → LateRefusal means keeps s (asked.Asked.insert base from.blocks 0 row) f → LateRefusal means keeps s (asked.Asked.append base row) f
    late_append f (no_path e) = no_path e
    late_append f (few_nodes e) = few_nodes e
    late_append f (no_fit c e r) = no_fit c e r

    refused_append : (o : Option EditFault) (f : EditFault) → RefusedBy means keeps o s (asked.Asked.insert base from.blocks 0 row) f → RefusedBy means keeps o s (asked.Asked.append base row) f
    refused_append (Some g) f h = h
    refused_append None f h = late_append f h

    pub append_kept : (r : Result Accepted EditFault) → EditKept means keeps s (asked.Asked.insert base from.blocks 0 row) r t → EditKept means keeps s (asked.Asked.append base row) r t
    append_kept (Ok x) d = record {
      early = sym early_is ∙ d.early;
      level = d.level;
      row = d.row;
      version = d.version;
      below = d.below;
      counted = d.counted;
      growth = d.growth;
      within = d.within;
      sized = d.sized;
      free_only = d.free_only;
      noted = d.noted;
      recorded = d.recorded;
      says = (let y = d.says in record {
        from = y.from;
        based = y.based;
        parent = y.parent;
        kind_is = y.kind_is;
        place = y.place ∙ ap (λ v. v.blocks) (same_some from y.from (sym q ∙ y.based));
        level = y.level;
        written = y.written;
      });
      put = d.put;
    }
    append_kept (Err f) d = (d.0, refused_append _ f (subst (λ o. RefusedBy means keeps o s (asked.Asked.insert base from.blocks 0 row) f) early_is d.1))

-- the questions, by the history
module _ {R Q S : Type 0} (means : Summing R Q) (keeps : Keeping S R) (lent nodes : List (Node Q)) (same : lent ≡ nodes) (used : ℕ) (versions : List Version) (count : ℕ) (store : S) (v : ℕ) where
  as_lent : (es : List (Edit R)) → Stands means keeps.rows es (archive nodes used versions count store).tables store → Stands means keeps.rows es (archive lent used versions count store).tables store
  as_lent es st = subst (λ n. Stands means keeps.rows es (tables_of n used versions count) store) (sym same) st

  pub reading_asked : (position : ℕ) (r : Result (Answer R) ReadFault) → (count ≡ 0 → r ≡ Err unread.Version) → ReadingLaw means keeps.rows lent versions count store v position r
      → ReadingTold means keeps (archive nodes used versions count store) v position r
  reading_asked position r none law None st = none st
  reading_asked position r none law (Some es) st = law es used (as_lent es st.stands)

  pub span_asked : (a b : ℕ) (out after : List R) (r : Result ℕ ReadFault) → (count ≡ 0 → r ≡ Err unread.Version) → SpanLeft a b out r after → SpanLaw means keeps.rows lent versions count store v a b out r after
      → SpanTold means keeps (archive nodes used versions count store) v a b out r after
  span_asked a b out after r none left law None st = (none st, subst (λ x. SpanLeft a b out x after) (none st) left)
  span_asked a b out after r none left law (Some es) st = law es used (as_lent es st.stands)

  pub summary_asked : (a b : ℕ) (r : Result Q ReadFault) → (count ≡ 0 → r ≡ Err unread.Version) → SummaryLaw means keeps.rows lent versions count store v a b r
      → SummaryTold means keeps (archive nodes used versions count store) v a b r
  summary_asked a b r none law None st = none st
  summary_asked a b r none law (Some es) st = law es used (as_lent es st.stands)
