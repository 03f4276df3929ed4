-- What the calls answer and leave, and what then stands: the edits, whichever it is, and the questions. Assumes nothing.
use Rattle.store.specs.Keeping.{Keeping, PutOnce}
use Rattle.std.specs.Prelude.{◌≡◌, ℕ, suc, ◌+◌, ◌<◌, ◌≤◌, Bool, nat_le, List, ◌∷◌, length, Some, None, Ok, Err, Option, Result, slice_set}
use Rattle.std.specs.List.{slice_get}
use Rattle.summary.specs.Summing.{Summing}
use Rattle.store.specs.declared.cause.Cause.{Cause}
use Rattle.store.specs.Interface.{OneCause}
use Rattle.flexlist.specs.Edits.{Edit, list_of}
use Rattle.flexlist.specs.Edits as edits
use Rattle.flexlist.specs.Replay.{written_by, InPlace, WithinBound}
use Rattle.flexlist.specs.Chains.{chain_of, replayed}
use Rattle.flexlist.specs.Laid.{Laid, Part}
use Rattle.nodes.specs.Holding.{WritesFreeOnly}
use Rattle.questions.specs.declared.found.Answer.{Answer}
use Rattle.archive.specs.declared.version.Version.{Version}
use Rattle.archive.specs.declared.version.Kind.{Kind}
use Rattle.archive.specs.declared.version.Kind.TheVariants as kind
use Rattle.archive.specs.declared.fault.EditFault.{EditFault}
use Rattle.archive.specs.declared.fault.EditFault.TheVariants as fault
use Rattle.archive.specs.declared.fault.ReadFault.{ReadFault}
use Rattle.archive.specs.declared.fault.ReadFault.TheVariants as unread
use Rattle.archive.specs.declared.table.Accepted.{Accepted}
use Rattle.archive.specs.declared.table.NodeTable.{NodeTable}
use Rattle.archive.specs.Records.{edit_of, edits_before, block_at}
use Rattle.archive.specs.Stands.{Tables, Stands, tables_of, node_limit, version_limit}
use Rattle.archive.specs.Held.{HoldsAll}
use Rattle.archive.specs.Looking.{in_use}
use Rattle.archive.specs.Refusals.{insert_early, change_early, insert_refusal, change_refusal, removal_refusal}
use Rattle.archive.specs.Asking.{reading_answer, span_answer, span_output, summary_answer}

-- an edit as it is asked for: base, place, level and row, as far as it has them
pub data Asked (R : Type 0) : Type 0 where
  insert : ℕ → ℕ → ℕ → List R → Asked R
  append : ℕ → List R → Asked R
  change : ℕ → ℕ → List R → Asked R
  removal : ℕ → ℕ → Asked R

-- an archive: its tables and its store
pub record Archive (Q S : Type 0) : Type 0 where
  pub tables : Tables Q
  pub store : S

abbrev pub archive_of : {Q S : Type 0} → NodeTable Q → List Version → S → Archive Q S
archive_of t versions store = record { tables = tables_of t.nodes.now t.used versions t.count; store = store }

module _ {R : Type 0} where
  -- The edit that is asked for after the edits es, where n is its row's number in the store, if it has a row. An append becomes the insert, of level 0,
  -- whose place is how many blocks its base has.
  abbrev pub edit_asked : List (Edit R) → Asked R → ℕ → Edit R
  edit_asked es (insert base place level row) n = edits.Edit.insert base place level (record { number = n; row = row })
  edit_asked es (append base row) n = edits.Edit.insert base (length (list_of es base)) 0 (record { number = n; row = row })
  edit_asked es (change base place row) n = edits.Edit.change base place (record { number = n; row = row })
  edit_asked es (removal base place) n = edits.Edit.removal base place

  -- the first refusal of the replay, the store's apart
  abbrev pub asked_refusal : {Q : Type 0} → Tables Q → List (Edit R) → Asked R → Option EditFault
  asked_refusal t es (insert base place level row) = insert_refusal t es base place level (length row)
  asked_refusal t es (append base row) = insert_refusal t es base (length (list_of es base)) 0 (length row)
  asked_refusal t es (change base place row) = change_refusal t es base place (length row)
  asked_refusal t es (removal base place) = removal_refusal t es base place

module _ {R : Type 0} where
  abbrev pub asked_base : Asked R → ℕ
  asked_base (insert base place level row) = base
  asked_base (append base row) = base
  asked_base (change base place row) = base
  asked_base (removal base place) = base

  -- the place, by the base's record: an append's is past the base's last block
  abbrev pub asked_place : Asked R → Version → ℕ
  asked_place (insert base place level row) from = place
  asked_place (append base row) from = from.blocks
  asked_place (change base place row) from = place
  asked_place (removal base place) from = place

  -- an append and what has no level have 0
  abbrev pub asked_level : Asked R → ℕ
  asked_level (insert base place level row) = level
  asked_level (append base row) = 0
  asked_level (change base place row) = 0
  asked_level (removal base place) = 0

  abbrev pub asked_kind : Asked R → Kind
  asked_kind (insert base place level row) = kind.Insert
  asked_kind (append base row) = kind.Insert
  asked_kind (change base place row) = kind.Change
  asked_kind (removal base place) = kind.Removal

  -- its row, if it has one, is as long as a block may be
  abbrev pub AskedSized : Asked R → Type 0
  AskedSized (insert base place level row) = (1 ≤ length row) × (length row ≤ 1024)
  AskedSized (append base row) = (1 ≤ length row) × (length row ≤ 1024)
  AskedSized (change base place row) = (1 ≤ length row) × (length row ≤ 1024)
  AskedSized (removal base place) = Unit {0}

  -- The first refusal that arguments, counts and the base's record decide, whatever nodes there are: the version, the place, the level, the row's
  -- length, 500 blocks, the table of versions.
  abbrev pub record_refusal : Bool → Asked R → Option Version → Option EditFault
  record_refusal full asked None = Some fault.Version
  record_refusal full (insert base place level row) (Some from) = insert_early full place level (length row) from
  record_refusal full (append base row) (Some from) = insert_early full from.blocks 0 (length row) from
  record_refusal full (change base place row) (Some from) = change_early full place (length row) from
  record_refusal full (removal base place) (Some from) = change_early full place 1 from

  abbrev pub early_refusal : {Q : Type 0} → Tables Q → Asked R → Option EditFault
  early_refusal t asked = record_refusal (nat_le (version_limit t) t.count) asked (in_use t.versions t.count (asked_base asked))

-- each edit's place is one of its base's list
abbrev pub EachInPlace : {R : Type 0} → List (Edit R) → Type 0
EachInPlace {R} es = (v : ℕ) (e : Edit R) → edit_of es v ≡ Some e → InPlace (edits_before es v) e

-- an answer, by the first refusal of the replay, and by the store's where there is none
abbrev pub Answered : {A : Type 0} → Option EditFault → Result A EditFault → (A → Type 0) → (Cause → Type 0) → Type 0
Answered (Some f) r accepted refused = r ≡ Err f
Answered None (Ok x) accepted refused = accepted x
Answered None (Err f) accepted refused = (c : Cause) × (f ≡ fault.Store c) × refused c

module _ {R Q S : Type 0} (means : Summing R Q) (keeps : Keeping S R) where
  -- a row is put once, under the number n; a removal has none, and the number 0
  abbrev pub RowPut : S → Asked R → ℕ → S → Type 0
  RowPut s (insert base place level row) n t = PutOnce keeps s row n t
  RowPut s (append base row) n t = PutOnce keeps s row n t
  RowPut s (change base place row) n t = PutOnce keeps s row n t
  RowPut s (removal base place) n t = (n ≡ 0) × (t ≡ s)

  -- with this one cause the store refuses the row; a removal it never refuses
  abbrev pub RowRefused : S → Asked R → Cause → Type 0
  RowRefused s (insert base place level row) c = OneCause keeps.rows keeps.refuses keeps.area_long s row c
  RowRefused s (append base row) c = OneCause keeps.rows keeps.refuses keeps.area_long s row c
  RowRefused s (change base place row) c = OneCause keeps.rows keeps.refuses keeps.area_long s row c
  RowRefused s (removal base place) c = ⊥

  -- the number under which an edit's row stands: the record of the version that it gave has it
  abbrev pub number_in : Archive Q S → Archive Q S → ℕ
  number_in s t = block_at t.tables.versions s.tables.count

  -- What is recorded of an accepted edit, but for its row's number and its tree: the root, its blocks and its readings.
  pub record Recorded (s : Archive Q S) (asked : Asked R) (x : Accepted) (noted : Version) : Type 0 where
    pub from : Version
    pub based : in_use s.tables.versions s.tables.count (asked_base asked) ≡ Some from
    pub parent : noted.parent ≡ asked_base asked
    pub kind_is : noted.edit ≡ asked_kind asked
    pub place : noted.place ≡ asked_place asked from
    pub level : noted.level ≡ asked_level asked
    pub written : noted.written ≡ x.written

  -- What an accepted edit left, whatever the tables held: free nodes were written, as many as it says and no more than the limit; one record, of the next
  -- version; its row was put once, under the number that the record has. Its level and its row keep the limits.
  pub record EditDone (s : Archive Q S) (asked : Asked R) (x : Accepted) (t : Archive Q S) : Type 0 where
    pub early : early_refusal s.tables asked ≡ None
    pub level : asked_level asked ≤ 15
    pub row : AskedSized asked
    pub version : x.version ≡ s.tables.count
    pub below : s.tables.count < version_limit s.tables
    pub counted : t.tables.count ≡ s.tables.count + 1
    pub growth : t.tables.used ≡ s.tables.used + x.written
    pub within : t.tables.used ≤ node_limit s.tables
    pub sized : length t.tables.nodes ≡ length s.tables.nodes
    pub free_only : WritesFreeOnly s.tables.nodes s.tables.used t.tables.nodes t.tables.used
    pub noted : Version
    pub recorded : t.tables.versions ≡ slice_set s.tables.versions s.tables.count noted
    pub says : Recorded s asked x noted
    pub put : RowPut s.store asked (number_in s t) t.store

  -- Why an edit is refused that its arguments, the counts and the base's record do not refuse: the nodes cannot be walked to its place, which is never so
  -- where tables stand; fewer nodes are free than it may need; or the store refuses the row.
  pub data LateRefusal (s : Archive Q S) (asked : Asked R) (f : EditFault) : Type 0 where
    no_path : f ≡ fault.Version → LateRefusal s asked f
    few_nodes : f ≡ fault.Nodes → LateRefusal s asked f
    no_fit : (c : Cause) → f ≡ fault.Store c → RowRefused s.store asked c → LateRefusal s asked f

  abbrev pub RefusedBy : Option EditFault → Archive Q S → Asked R → EditFault → Type 0
  RefusedBy (Some g) s asked f = f ≡ g
  RefusedBy None s asked f = LateRefusal s asked f

  -- what an edit left; a refusal leaves all as found
  abbrev pub EditKept : Archive Q S → Asked R → Result Accepted EditFault → Archive Q S → Type 0
  EditKept s asked (Ok x) t = EditDone s asked x t
  EditKept s asked (Err f) t = (t ≡ s) × RefusedBy (early_refusal s.tables asked) s asked f

  -- The tables and the store stand for edits, each of which is at a place of its base's list. Each version's list is its own chain of edits done on the
  -- empty version, and every node of its tree keeps the summary of what lies under it, and how many readings and blocks that is.
  pub record StandsInPlace (es : List (Edit R)) (t : Tables Q) (store : S) : Type 0 where
    pub stands : Stands means keeps.rows es t store
    pub placed : EachInPlace es
    pub chains : (v : ℕ) → list_of es v ≡ replayed (chain_of es v)
    pub held : (v : ℕ) (tree : Laid) → slice_get stands.tables.trees v ≡ Some tree → (stretch : Laid) → Part stretch tree →
        HoldsAll means es t.nodes stretch

  -- What stands: an archive after the edits of a history, the newest first; or one without versions, which has none.
  abbrev pub Standing : Option (List (Edit R)) → Archive Q S → Type 0
  Standing None s = s.tables.count ≡ 0
  Standing (Some es) s = StandsInPlace es s.tables s.store

  -- An accepted edit after the edits es: it answers the next version's number and as many nodes as the sharing rule counts, by which the table grew and
  -- which are within the bound of its paths; its row was put once, under the number that the edit has; and the archive stands for one edit more.
  pub record EditAccepted (es : List (Edit R)) (s : Archive Q S) (asked : Asked R) (x : Accepted) (t : Archive Q S) : Type 0 where
    pub version : x.version ≡ suc (length es)
    pub written : x.written ≡ written_by es (edit_asked es asked (number_in s t))
    pub growth : t.tables.used ≡ s.tables.used + x.written
    pub bounded : WithinBound es (edit_asked es asked (number_in s t))
    pub put : RowPut s.store asked (number_in s t) t.store
    pub stands : StandsInPlace (edit_asked es asked (number_in s t) ∷ es) t.tables t.store

  -- an edit as the replay has it: without versions every edit is refused
  abbrev pub EditTold : Option (List (Edit R)) → Archive Q S → Asked R → Result Accepted EditFault → Archive Q S → Type 0
  EditTold None s asked r t = r ≡ Err fault.Version
  EditTold (Some es) s asked r t = Answered (asked_refusal s.tables es asked) r (λ x. EditAccepted es s asked x t) (RowRefused s.store asked)

  -- what an edit means on an archive that stands
  abbrev pub EditLaw : Archive Q S → Asked R → Result Accepted EditFault → Archive Q S → Type 0
  EditLaw s asked r t = (h : Option (List (Edit R))) → Standing h s → EditTold h s asked r t

-- A question, by the history: without versions every question is refused.
module _ {R : Type 0} where
  abbrev pub reading_told : Option (List (Edit R)) → ℕ → ℕ → Result (Answer R) ReadFault
  reading_told None v position = Err unread.Version
  reading_told (Some es) v position = reading_answer es v position

  abbrev pub span_told : Option (List (Edit R)) → ℕ → ℕ → ℕ → ℕ → Result ℕ ReadFault
  span_told None v a b n = Err unread.Version
  span_told (Some es) v a b n = span_answer es v a b n

  -- what stands in a span's output then
  abbrev pub span_leaves : Option (List (Edit R)) → ℕ → ℕ → ℕ → List R → List R
  span_leaves None v a b out = out
  span_leaves (Some es) v a b out = span_output es v a b out

  abbrev pub summary_told : {Q : Type 0} → Summing R Q → Option (List (Edit R)) → ℕ → ℕ → ℕ → Result Q ReadFault
  summary_told means None v a b = Err unread.Version
  summary_told means (Some es) v a b = summary_answer means es v a b

-- what the questions mean on an archive that stands
module _ {R Q S : Type 0} (means : Summing R Q) (keeps : Keeping S R) (s : Archive Q S) where
  abbrev pub ReadingTold : ℕ → ℕ → Result (Answer R) ReadFault → Type 0
  ReadingTold v position r = (h : Option (List (Edit R))) → Standing means keeps h s → r ≡ reading_told h v position

  abbrev pub SpanTold : ℕ → ℕ → ℕ → List R → Result ℕ ReadFault → List R → Type 0
  SpanTold v a b out r after = (h : Option (List (Edit R))) → Standing means keeps h s → (r ≡ span_told h v a b (length out)) × (after ≡ span_leaves h v a b out)

  abbrev pub SummaryTold : ℕ → ℕ → ℕ → Result Q ReadFault → Type 0
  SummaryTold v a b r = (h : Option (List (Edit R))) → Standing means keeps h s → r ≡ summary_told means h v a b
