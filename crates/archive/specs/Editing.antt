-- What an edit answers and leaves, over plain slices. Assumes nothing.
use Rattle.store.specs.Keeping.{Keeping}
use Rattle.std.specs.Prelude.{◌≡◌, ℕ, ◌+◌, ◌-◌, List, ◌∷◌, length, Some, None, Ok, Err, Option, Result}
use Rattle.summary.specs.Summing.{Summing}
use Rattle.store.specs.declared.cause.Cause.{Cause}
use Rattle.store.specs.Interface.{OneCause}
use Rattle.flexlist.specs.Edits.{Content, Edit, insert, change, removal}
use Rattle.flexlist.specs.Replay.{written_by}
use Rattle.nodes.specs.declared.node.Node.{Node}
use Rattle.nodes.specs.declared.walks.Built.{Built}
use Rattle.archive.specs.declared.version.Version.{Version}
use Rattle.archive.specs.declared.fault.EditFault.{EditFault}
use Rattle.archive.specs.declared.fault.EditFault.TheVariants.{Store}
use Rattle.archive.specs.declared.table.Accepted.{Accepted}
use Rattle.archive.specs.Records.{block_at}
use Rattle.archive.specs.Stands.{Tables, Stands, tables_of}
use Rattle.archive.specs.Refusals.{insert_refusal, change_refusal, removal_refusal}
use Rattle.archive.specs.Calling.{Archive, Asked, EditKept}

-- an answer, by the first refusal of the replay and by what the store says of the row
abbrev pub ByRefusal : Option EditFault → Result Built EditFault → (Built → Type 0) → (Cause → Type 0) → Type 0
ByRefusal (Some f) r accepted refused = r ≡ Err f
ByRefusal None (Ok b) accepted refused = accepted b
ByRefusal None (Err f) accepted refused = (c : Cause) × (f ≡ Store c) × refused c

-- the archive that tables and a store are, and the tables after an edit
abbrev pub archive_in : {Q S : Type 0} → Tables Q → S → Archive Q S
archive_in t store = record { tables = t; store = store }

abbrev pub tables_after : {Q : Type 0} → Tables Q → Result Built EditFault → List (Node Q) → List Version → Tables Q
tables_after t (Ok b) nodes versions = tables_of nodes b.used versions (t.count + 1)
tables_after t (Err f) nodes versions = tables_of nodes t.used versions t.count

-- what an edit answers, by what its walk built
abbrev pub accepted_as : {Q : Type 0} → Tables Q → Result Built EditFault → Result Accepted EditFault
accepted_as t (Ok b) = Ok (record { version = t.count; written = b.used - t.used })
accepted_as t (Err f) = Err f

module _ {R Q S : Type 0} (means : Summing R Q) (keeps : Keeping S R) where
  -- what an edit left, whatever the tables held
  abbrev pub EditLeft : Tables Q → S → Asked R → Result Built EditFault → List (Node Q) → List Version → S → Type 0
  EditLeft t store asked r nodes versions after =
      EditKept means keeps (archive_in t store) asked (accepted_as t r) (archive_in (tables_after t r nodes versions) after)

  -- an accepted edit with a row: the tables and the store stand for one edit more, under the number n, whose nodes are as many as the sharing rule counts
  pub record RowAcceptedAs (es : List (Edit R)) (t : Tables Q) (make : Content R → Edit R) (row : List R) (b : Built) (nodes : List (Node Q)) (versions : List Version) (after : S) (n : ℕ) : Type 0 where
    pub written : b.used ≡ t.used + written_by es (make (record { number = n; row = row }))
    pub stands : Stands means keeps.rows (make (record { number = n; row = row }) ∷ es) (tables_of nodes b.used versions (t.count + 1)) after

  -- under the number that the new record has
  abbrev pub RowAccepted : List (Edit R) → Tables Q → (Content R → Edit R) → List R → Built → List (Node Q) → List Version → S → Type 0
  RowAccepted es t make row b nodes versions after = RowAcceptedAs es t make row b nodes versions after (block_at versions t.count)

  -- what an insert means on tables that stand for some edits
  abbrev pub InsertLaw : Tables Q → S → ℕ → ℕ → ℕ → List R → Result Built EditFault → List (Node Q) → List Version → S → Type 0
  InsertLaw t store base place level row r nodes versions after =
      (es : List (Edit R)) → Stands means keeps.rows es t store →
      ByRefusal (insert_refusal t es base place level (length row)) r (λ b. RowAccepted es t (insert base place level) row b nodes versions after)
      (OneCause keeps.rows keeps.refuses keeps.area_long store row)

  -- what a change means on them
  abbrev pub ChangeLaw : Tables Q → S → ℕ → ℕ → List R → Result Built EditFault → List (Node Q) → List Version → S → Type 0
  ChangeLaw t store base place row r nodes versions after =
      (es : List (Edit R)) → Stands means keeps.rows es t store →
      ByRefusal (change_refusal t es base place (length row)) r (λ b. RowAccepted es t (change base place) row b nodes versions after)
      (OneCause keeps.rows keeps.refuses keeps.area_long store row)

module _ {R Q S : Type 0} (means : Summing R Q) (rows : S → List (List R)) where
  pub record RemovalAccepted (es : List (Edit R)) (t : Tables Q) (store : S) (base place : ℕ) (b : Built) (nodes : List (Node Q)) (versions : List Version) : Type 0 where
    pub written : b.used ≡ t.used + written_by es (removal base place)
    pub stands : Stands means rows (removal base place ∷ es) (tables_of nodes b.used versions (t.count + 1)) store

  -- what a removal means on tables that stand for some edits: no store refuses it
  abbrev pub RemovalLaw : Tables Q → S → ℕ → ℕ → Result Built EditFault → List (Node Q) → List Version → Type 0
  RemovalLaw t store base place r nodes versions =
      (es : List (Edit R)) → Stands means rows es t store →
      ByRefusal (removal_refusal t es base place) r (λ b. RemovalAccepted es t store base place b nodes versions) (λ _. ⊥)
