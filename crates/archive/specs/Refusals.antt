-- When a call is refused, and with what number. Assumes nothing.
use Rattle.std.specs.Prelude.{ℕ, suc, ◌+◌, ◌-◌, Bool, cond, ◌||◌, List, length, Some, None, Option, nat_le, nat_lt}
use Rattle.store.specs.Causes.{cause_number}
use Rattle.flexlist.specs.Edits.{Edit, list_of}
use Rattle.flexlist.specs.Replay.{path, two_paths, node_count}
use Rattle.archive.specs.declared.version.Version.{Version}
use Rattle.archive.specs.declared.fault.EditFault.{EditFault}
use Rattle.archive.specs.declared.fault.EditFault.TheVariants as fault
use Rattle.archive.specs.declared.fault.ReadFault.{ReadFault}
use Rattle.archive.specs.declared.fault.ReadFault.TheVariants as unread
use Rattle.archive.specs.Stands.{Tables, node_limit, version_limit}

-- the number of each refusal of an edit
abbrev pub edit_number : EditFault → ℕ
edit_number fault.Version = 1
edit_number fault.Place = 2
edit_number fault.Level = 3
edit_number fault.RowLength = 4
edit_number fault.Blocks = 5
edit_number fault.Versions = 6
edit_number fault.Nodes = 7
edit_number (fault.Store c) = 8

-- the store's cause inside it, 0 where there is none
abbrev pub inner_cause : EditFault → ℕ
inner_cause fault.Version = 0
inner_cause fault.Place = 0
inner_cause fault.Level = 0
inner_cause fault.RowLength = 0
inner_cause fault.Blocks = 0
inner_cause fault.Versions = 0
inner_cause fault.Nodes = 0
inner_cause (fault.Store c) = cause_number c

-- the number of each refusal of a question
abbrev pub read_number : ReadFault → ℕ
read_number unread.Version = 1
read_number unread.Position = 2
read_number unread.Output = 9

-- the first of two refusals, if any
abbrev pub first_of : Option EditFault → Option EditFault → Option EditFault
first_of (Some f) o = Some f
first_of None o = o

-- what is tried after version and place, in this order: the level, the row's length, 500 blocks, the table of versions; no node decides these
abbrev pub early_fault : ℕ → ℕ → Bool → Bool → Option EditFault
early_fault level len crowded full =
    cond (nat_lt 15 level) (Some fault.Level)
    (cond (nat_lt len 1 || nat_lt 1024 len) (Some fault.RowLength)
    (cond crowded (Some fault.Blocks)
    (cond full (Some fault.Versions) None)))

-- Of an insert, and of a change or a removal, by the base's record: the place first. A removal has no row to refuse, and is tried as a change by a row
-- of one reading.
abbrev pub insert_early : Bool → ℕ → ℕ → ℕ → Version → Option EditFault
insert_early full place level len from =
    cond (nat_lt from.blocks place) (Some fault.Place) (early_fault level len (nat_le 500 from.blocks) full)

abbrev pub change_early : Bool → ℕ → ℕ → Version → Option EditFault
change_early full place len from = cond (nat_le from.blocks place) (Some fault.Place) (early_fault 0 len Bool.false full)

-- and then the free nodes
abbrev pub later_fault : ℕ → ℕ → Bool → Bool → ℕ → ℕ → Option EditFault
later_fault level len crowded full free need =
    first_of (early_fault level len crowded full) (cond (nat_lt free need) (Some fault.Nodes) None)

module _ {R Q : Type 0} (s : Tables Q) (es : List (Edit R)) where
  -- is the table of versions full? how many nodes are free?
  abbrev pub full : Bool
  full = nat_le (version_limit s) (suc (length es))

  abbrev pub free : ℕ
  free = node_limit s - node_count es

  -- the first refusal of an insert of a row of so many readings, the store's apart
  abbrev pub insert_refusal : ℕ → ℕ → ℕ → ℕ → Option EditFault
  insert_refusal base place level len =
      cond (nat_le (suc (length es)) base) (Some fault.Version)
      (cond (nat_lt (length (list_of es base)) place) (Some fault.Place)
      (later_fault level len (nat_le 500 (length (list_of es base))) full free (path (list_of es base) place + 2)))

  abbrev pub change_refusal : ℕ → ℕ → ℕ → Option EditFault
  change_refusal base place len =
      cond (nat_le (suc (length es)) base) (Some fault.Version)
      (cond (nat_le (length (list_of es base)) place) (Some fault.Place)
      (later_fault 0 len Bool.false full free (path (list_of es base) (suc place))))

  abbrev pub removal_refusal : ℕ → ℕ → Option EditFault
  removal_refusal base place =
      cond (nat_le (suc (length es)) base) (Some fault.Version)
      (cond (nat_le (length (list_of es base)) place) (Some fault.Place)
      (later_fault 0 1 Bool.false full free (two_paths (list_of es base) place - 1)))
