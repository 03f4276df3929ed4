-- What is recorded of a version, by the history that gave it. Assumes nothing.
use Rattle.std.specs.Prelude.{ℕ, suc, ◌+◌, cond, List, [], ◌∷◌, length, Some, None, Option, ◌==◌}
use Rattle.std.specs.List.{slice_get}
use Rattle.flexlist.specs.Edits.{Item, Edit, insert, change, removal, base_of, place_of, brought, list_of}
use Rattle.flexlist.specs.Replay.{written_by}
use Rattle.archive.specs.declared.version.Kind.{Kind}
use Rattle.archive.specs.declared.version.Kind.TheVariants.{Begun, Insert, Change, Removal}
use Rattle.archive.specs.declared.version.Version.{Version}

-- the number of each kind of edit, which is the kind byte of its record in a journal; 0 for version 0, which no edit gave
abbrev pub kind_number : Kind → ℕ
kind_number Begun = 0
kind_number Insert = 2
kind_number Change = 3
kind_number Removal = 4

-- the record of version 0
abbrev pub begun_record : ℕ → Version
begun_record root = record { parent = 0; edit = Begun; place = 0; level = 0; block = 0; root = root; blocks = 0; readings = 0; written = 1 }

module _ {R : Type 0} where
  -- the edit that gave version v, if one did
  abbrev pub edit_of : List (Edit R) → ℕ → Option (Edit R)
  edit_of [] v = None
  edit_of (e ∷ es) v = cond (v == suc (length es)) (Some e) (edit_of es v)

  -- the edits before the one that gave version v
  abbrev pub edits_before : List (Edit R) → ℕ → List (Edit R)
  edits_before [] v = []
  edits_before (e ∷ es) v = cond (v == suc (length es)) es (edits_before es v)

  -- how many readings a list of blocks has
  unfoldable pub readings_in : List (Item R) → ℕ
  readings_in [] = 0
  readings_in (x ∷ xs) = length x.content.row + readings_in xs

  abbrev pub kind_of : Edit R → Kind
  kind_of (insert base place level content) = Insert
  kind_of (change base place content) = Change
  kind_of (removal base place) = Removal

  abbrev pub level_of : Edit R → ℕ
  level_of (insert base place level content) = level
  level_of (change base place content) = 0
  level_of (removal base place) = 0

  -- the record of a version that an edit e gave after the edits es, whose list is xs and whose root stands at an entry
  abbrev pub edit_record : List (Edit R) → Edit R → List (Item R) → ℕ → Version
  edit_record es e xs root = record {
    parent = base_of e;
    edit = kind_of e;
    place = place_of e;
    level = level_of e;
    block = (brought e).number;
    root = root;
    blocks = length xs;
    readings = readings_in xs;
    written = written_by es e;
  }

  -- the record of version v
  abbrev pub record_by : Option (Edit R) → List (Edit R) → List (Item R) → ℕ → Version
  record_by None es xs root = begun_record root
  record_by (Some e) es xs root = edit_record es e xs root

  abbrev pub record_of : List (Edit R) → ℕ → ℕ → Version
  record_of es v root = record_by (edit_of es v) (edits_before es v) (list_of es v) root

-- the block number that the record of a version has, 0 where there is no record
abbrev pub block_in : Option Version → ℕ
block_in None = 0
block_in (Some v) = v.block

abbrev pub block_at : List Version → ℕ → ℕ
block_at versions v = block_in (slice_get versions v)
