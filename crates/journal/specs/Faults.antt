-- Where bytes stop being a journal, and why. Assumes nothing.
use Rattle.std.specs.Prelude.{◌≡◌, ℕ, ◌+◌, ◌^◌, ◌<◌, ◌≤◌, cond, List, [], ◌∷◌, ◌++◌, length, Some, None, Option, ◌==◌, ◌≢◌}
use Rattle.archive.specs.Records.{kind_number}
use Rattle.archive.specs.Refusals.{edit_number, inner_cause}
use Rattle.archive.specs.declared.version.Kind.TheVariants.{Insert, Change, Removal}
use Rattle.journal.specs.declared.fault.JournalFault.{JournalFault}
use Rattle.journal.specs.declared.fault.JournalFault.TheVariants as fault
use Rattle.journal.specs.Format.{Coding, insert_record, change_record, reading_kind, row_bytes}

-- the number of each fault
abbrev pub fault_number : JournalFault → ℕ
fault_number fault.Area = 9
fault_number fault.Ends = 10
fault_number fault.Kind = 11
fault_number fault.Head = 12
fault_number fault.RowLength = 13
fault_number fault.Reading = 14
fault_number (fault.Edit f) = 15

-- the number of the edit's refusal inside it, and of the store's cause inside that; 0 where there is none
abbrev pub inner_refusal : JournalFault → ℕ
inner_refusal fault.Area = 0
inner_refusal fault.Ends = 0
inner_refusal fault.Kind = 0
inner_refusal fault.Head = 0
inner_refusal fault.RowLength = 0
inner_refusal fault.Reading = 0
inner_refusal (fault.Edit f) = edit_number f

abbrev pub store_cause : JournalFault → ℕ
store_cause fault.Area = 0
store_cause fault.Ends = 0
store_cause fault.Kind = 0
store_cause fault.Head = 0
store_cause fault.RowLength = 0
store_cause fault.Reading = 0
store_cause (fault.Edit f) = inner_cause f

-- how long the body of an edit's record is; other kinds are no edits
abbrev pub body_length : ℕ → Option ℕ
body_length b = cond (b == kind_number Insert) (Some 7) (cond (b == kind_number Change) (Some 6) (cond (b == kind_number Removal) (Some 4) None))

-- bytes that begin with the record of an edit that has a row of n readings; `size` is how long the record is, `more` what follows it
pub data Opens (bytes : List ℕ) (n size : ℕ) (more : List ℕ) : Type 0 where
  insert : (base place level : ℕ) → base < 2 ^ 16 → place < 2 ^ 16 → level < 256 → n < 2 ^ 16 → bytes ≡ insert_record base place level n ++ more → size ≡ 8 → Opens bytes n size more
  change : (base place : ℕ) → base < 2 ^ 16 → place < 2 ^ 16 → n < 2 ^ 16 → bytes ≡ change_record base place n ++ more → size ≡ 7 → Opens bytes n size more

-- A fault in an edit's own record, where the row area has room for so many readings.
pub data NoRecord (room : ℕ) (bytes : List ℕ) (f : JournalFault) : Type 0 where
  other : (b : ℕ) (more : List ℕ) → bytes ≡ b ∷ more → body_length b ≡ None → f ≡ fault.Kind → NoRecord room bytes f
  cut : (b n : ℕ) (more : List ℕ) → bytes ≡ b ∷ more → body_length b ≡ Some n → length more < n → f ≡ fault.Ends → NoRecord room bytes f
  no_row : (n size : ℕ) (more : List ℕ) → Opens bytes n size more → n ≡ 0 → f ≡ fault.RowLength → NoRecord room bytes f
  long_row : (n size : ℕ) (more : List ℕ) → Opens bytes n size more → 1024 < n → f ≡ fault.RowLength → NoRecord room bytes f
  no_room : (n size : ℕ) (more : List ℕ) → Opens bytes n size more → 1 ≤ n → n ≤ 1024 → room < n → f ≡ fault.Area → NoRecord room bytes f

module _ {R : Type 0} (k : Coding R) where
  -- Bytes at whose start a reading's record is due, and there is none.
  pub data NoReading (bytes : List ℕ) (f : JournalFault) : Type 0 where
    due : bytes ≡ [] → f ≡ fault.Ends → NoReading bytes f
    other : (b : ℕ) (more : List ℕ) → bytes ≡ b ∷ more → (b ≢ reading_kind k) → f ≡ fault.Kind → NoReading bytes f
    cut : (more : List ℕ) → bytes ≡ reading_kind k ∷ more → length more < k.wide → f ≡ fault.Ends → NoReading bytes f
    none : (body more : List ℕ) → bytes ≡ reading_kind k ∷ (body ++ more) → length body ≡ k.wide → ((x : R) → k.bytes x ≢ body) → f ≡ fault.Reading → NoReading bytes f

  -- A fault in the readings of an edit whose own record is good: readings that passed, and then no reading where one is due.
  pub record RowBroken (room : ℕ) (bytes : List ℕ) (passed : List R) (f : JournalFault) (far : ℕ) : Type 0 where
    pub count : ℕ
    pub size : ℕ
    pub more : List ℕ
    pub opens : Opens bytes count size more
    pub some : 1 ≤ count
    pub most : count ≤ 1024
    pub roomy : count ≤ room
    pub tail : List ℕ
    pub split : more ≡ row_bytes k passed ++ tail
    pub short : length passed < count
    pub broken : NoReading tail f
    pub place : far ≡ size + length (row_bytes k passed)

  -- Bytes at whose start an edit is due, and there is none: the readings that passed, the fault, and how far on the record stands that caused it.
  pub data NoEdit (room : ℕ) (bytes : List ℕ) (passed : List R) (f : JournalFault) (far : ℕ) : Type 0 where
    record_bad : NoRecord room bytes f → passed ≡ [] → far ≡ 0 → NoEdit room bytes passed f far
    row_bad : RowBroken room bytes passed f far → NoEdit room bytes passed f far
