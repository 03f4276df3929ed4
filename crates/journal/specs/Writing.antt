-- What writing an archive's journal answers and leaves, and the two round trips. Assumes nothing.
use Rattle.store.specs.Keeping.{Keeping}
use Rattle.std.specs.Prelude.{◌≡◌, ℕ, suc, ◌≤◌, List, ◌++◌, map, length, take, drop, Some, None, Ok, Err, MatchBool, Result, ◌≢◌, nat_le}
use Rattle.summary.specs.Summing.{Summing}
use Rattle.flexlist.specs.Edits.{Item, Edit, list_of}
use Rattle.nodes.specs.declared.node.Node.{Node}
use Rattle.archive.specs.declared.version.Version.{Version}
use Rattle.archive.specs.declared.fault.EditFault.{EditFault}
use Rattle.archive.specs.Calling.{Archive, Standing}
use Rattle.archive.specs.History.{History}
use Rattle.journal.specs.declared.fault.JournalFault.{JournalFault}
use Rattle.journal.specs.declared.fault.JournalFault.TheVariants as fault
use Rattle.journal.specs.declared.fault.LoadFault.{LoadFault}
use Rattle.journal.specs.Format.{Coding, entries_of, head_bytes, journal_bytes}
use Rattle.journal.specs.Loading.{LoadedFrom}

-- the journal of an archive: its head, and then what made version 1, version 2 and so on
abbrev pub journal_of : {R : Type 0} → Coding R → History R → List ℕ
journal_of k None = head_bytes k
journal_of k (Some es) = journal_bytes k (entries_of es)

-- an output with the journal at its start and the rest as it was; one that is too short is refused, and stays
abbrev pub Writes : List ℕ → List ℕ → Result ℕ JournalFault → List ℕ → Type 0
Writes journal out r after =
    MatchBool (nat_le (length journal) (length out)) ((r ≡ Ok (length journal)) × (after ≡ journal ++ drop (length journal) out)) ((r ≡ Err fault.Area) × (after ≡ out))

-- what writing left, whatever the tables held
abbrev pub WriteLeft : List ℕ → Result ℕ JournalFault → List ℕ → Type 0
WriteLeft out (Ok n) after = (n ≤ length out) × (drop n after ≡ drop n out)
WriteLeft out (Err f) after = after ≡ out

-- the rows and levels of a list of blocks
pub record Shown (R : Type 0) : Type 0 where
  pub level : ℕ
  pub row : List R

abbrev pub shown : {R : Type 0} → List (Item R) → List (Shown R)
shown xs = map (λ x. record { level = x.level; row = x.content.row }) xs

module _ {R Q S : Type 0} (means : Summing R Q) (keeps : Keeping S R) (k : Coding R) where
  abbrev pub WriteLaw : Archive Q S → List ℕ → Result ℕ JournalFault → List ℕ → Type 0
  WriteLaw s out r after = (h : History R) → Standing means keeps h s → Writes (journal_of k h) out r after

  -- an archive whose journal these bytes are: writing it gives them, byte for byte
  pub record WrittenBack (t : Archive Q S) (bytes : List ℕ) : Type 0 where
    pub history : History R
    pub stands : Standing means keeps history t
    pub same : journal_of k history ≡ bytes
    pub written : (out after : List ℕ) (r : Result ℕ JournalFault) → WriteLaw t out r after → Writes bytes out r after

  -- What was loaded whole, into whatever tables, store and row area, is written back.
  abbrev pub ComesBack : Type 0
  ComesBack =
      (nodes : List (Node Q)) (versions : List Version) (store : S) (area area_after : List R) (bytes : List ℕ) (n : ℕ) (t : Archive Q S) → LoadedFrom means keeps k nodes versions store area bytes (Ok n) t area_after →
      WrittenBack t bytes

  -- An archive of the same edits, as a journal holds them: as many versions, and each with the same rows and levels.
  pub record SameVersions (es : List (Edit R)) (n : ℕ) (t : Archive Q S) : Type 0 where
    pub edits : List (Edit R)
    pub stands : Standing means keeps (Some edits) t
    pub alike : entries_of edits ≡ entries_of es
    pub as_many : n ≡ suc (length es)
    pub counted : length edits ≡ length es
    pub same : (v : ℕ) → shown (list_of edits v) ≡ shown (list_of es v)

-- The bytes that were written of any archive that has versions load into any tables with an entry each, any store and any row area where no edit and no
-- row is refused, and give the same versions; between any two archives of one kind of reading.
abbrev pub LoadsBack : {R P T Q S : Type 0} → Coding R → Summing R P → Keeping T R → Summing R Q → Keeping S R → Type 0
LoadsBack {R} {P} {T} {Q} {S} k theirs theirs_keeps means keeps =
    (from : Archive P T) (es : List (Edit R)) → Standing theirs theirs_keeps (Some es) from →
    (out written : List ℕ) (m : ℕ) → WriteLaw theirs theirs_keeps k from out (Ok m) written →
    (nodes : List (Node Q)) (versions : List Version) → 1 ≤ length nodes → 1 ≤ length versions →
    (store : S) (t : Archive Q S) (area area_after : List R) (r : Result ℕ LoadFault) → LoadedFrom means keeps k nodes versions store area (take m written) r t area_after →
    ((f : EditFault) (place : ℕ) → r ≢ Err (record { fault = fault.Edit f; place = place })) → ((place : ℕ) → r ≢ Err (record { fault = fault.Area; place = place })) →
    (n : ℕ) × (r ≡ Ok n) × SameVersions means keeps k es n t
