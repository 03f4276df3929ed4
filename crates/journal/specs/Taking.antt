-- What taking one edit of a journal in answers and leaves. Assumes nothing.
use Rattle.store.specs.Keeping.{Keeping}
use Rattle.std.specs.Prelude.{◌≡◌, ℕ, ◌+◌, ◌≤◌, List, ◌++◌, length, drop, Ok, Err, Result}
use Rattle.summary.specs.Summing.{Summing}
use Rattle.archive.specs.declared.fault.EditFault.{EditFault}
use Rattle.archive.specs.declared.table.Accepted.{Accepted}
use Rattle.archive.specs.Calling.{Archive, EditKept, EditLaw}
use Rattle.journal.specs.declared.fault.JournalFault.TheVariants as fault
use Rattle.journal.specs.declared.fault.LoadFault.{LoadFault}
use Rattle.journal.specs.Format.{Coding, Entry, row_of, asked_of, entry_bytes, Fits}
use Rattle.journal.specs.Faults.{NoEdit}

-- what an archive's answer to the edit at a place is for the loading, where the edit ends at another
abbrev pub ended : Result Accepted EditFault → ℕ → ℕ → Result ℕ LoadFault
ended (Ok x) at end = Ok end
ended (Err f) at end = Err (record { fault = fault.Edit f; place = at })

module _ {R Q S : Type 0} (means : Summing R Q) (keeps : Keeping S R) where
  -- an entry that the archive accepted, by the contract of the call
  pub record Sent (s : Archive Q S) (e : Entry R) (t : Archive Q S) : Type 0 where
    pub answer : Accepted
    pub kept : EditKept means keeps s (asked_of e) (Ok answer) t
    pub law : EditLaw means keeps s (asked_of e) (Ok answer) t

  module _ (coding : Coding R) where
    -- The entry at a place, up to `next`, was accepted, and its row is at the row area's start.
    pub record EntryTaken (s : Archive Q S) (area : List R) (bytes : List ℕ) (at next : ℕ) (t : Archive Q S) (after : List R) : Type 0 where
      pub entry : Entry R
      pub fit : Fits entry
      pub roomy : length (row_of entry) ≤ length area
      pub there : drop at bytes ≡ entry_bytes coding entry ++ drop next bytes
      pub next_is : next ≡ at + length (entry_bytes coding entry)
      pub within : next ≤ length bytes
      pub sent : Sent s entry t
      pub put : after ≡ row_of entry ++ drop (length (row_of entry)) area

    -- No entry at a place, or one that the archive refuses: the archive stays, and what passed of the row is at the row area's start.
    pub data EntryStopped (s : Archive Q S) (area : List R) (bytes : List ℕ) (at : ℕ) (f : LoadFault) (t : Archive Q S) (after : List R) : Type 0 where
      bad : (row : List R) (far : ℕ) → NoEdit coding (length area) (drop at bytes) row f.fault far → f.place ≡ at + far → t ≡ s → after ≡ row ++ drop (length row) area → EntryStopped s area bytes at f t after
      refused : (e : Entry R) (more : List ℕ) (x : EditFault) → Fits e → length (row_of e) ≤ length area → drop at bytes ≡ entry_bytes coding e ++ more → EditLaw means keeps s (asked_of e) (Err x) s
          → f ≡ record { fault = fault.Edit x; place = at } → t ≡ s → after ≡ row_of e ++ drop (length (row_of e)) area → EntryStopped s area bytes at f t after

    abbrev pub OneTaken : Archive Q S → List R → List ℕ → ℕ → Result ℕ LoadFault → Archive Q S → List R → Type 0
    OneTaken s area bytes at (Ok next) t after = EntryTaken s area bytes at next t after
    OneTaken s area bytes at (Err f) t after = EntryStopped s area bytes at f t after
