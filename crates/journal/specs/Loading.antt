-- What loading a journal answers and leaves. Assumes nothing.
use Rattle.store.specs.Keeping.{Keeping}
use Rattle.std.specs.Prelude.{◌≡◌, ℕ, ◌+◌, ◌<◌, ◌≤◌, List, [], ◌∷◌, ◌++◌, map, length, take, drop, Some, None, Ok, Err, Result, ◌≢◌}
use Rattle.std.specs.List.{AllByRecursion}
use Rattle.summary.specs.Summing.{Summing}
use Rattle.flexlist.specs.Edits.{Edit}
use Rattle.nodes.specs.declared.node.Node.{Node}
use Rattle.archive.specs.declared.version.Version.{Version}
use Rattle.archive.specs.declared.begin.Begun.{Begun}
use Rattle.archive.specs.declared.fault.EditFault.{EditFault}
use Rattle.archive.specs.declared.table.Accepted.{Accepted}
use Rattle.archive.specs.Beginning.{Begin}
use Rattle.archive.specs.Calling.{Archive, Standing, EditKept, EditAccepted, EditTold, asked_refusal, number_in, edit_asked}
use Rattle.archive.specs.History.{History, begun_history}
use Rattle.journal.specs.declared.fault.JournalFault.{JournalFault}
use Rattle.journal.specs.declared.fault.JournalFault.TheVariants as fault
use Rattle.journal.specs.declared.fault.LoadFault.{LoadFault}
use Rattle.journal.specs.Format.{Coding, Entry, row_of, asked_of, head_bytes, entry_bytes, entries_bytes, Fits}
use Rattle.journal.specs.Faults.{NoEdit}

-- a row area after rows were put to its start, one after another
abbrev pub rows_over : {R : Type 0} → List R → List (List R) → List R
rows_over area [] = area
rows_over area (row ∷ rows) = rows_over (row ++ drop (length row) area) rows

module _ {R Q S : Type 0} (means : Summing R Q) (keeps : Keeping S R) where
  -- an entry that the archive accepted, where the replay has no refusal
  pub record Took (h : History R) (s : Archive Q S) (e : Entry R) (k : History R) (t : Archive Q S) : Type 0 where
    pub before : List (Edit R)
    pub was : h ≡ Some before
    pub no_refusal : asked_refusal s.tables before (asked_of e) ≡ None
    pub answer : Accepted
    pub accepted : EditAccepted means keeps before s (asked_of e) answer t
    pub kept : EditKept means keeps s (asked_of e) (Ok answer) t
    pub after : k ≡ Some (edit_asked before (asked_of e) (number_in means keeps s t) ∷ before)

  -- entries that the archive accepted, one after another
  abbrev pub TookAll : History R → Archive Q S → List (Entry R) → History R → Archive Q S → Type 0
  TookAll h s [] k t = (k ≡ h) × (t ≡ s)
  TookAll h s (e ∷ es) k t = (i : History R) × (u : Archive Q S) × Took h s e i u × TookAll i u es k t

  module _ (coding : Coding R) where
    -- How loading ended, on the bytes past the entries that were taken, which end at a byte place: the rows, or the part of one, that went to the row area
    -- since then, and the answer.
    pub data Ended (room place : ℕ) (h : History R) (s : Archive Q S) (bytes : List ℕ) (passed : List (List R)) (r : Result ℕ LoadFault) : Type 0 where
      whole : bytes ≡ [] → passed ≡ [] → r ≡ Ok s.tables.count → Ended room place h s bytes passed r
      stopped : (row : List R) (f : JournalFault) (far : ℕ) → NoEdit coding room bytes row f far → passed ≡ row ∷ [] → r ≡ Err (record { fault = f; place = place + far }) → Ended room place h s bytes passed r
      refused : (e : Entry R) (more : List ℕ) (f : EditFault) → Fits e → length (row_of e) ≤ room → bytes ≡ entry_bytes coding e ++ more → EditTold means keeps h s (asked_of e) (Err f) s
          → passed ≡ row_of e ∷ [] → r ≡ Err (record { fault = fault.Edit f; place = place }) → Ended room place h s bytes passed r

    -- Bytes that begin with the head, loaded into an archive that stands for a history: the entries up to the first fault were taken, and the row area has
    -- their rows at its start, one over another.
    pub record TookIn (h : History R) (s : Archive Q S) (area : List R) (bytes : List ℕ) (r : Result ℕ LoadFault) (t : Archive Q S) (area_after : List R) : Type 0 where
      pub taken : List (Entry R)
      pub fit : AllByRecursion Fits taken
      pub roomy : AllByRecursion (λ e. length (row_of e) ≤ length area) taken
      pub rest : List ℕ
      pub split : bytes ≡ head_bytes coding ++ (entries_bytes coding taken ++ rest)
      pub history : History R
      pub took : TookAll h s taken history t
      pub stands : Standing means keeps history t
      pub passed : List (List R)
      pub ended : Ended (length area) (3 + length (entries_bytes coding taken)) history t rest passed r
      pub row_area : area_after ≡ rows_over area (map row_of taken ++ passed)

    -- Any bytes, loaded into an archive that stands for a history. Without the head nothing is taken.
    pub data Loads (h : History R) (s : Archive Q S) (area : List R) (bytes : List ℕ) (r : Result ℕ LoadFault) (t : Archive Q S) (area_after : List R) : Type 0 where
      short : length bytes < 3 → r ≡ Err (record { fault = fault.Ends; place = 0 }) → t ≡ s → area_after ≡ area → Loads h s area bytes r t area_after
      no_head : 3 ≤ length bytes → (take 3 bytes ≢ head_bytes coding) → r ≡ Err (record { fault = fault.Head; place = 0 }) → t ≡ s → area_after ≡ area → Loads h s area bytes r t area_after
      read : TookIn h s area bytes r t area_after → Loads h s area bytes r t area_after

    -- what loading into an archive means, whatever history it stands for
    abbrev pub LoadLaw : Archive Q S → List R → List ℕ → Result ℕ LoadFault → Archive Q S → List R → Type 0
    LoadLaw s area bytes r t area_after = (h : History R) → Standing means keeps h s → Loads h s area bytes r t area_after

    -- A journal loaded from begin on, into the tables, the store and the row area that were given.
    pub record LoadedFrom (nodes : List (Node Q)) (versions : List Version) (store : S) (area : List R) (bytes : List ℕ) (r : Result ℕ LoadFault) (t : Archive Q S) (area_after : List R) : Type 0 where
      pub begun : Begun
      pub begun_nodes : List (Node Q)
      pub begun_versions : List Version
      pub begins : Begin means nodes versions begun begun_nodes begun_versions
      pub stood : Standing means keeps (begun_history nodes versions) (record { tables = record { nodes = begun_nodes; used = begun.used; versions = begun_versions; count = begun.count }; store = store })
      pub loads : Loads (begun_history nodes versions) (record { tables = record { nodes = begun_nodes; used = begun.used; versions = begun_versions; count = begun.count }; store = store }) area bytes r t area_after
