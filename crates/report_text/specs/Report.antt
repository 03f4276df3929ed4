-- The report of a journal of counts: a line for each version of the archive that it gives, and one for the fault that stopped loading. Assumes
-- nothing.
use Rattle.std.specs.Prelude.{◌≡◌, ℕ, zero, suc, ◌≤◌, Bool, List, [], ◌++◌, length, take, Some, None, Ok, Err, codes, decimal, Option, Result}
use Rattle.reading.specs.Kinds.{count_missing}
use Rattle.reading.specs.declared.count.Count.{Count}
use Rattle.summary.specs.declared.peak.Highest.{Highest}
use Rattle.summary.specs.declared.peak.Peak.{Peak}
use Rattle.summary.specs.Summing.{Summing, summary_of}
use Rattle.summary.specs.Peaks.{peak}
use Rattle.summary.specs.Printed.{top_text}
use Rattle.store.specs.declared.row.RowStore.{RowStore}
use Rattle.store.specs.RowStores.{row_kept}
use Rattle.store.specs.Keeping.{Keeping, row_keeping}
use Rattle.store.specs.Stores.{Empty}
use Rattle.flexlist.specs.Edits.{Edit, list_of}
use Rattle.nodes.specs.declared.node.Node.{Node}
use Rattle.archive.specs.declared.version.Version.{Version}
use Rattle.archive.specs.Asking.{all_readings}
use Rattle.archive.specs.Calling.{Archive, Standing}
use Rattle.archive.specs.Records.{record_of}
use Rattle.archive.specs.History.{History}
use Rattle.journal.specs.declared.fault.LoadFault.{LoadFault}
use Rattle.journal.specs.Faults.{fault_number, inner_refusal, store_cause}
use Rattle.journal.specs.Loading.{LoadedFrom}
use Rattle.intake_bytes.specs.Intake.{counts_coding}

-- ---- counts

abbrev absent : Count → Bool
absent x = count_missing x.value

abbrev pub peaks : Summing Count (Peak Count)
peaks = peak absent (λ x. x.value)

-- ---- the text

abbrev pub header : List ℕ
header = codes "version blocks readings written peak place\n"

-- a line: version, blocks, readings, written nodes, peak and place
abbrev pub line_text : ℕ → ℕ → ℕ → ℕ → Option (Highest Count) → List ℕ
line_text v blocks readings written top = decimal v ++ (codes " " ++ (decimal blocks ++ (codes " " ++ (decimal readings ++ (codes " " ++ (decimal written ++ (codes " " ++ (top_text top ++ codes "\n"))))))))

-- the line of a version, by the edits of a history
abbrev pub version_line : List (Edit Count) → ℕ → List ℕ
version_line es v =
    line_text v (length (list_of es v)) (length (all_readings (list_of es v))) (record_of es v 0).written (summary_of peaks (all_readings (list_of es v))).highest

-- the lines of the first n versions
abbrev pub version_lines : List (Edit Count) → ℕ → List ℕ
version_lines es zero = []
version_lines es (suc n) = version_lines es n ++ version_line es n

-- the lines of the first n versions of a history, if it has versions
abbrev pub lines_of : History Count → ℕ → List ℕ
lines_of None n = []
lines_of (Some es) n = version_lines es n

-- header, and the lines of all versions
abbrev pub table_text : History Count → List ℕ
table_text None = header
table_text (Some es) = header ++ version_lines es (suc (length es))

-- the line of a fault: its number, its byte place, the refusal inside it, and the store's cause inside that
abbrev pub fault_text : Result ℕ LoadFault → List ℕ
fault_text (Ok n) = []
fault_text (Err f) = codes "fault " ++ (decimal (fault_number f.fault) ++ (codes " " ++ (decimal f.place ++ (codes " " ++ (decimal (inner_refusal f.fault) ++ (codes " " ++ (decimal (store_cause f.fault) ++ codes "\n")))))))

-- ---- what the functions write

module _ {S : Type 0} (keeps : Keeping S Count) where
  -- the peak of a version, where the readings asked for are all of its readings
  abbrev pub TopTold : Archive (Peak Count) S → ℕ → ℕ → Option (Highest Count) → Type 0
  TopTold s v readings top =
      (es : List (Edit Count)) → Standing peaks keeps (Some es) s → v ≤ length es → readings ≡ length (all_readings (list_of es v)) →
      top ≡ (summary_of peaks (all_readings (list_of es v))).highest

  -- the line of a version added to a text
  abbrev pub LineTold : Archive (Peak Count) S → ℕ → List ℕ → List ℕ → Type 0
  LineTold s v before after = (es : List (Edit Count)) → Standing peaks keeps (Some es) s → v ≤ length es → after ≡ before ++ version_line es v

  -- the lines of the first n versions added to a text
  abbrev pub LinesTold : Archive (Peak Count) S → ℕ → List ℕ → List ℕ → Type 0
  LinesTold s n before after = (h : History Count) → Standing peaks keeps h s → after ≡ before ++ lines_of h n

  -- the text of a journal, loaded into the tables, the store and the row area that were given
  pub record ReportedOver (nodes : List (Node (Peak Count))) (versions : List Version) (store : S) (area : List Count) (bytes text : List ℕ) : Type 0 where
    pub answer : Result ℕ LoadFault
    pub archive : Archive (Peak Count) S
    pub area_after : List Count
    pub loaded : LoadedFrom peaks keeps counts_coding nodes versions store area bytes answer archive area_after
    pub shown : (h : History Count) → Standing peaks keeps h archive → text ≡ table_text h ++ fault_text answer

-- The text of the first bytes, at most so many. They load into tables of these sizes: nodes 1,024, versions 256, row area 1,024, row store 4,096 (it has no
-- block before).
pub record ReportedFirst (most : ℕ) (bytes text : List ℕ) : Type 0 where
  pub nodes : List (Node (Peak Count))
  pub nodes_there : length nodes ≡ 1024
  pub versions : List Version
  pub versions_there : length versions ≡ 256
  pub area : List Count
  pub area_there : length area ≡ 1024
  pub store_area : List Count
  pub store_there : length store_area ≡ 4096
  pub store : RowStore Count
  pub empty : Empty row_kept store_area store
  pub over : ReportedOver row_keeping nodes versions store area (take most bytes) text

-- the first 32,768 bytes are read
abbrev pub Reported : List ℕ → List ℕ → Type 0
Reported bytes text = ReportedFirst 32768 bytes text

-- one input has one report: two texts that keep the contract for it are equal
abbrev pub OneText : Type 0
OneText = (bytes text other : List ℕ) → Reported bytes text → Reported bytes other → text ≡ other
