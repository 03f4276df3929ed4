-- The report's contract gives one text for one input. Assumes nothing.
use Rattle.std.proofs.Common.{◌≡◌, ℕ, Bool, true, false, cond, ◌||◌, ◌==◌, List, [], ◌++◌, length, take, Some, None, MatchBool, Result, sym, refl, ap, ap₂, ◌∙◌, subst, length-set}
use Rattle.reading.specs.CountReadingLemmas.{count_told}
use Rattle.reading.specs.declared.count.Count.{Count}
use Rattle.summary.specs.declared.peak.Peak.{Peak}
use Rattle.summary.specs.Summing.{Summing}
use Rattle.store.specs.declared.row.RowStore.{RowStore}
use Rattle.store.specs.Keeping.{row_keeping}
use Rattle.store.proofs.Same.{Alike, empty_alike}
use Rattle.nodes.specs.declared.node.Node.{Node}
use Rattle.archive.specs.declared.version.Version.{Version}
use Rattle.archive.specs.declared.begin.Begun.{Begun}
use Rattle.archive.specs.Beginning.{NotBegun, HasBegun}
use Rattle.archive.specs.Calling.{Archive, Standing}
use Rattle.archive.specs.History.{History, begun_history}
use Rattle.journal.specs.declared.fault.LoadFault.{LoadFault}
use Rattle.journal.specs.Loading.{Loads, LoadedFrom}
use Rattle.journal.proofs.LoadSame.{SameLoads, loads_same}
use Rattle.journal.proofs.EditSame.{AlikeArchives, edits_same}
use Rattle.intake_bytes.specs.Intake.{counts_coding}
use Rattle.report_text.specs.Report.{peaks, table_text, fault_text, OneText}

-- how long the tables are that have begun, and how many versions they have
record Sizes {Q : Type 0} (empty : Bool) (nodes : List (Node Q)) (versions : List Version) (begun : Begun) (begun_nodes : List (Node Q)) (begun_versions : List Version) : Type 0 where
  nodes_long : length begun_nodes ≡ length nodes
  versions_long : length begun_versions ≡ length versions
  count : begun.count ≡ cond empty 0 1

begun_sizes : {R Q : Type 0} (means : Summing R Q) (nodes : List (Node Q)) (versions : List Version) (begun : Begun) (begun_nodes : List (Node Q)) (begun_versions : List Version) (b : Bool)
    → MatchBool b (NotBegun nodes versions begun begun_nodes begun_versions) (HasBegun means nodes versions begun begun_nodes begun_versions) → Sizes b nodes versions begun begun_nodes begun_versions
begun_sizes means nodes versions begun begun_nodes begun_versions true x = record { nodes_long = ap length x.nodes_kept; versions_long = ap length x.versions_kept; count = x.count }
begun_sizes means nodes versions begun begun_nodes begun_versions false x =
    record { nodes_long = ap length x.node ∙ length-set nodes 0 _; versions_long = ap length x.version ∙ length-set versions 0 _; count = x.count }

-- two loadings into tables and row areas of the same lengths and row stores that are alike
loaded_same : (nodes others : List (Node (Peak Count))) (versions records : List Version) (store other : RowStore Count) (area areas after left : List Count) (bytes : List ℕ) (q r : Result ℕ LoadFault) (u v : Archive (Peak Count) (RowStore Count))
    → length nodes ≡ length others → length versions ≡ length records → Alike store other → length area ≡ length areas → LoadedFrom peaks row_keeping counts_coding nodes versions store area bytes q u after
    → LoadedFrom peaks row_keeping counts_coding others records other areas bytes r v left → SameLoads peaks row_keeping q r u v
loaded_same nodes others versions records store other area areas after left bytes q r u v n w alike long x y =
    let s : Archive (Peak Count) (RowStore Count) = record { tables = record { nodes = x.begun_nodes; used = x.begun.used; versions = x.begun_versions; count = x.begun.count }; store = store } in
    let t : Archive (Peak Count) (RowStore Count) = record { tables = record { nodes = y.begun_nodes; used = y.begun.used; versions = y.begun_versions; count = y.begun.count }; store = other } in
    let a = begun_sizes peaks nodes versions x.begun x.begun_nodes x.begun_versions (length nodes == 0 || length versions == 0) x.begins in
    let b = begun_sizes peaks others records y.begun y.begun_nodes y.begun_versions (length others == 0 || length records == 0) y.begins in
    let empty : (length nodes == 0 || length versions == 0) ≡ (length others == 0 || length records == 0) = ap₂ (λ i j. i == 0 || j == 0) n w in
    let begun : begun_history {R = Count} others records ≡ begun_history nodes versions = ap (λ b. cond {A = History Count} b None (Some [])) (sym empty) in
    let both : AlikeArchives s t = record {
      nodes = a.nodes_long ∙ (n ∙ sym b.nodes_long);
      versions = a.versions_long ∙ (w ∙ sym b.versions_long);
      count = a.count ∙ (ap (λ e. cond e 0 1) empty ∙ sym b.count);
      store = alike;
    } in
    loads_same counts_coding (λ x. refl) count_told peaks row_keeping AlikeArchives (edits_same peaks) (begun_history nodes versions) s t u v area areas after left bytes q r both long x.stood
    (subst (λ h. Standing peaks row_keeping h t) begun y.stood) x.loads (subst (λ h. Loads peaks row_keeping counts_coding h t areas bytes r v left) begun y.loads)

pub one_text : OneText
one_text bytes text other x y =
    let d = loaded_same x.nodes y.nodes x.versions y.versions x.store y.store x.area y.area x.over.area_after y.over.area_after (take 32768 bytes) x.over.answer y.over.answer x.over.archive y.over.archive
    (x.nodes_there ∙ sym y.nodes_there) (x.versions_there ∙ sym y.versions_there)
    (empty_alike x.store_area y.store_area x.store y.store (x.store_there ∙ sym y.store_there) x.empty y.empty)
    (x.area_there ∙ sym y.area_there) x.over.loaded y.over.loaded in
    x.over.shown d.history d.stands ∙ (ap (λ r. table_text d.history ++ fault_text r) d.answer ∙ sym (y.over.shown d.history d.other))
