-- What is timed: a journal loaded, and calls carried out on the archive, some rounds of them. Assumes nothing.
use Rattle.std.specs.Prelude.{◌≡◌, ℕ, zero, suc, List, length, Result}
use Rattle.reading.specs.declared.count.Count.{Count}
use Rattle.summary.specs.declared.peak.Peak.{Peak}
use Rattle.store.specs.declared.row.RowStore.{RowStore}
use Rattle.store.specs.RowStores.{row_kept}
use Rattle.store.specs.Keeping.{Keeping, row_keeping}
use Rattle.store.specs.Stores.{Empty}
use Rattle.nodes.specs.declared.node.Node.{Node}
use Rattle.archive.specs.declared.version.Version.{Version}
use Rattle.archive.specs.Calling.{Archive}
use Rattle.runs.specs.declared.call.Call.{Call}
use Rattle.runs.specs.declared.reply.Reply.{Reply}
use Rattle.runs.specs.Lists.{CarriedOn}
use Rattle.journal.specs.declared.fault.LoadFault.{LoadFault}
use Rattle.journal.specs.Loading.{LoadedFrom}
use Rattle.intake_bytes.specs.Intake.{counts_coding}
use Rattle.report_text.specs.Report.{peaks}
use Rattle.bench_calls.specs.Digests.{mixed, load_number, replies_mixed, counts_mixed}

module _ {S : Type 0} (keeps : Keeping S Count) where
  -- One round more of the same calls, on the archive and the output as the rounds before it left them; and the number that is told of all replies so far.
  pub record Round (readings : List Count) (calls : List Call) (before : ℕ → Archive (Peak Count) S → List Count → Type 0)
      (sum : ℕ) (t : Archive (Peak Count) S) (out_after : List Count) : Type 0 where
    pub sum_before : ℕ
    pub from : Archive (Peak Count) S
    pub out : List Count
    pub earlier : before sum_before from out
    pub replies : List (Reply Count (Peak Count))
    pub carried : CarriedOn peaks keeps readings calls replies from out t out_after
    pub mixes : sum ≡ replies_mixed sum_before replies

  abbrev pub Rounds : List Count → List Call → Archive (Peak Count) S → List Count → ℕ → ℕ → Archive (Peak Count) S → List Count → Type 0
  Rounds readings calls s out zero sum t out_after = (sum ≡ 0) × (t ≡ s) × (out_after ≡ out)
  Rounds readings calls s out (suc n) sum t out_after = Round readings calls (Rounds readings calls s out n) sum t out_after

  -- A journal loaded into tables, a store and a row area, and rounds of calls on the archive that it gave. A row that a call names stands in the row area
  -- that the load left. The number that is told is of all replies, of how the load ended, and of what the spans left in the output.
  pub record TimedOver (nodes : List (Node (Peak Count))) (versions : List Version) (store : S) (area out : List Count) (journal : List ℕ) (calls : List Call) (rounds told : ℕ) : Type 0 where
    pub answer : Result ℕ LoadFault
    pub archive : Archive (Peak Count) S
    pub area_after : List Count
    pub loaded : LoadedFrom peaks keeps counts_coding nodes versions store area journal answer archive area_after
    pub sum : ℕ
    pub end : Archive (Peak Count) S
    pub out_after : List Count
    pub went : Rounds area_after calls archive out rounds sum end out_after
    pub tells : told ≡ counts_mixed (mixed sum (load_number answer)) out_after

-- The same with 16,384 nodes, 1,024 versions, a row area of 1,024 readings, an output of 4,096, and a row store with no block over an area of 8,192.
pub record Timed (journal : List ℕ) (calls : List Call) (rounds told : ℕ) : Type 0 where
  pub nodes : List (Node (Peak Count))
  pub nodes_there : length nodes ≡ 16384
  pub versions : List Version
  pub versions_there : length versions ≡ 1024
  pub area : List Count
  pub area_there : length area ≡ 1024
  pub out : List Count
  pub out_there : length out ≡ 4096
  pub store_area : List Count
  pub store_there : length store_area ≡ 8192
  pub store : RowStore Count
  pub empty : Empty row_kept store_area store
  pub over : TimedOver row_keeping nodes versions store area out journal calls rounds told
