-- What is timed, over tables of the sizes that are given. Assumes nothing.
use Rattle.std.proofs.Common.{◌≡◌, ℕ, List, length}
use Rattle.reading.specs.declared.count.Count.{Count}
use Rattle.summary.specs.declared.peak.Peak.{Peak}
use Rattle.store.specs.declared.row.RowStore.{RowStore}
use Rattle.store.specs.RowStores.{row_kept}
use Rattle.store.specs.Keeping.{row_keeping}
use Rattle.store.specs.Stores.{Empty}
use Rattle.nodes.specs.declared.node.Node.{Node}
use Rattle.archive.specs.declared.version.Version.{Version}
use Rattle.runs.specs.declared.call.Call.{Call}
use Rattle.bench_calls.specs.Timed.{TimedOver, Timed}

pub tabled : (nodes : List (Node (Peak Count))) (versions : List Version) (area out rows : List Count) (store : RowStore Count) (journal : List ℕ) (calls : List Call) (rounds told : ℕ)
    → length nodes ≡ 16384 → length versions ≡ 1024 → length area ≡ 1024 → length out ≡ 4096 → length rows ≡ 8192 → Empty row_kept rows store
    → TimedOver row_keeping nodes versions store area out journal calls rounds told → Timed journal calls rounds told
tabled nodes versions area out rows store journal calls rounds told n v a o r e t = record {
  nodes = nodes;
  nodes_there = n;
  versions = versions;
  versions_there = v;
  area = area;
  area_there = a;
  out = out;
  out_there = o;
  store_area = rows;
  store_there = r;
  store = store;
  empty = e;
  over = t;
}
