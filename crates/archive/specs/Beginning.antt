-- What begin writes. Assumes nothing.
use Rattle.std.specs.Prelude.{◌≡◌, ◌||◌, List, [], length, None, MatchBool, ◌==◌, slice_set}
use Rattle.summary.specs.Summing.{Summing}
use Rattle.flexlist.specs.Edits.{lead}
use Rattle.nodes.specs.declared.node.Node.{Node}
use Rattle.nodes.specs.Holding.{leaf_node}
use Rattle.archive.specs.declared.version.Version.{Version}
use Rattle.archive.specs.declared.begin.Begun.{Begun}
use Rattle.archive.specs.Records.{begun_record}
use Rattle.archive.specs.Stands.{TablesStand, tables_of}

-- where a table is empty nothing is written and no version is there
pub record NotBegun {Q : Type 0} (nodes : List (Node Q)) (versions : List Version) (r : Begun) (nodes_after : List (Node Q)) (versions_after : List Version) : Type 0 where
  pub used : r.used ≡ 0
  pub count : r.count ≡ 0
  pub nodes_kept : nodes_after ≡ nodes
  pub versions_kept : versions_after ≡ versions

-- else the lead's leaf is node 0, version 0 is recorded, and the tables stand for no edit
pub record HasBegun {R Q : Type 0} (means : Summing R Q) (nodes : List (Node Q)) (versions : List Version) (r : Begun) (nodes_after : List (Node Q)) (versions_after : List Version) : Type 0 where
  pub used : r.used ≡ 1
  pub count : r.count ≡ 1
  pub node : nodes_after ≡ slice_set nodes 0 (leaf_node means lead None)
  pub version : versions_after ≡ slice_set versions 0 (begun_record 0)
  pub stands : TablesStand means [] (tables_of nodes_after r.used versions_after r.count)

abbrev pub Begin : {R Q : Type 0} → Summing R Q → List (Node Q) → List Version → Begun → List (Node Q) → List Version → Type 0
Begin means nodes versions r nodes_after versions_after =
    MatchBool (length nodes == 0 || length versions == 0) (NotBegun nodes versions r nodes_after versions_after) (HasBegun means nodes versions r nodes_after versions_after)
