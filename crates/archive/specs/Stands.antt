-- What it means that tables and a store are those of an archive in which just these edits were accepted. Assumes nothing.
use Rattle.std.specs.Prelude.{◌≡◌, ℕ, suc, ◌+◌, ◌<◌, ◌≤◌, min, List, length, Some}
use Rattle.std.specs.List.{slice_get, AllByRecursion}
use Rattle.summary.specs.Summing.{Summing}
use Rattle.flexlist.specs.Shape.{FlexList}
use Rattle.flexlist.specs.Laid.{Laid, plain, root}
use Rattle.flexlist.specs.Shared.{OwnEntries, Under, Shared}
use Rattle.flexlist.specs.Edits.{Item, Edit, base_of, list_of, blocks_of, content_of}
use Rattle.flexlist.specs.Replay.{node_count, written_by}
use Rattle.nodes.specs.declared.node.Node.{Node}
use Rattle.nodes.specs.Holding.{Holds}
use Rattle.archive.specs.declared.version.Version.{Version}
use Rattle.archive.specs.Records.{record_of, edit_of, edits_before}

-- the tables of an archive: the table of nodes and how many are in use, the table of versions and how many are in use
pub record Tables (Q : Type 0) : Type 0 where
  pub nodes : List (Node Q)
  pub used : ℕ
  pub versions : List Version
  pub count : ℕ

abbrev pub tables_of : {Q : Type 0} → List (Node Q) → ℕ → List Version → ℕ → Tables Q
tables_of nodes used versions count = record { nodes = nodes; used = used; versions = versions; count = count }

-- at most 60,000 nodes and 4,096 versions of the tables are used
abbrev pub node_limit : {Q : Type 0} → Tables Q → ℕ
node_limit s = min 60000 (length s.nodes)

abbrev pub version_limit : {Q : Type 0} → Tables Q → ℕ
version_limit s = min 4096 (length s.versions)

-- a block within the limits: its level, and the length of its row
pub record WithinLimits {R : Type 0} (x : Item R) : Type 0 where
  pub level : x.level ≤ 15
  pub some : 1 ≤ length x.content.row
  pub most : length x.content.row ≤ 1024

module _ {R Q : Type 0} (means : Summing R Q) where
  -- Version v stands: the laid tree t is the FlexList of its list, each node at an entry of its own among those in use, with its counts and its
  -- summary; its record is as it should be; and its blocks keep the limits.
  pub record VersionStands (es : List (Edit R)) (s : Tables Q) (v : ℕ) (t : Laid) : Type 0 where
    pub shaped : FlexList 0 (blocks_of (list_of es v)) (plain t)
    pub holds : Holds means (content_of es) s.nodes t
    pub own : OwnEntries t
    pub under : Under s.used t
    pub recorded : slice_get s.versions v ≡ Some (record_of es v (root t))
    pub in_limits : AllByRecursion WithinLimits (list_of es v)
    pub few : length (list_of es v) ≤ 500

  -- The tables stand for these edits, the newest first.
  pub record TablesStand (es : List (Edit R)) (s : Tables Q) : Type 0 where
    pub trees : List Laid
    pub as_many : length trees ≡ suc (length es)
    pub counted : s.count ≡ suc (length es)
    pub used_up : s.used ≡ node_count es
    pub nodes_fit : s.used ≤ node_limit s
    pub versions_fit : s.count ≤ version_limit s
    pub each : (v : ℕ) (t : Laid) → slice_get trees v ≡ Some t → VersionStands es s v t
    -- each edit's base is an older version
    pub older : (v : ℕ) (e : Edit R) → edit_of es v ≡ Some e → base_of e < v
    -- each version against its base: the sharing rule, over the entries that its edit took
    pub shared : (v : ℕ) (e : Edit R) (t b : Laid) → edit_of es v ≡ Some e → slice_get trees v ≡ Some t → slice_get trees (base_of e) ≡ Some b →
        Shared b t (node_count (edits_before es v)) (node_count (edits_before es v) + written_by (edits_before es v) e)

-- the store has each block's row under the block's number
abbrev pub RowsStand : {R : Type 0} → List (List R) → List (Item R) → Type 0
RowsStand rows xs = AllByRecursion (λ x. slice_get rows x.content.number ≡ Some x.content.row) xs

-- The tables and the store, which means a list of rows, stand for these edits.
pub record Stands {R Q S : Type 0} (means : Summing R Q) (rows : S → List (List R)) (es : List (Edit R)) (s : Tables Q) (store : S) : Type 0 where
  pub tables : TablesStand means es s
  pub stored : (v : ℕ) → RowsStand (rows store) (list_of es v)
