-- What a run of calls rests on: the edits that were accepted. Assumes nothing.
use Rattle.std.specs.Prelude.{cond, ◌||◌, List, [], length, Some, None, Option, ◌==◌}
use Rattle.flexlist.specs.Edits.{Edit}
use Rattle.nodes.specs.declared.node.Node.{Node}
use Rattle.archive.specs.declared.version.Version.{Version}

-- The edits accepted so far, the newest first; none where begin gave no versions.
abbrev pub History : Type 0 → Type 0
History R = Option (List (Edit R))

-- the history of an archive that has just begun: no edit; or none, where a table is empty
abbrev pub begun_history : {R Q : Type 0} → List (Node Q) → List Version → History R
begun_history nodes versions = cond (length nodes == 0 || length versions == 0) None (Some [])
