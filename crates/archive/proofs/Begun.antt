-- An archive that has just begun stands. Assumes nothing.
use Rattle.store.specs.Keeping.{Keeping}
use Rattle.std.proofs.Common.{◌≡◌, ℕ, zero, suc, Bool, true, false, cond, ◌||◌, eqb, List, [], length, Some, None, MatchBool, arith}
use Rattle.summary.specs.Summing.{Summing, Lawful}
use Rattle.flexlist.specs.Edits.{lists, list_of}
use Rattle.nodes.specs.declared.node.Node.{Node}
use Rattle.archive.specs.declared.version.Version.{Version}
use Rattle.archive.specs.declared.begin.Begun.{Begun}
use Rattle.archive.specs.Stands.{RowsStand, tables_of}
use Rattle.archive.specs.Beginning.{Begin, NotBegun, HasBegun}
use Rattle.archive.specs.Calling.{Standing}
use Rattle.archive.proofs.Calls.{standing}
use Rattle.archive.specs.History.{begun_history}
use Rattle.archive.specs.History.{begun_history}

module _ {R Q S : Type 0} (means : Summing R Q) (lawful : Lawful means) (keeps : Keeping S R) (nodes nodes_after : List (Node Q)) (versions versions_after : List Version) (r : Begun) (store : S) where
  no_rows : (v : ℕ) → RowsStand {R = R} (keeps.rows store) (list_of [] v)
  unfolding lists
  no_rows zero = tt
  no_rows (suc v) = tt

  by_test : (b : Bool) → MatchBool b (NotBegun nodes versions r nodes_after versions_after) (HasBegun means nodes versions r nodes_after versions_after)
      → Standing means keeps (cond b None (Some [])) (record { tables = tables_of nodes_after r.used versions_after r.count; store = store })
  by_test true n = n.count
  by_test false h =
      standing means lawful keeps [] (tables_of nodes_after r.used versions_after r.count) store (record { tables = h.stands; stored = no_rows }) (λ v e q. let z : ◌≡◌ {A = ℕ} 0 1 = cc in absurd (omega arith))

  pub begun_stands : Begin means nodes versions r nodes_after versions_after → Standing means keeps (begun_history nodes versions) (record { tables = tables_of nodes_after r.used versions_after r.count; store = store })
  begun_stands b = by_test (eqb (length nodes) 0 || eqb (length versions) 0) b
