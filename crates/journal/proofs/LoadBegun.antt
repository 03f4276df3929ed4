-- A journal loaded from begin on. Assumes nothing.
use Rattle.store.specs.Keeping.{Keeping}
use Rattle.std.proofs.Common.{ℕ, List, Result}
use Rattle.summary.specs.Summing.{Summing, Lawful}
use Rattle.nodes.specs.declared.node.Node.{Node}
use Rattle.archive.specs.declared.version.Version.{Version}
use Rattle.archive.specs.declared.begin.Begun.{Begun}
use Rattle.archive.specs.Beginning.{Begin}
use Rattle.archive.specs.Calling.{Archive}
use Rattle.archive.specs.History.{begun_history}
use Rattle.archive.proofs.Begun.{begun_stands}
use Rattle.journal.specs.declared.fault.LoadFault.{LoadFault}
use Rattle.journal.specs.Format.{Coding}
use Rattle.journal.specs.Loading.{LoadLaw, LoadedFrom}

module _ {R Q S : Type 0} (means : Summing R Q) (lawful : Lawful means) (keeps : Keeping S R) (k : Coding R) where
  pub loaded_from : (nodes begun_nodes : List (Node Q)) (versions begun_versions : List Version) (begun : Begun) (store : S) (area after : List R) (bytes : List ℕ) (r : Result ℕ LoadFault) (t : Archive Q S)
      → Begin means nodes versions begun begun_nodes begun_versions
      → LoadLaw means keeps k (record { tables = record { nodes = begun_nodes; used = begun.used; versions = begun_versions; count = begun.count }; store = store }) area bytes r t after
      → LoadedFrom means keeps k nodes versions store area bytes r t after
  loaded_from nodes begun_nodes versions begun_versions begun store area after bytes r t begins law =
      let stood = begun_stands means lawful keeps nodes begun_nodes versions begun_versions begun store begins in
      record {
        begun = begun;
        begun_nodes = begun_nodes;
        begun_versions = begun_versions;
        begins = begins;
        stood = stood;
        loads = law (begun_history nodes versions) stood;
      }
