-- What each node of an archive holds of the readings under it. Assumes nothing.
use Rattle.std.specs.Prelude.{◌≡◌, ℕ, ◌+◌, List, length, Some}
use Rattle.std.specs.List.{slice_get}
use Rattle.summary.specs.Summing.{Summing, summary_of}
use Rattle.flexlist.specs.Nodes.{leaves}
use Rattle.flexlist.specs.Laid.{Laid, plain, root, leader, Part}
use Rattle.flexlist.specs.Edits.{Edit, content_of}
use Rattle.nodes.specs.declared.node.Node.{Node}
use Rattle.nodes.specs.Holding.{own_blocks}
use Rattle.questions.specs.Readings.{readings_of}
use Rattle.archive.specs.Stands.{Tables, TablesStand}

module _ {R Q : Type 0} (means : Summing R Q) where
  -- The node of a stretch, which is a part of a version's tree: it holds the summary of the stretch's readings and how many they are, and how many blocks
  -- the stretch has: as many as leaves, but for the lead, which has no reading.
  pub record HoldsAll (es : List (Edit R)) (nodes : List (Node Q)) (stretch : Laid) : Type 0 where
    pub node : Node Q
    pub there : slice_get nodes (root stretch) ≡ Some node
    pub summary : node.summary ≡ summary_of means (readings_of (content_of es) stretch)
    pub readings : node.readings ≡ length (readings_of (content_of es) stretch)
    pub blocks : node.blocks + 1 ≡ leaves (plain stretch) + own_blocks (length (content_of es (leader stretch)).row)

  -- every node of every version of an archive that stands
  abbrev pub NodesHold : Type 0
  NodesHold =
      (es : List (Edit R)) (s : Tables Q) → (st : TablesStand means es s) → (v : ℕ) (tree : Laid) → slice_get st.trees v ≡ Some tree → (stretch : Laid) → Part stretch tree →
      HoldsAll es s.nodes stretch
