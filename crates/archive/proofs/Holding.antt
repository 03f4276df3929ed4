-- Each node of an archive holds the summary and the counts of the readings under it. Assumes nothing.
use Rattle.std.proofs.Common.{List, sym, refl, ap}
use Rattle.summary.specs.Summing.{Summing, Lawful}
use Rattle.flexlist.specs.Laid.{Laid, leaf, fork, root, Part}
use Rattle.flexlist.specs.Laid as laid
use Rattle.flexlist.specs.Edits.{Edit, list_of, content_of}
use Rattle.flexlist.proofs.Sound.{version_sound}
use Rattle.nodes.specs.declared.node.Node.{Node}
use Rattle.nodes.specs.Holding.{Holds, Counted, node_of}
use Rattle.nodes.specs.Views.{blocks_in, readings_in}
use Rattle.nodes.proofs.Held.{counted_leaf, counted_below, counted_after}
use Rattle.questions.specs.Readings.{Small, Stands}
use Rattle.questions.proofs.Readings.{small_next, small_below, small_after, readings_counted, summary_held}
use Rattle.questions.proofs.Counts.{blocks_counted}
use Rattle.questions.proofs.Held.{stands_node}
use Rattle.archive.proofs.Standing.{counted}
use Rattle.archive.proofs.Roots.{small}
use Rattle.archive.specs.Held.{HoldsAll, NodesHold}

module _ {R Q : Type 0} (means : Summing R Q) (lawful : Lawful means) (es : List (Edit R)) (nodes : List (Node Q)) where
  -- of one tree that the table holds
  whole : (t : Laid) → Holds means (content_of es) nodes t → Small (content_of es) t → Counted (content_of es) t → HoldsAll means es nodes t
  whole t h few many =
      let here : Stands means (content_of es) nodes (root t) t = record { holds = h; here = refl } in
      let node = stands_node means (content_of es) nodes (root t) t here in
      record {
        node = node_of means (content_of es) t;
        there = node;
        summary = summary_held means (content_of es) lawful t;
        readings = readings_counted means (content_of es) nodes (root t) (node_of means (content_of es) t).readings t here few (sym (ap readings_in node));
        blocks = blocks_counted means (content_of es) nodes (root t) (node_of means (content_of es) t).blocks t here many (sym (ap blocks_in node));
      }

  -- of its parts
  parts : (p t : Laid) → Part p t → Holds means (content_of es) nodes t → Small (content_of es) t → Counted (content_of es) t → HoldsAll means es nodes p
  parts p t laid.Part.whole h few many = whole t h few many
  parts p (leaf e a t) (laid.Part.in_rest i) h few many = parts p t i h.2 (small_next (content_of es) e a t few) (counted_leaf (content_of es) many)
  parts p (fork e m x y) (laid.Part.in_below i) h few many = parts p x i h.3 (small_below (content_of es) e m x y few) (counted_below (content_of es) many)
  parts p (fork e m x y) (laid.Part.in_after i) h few many = parts p y i h.4 (small_after (content_of es) e m x y few) (counted_after (content_of es) many)

pub nodes_hold : {R Q : Type 0} (means : Summing R Q) → Lawful means → NodesHold means
nodes_hold means lawful es s st v tree at stretch part =
    let w = st.each v tree at in
    let known = (version_sound es v).known in
    parts means lawful es s.nodes stretch tree part w.holds (small es (list_of es v) tree w.shaped known w.in_limits w.few) (counted es (list_of es v) tree w.shaped known w.in_limits w.few)
