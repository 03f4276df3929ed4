-- What the root of a version's tree counts: the blocks and the readings of its list. Assumes nothing.
use Rattle.std.proofs.Common.{◌≡◌, ℕ, ◌≤◌, List, [], ◌∷◌, ◌++◌, map, length, refl, ap, ◌∙◌, arith, length-append}
use Rattle.std.specs.List.{slice_get, AllByRecursion}
use Rattle.summary.specs.Summing.{Summing}
use Rattle.flexlist.specs.Shape.{FlexList}
use Rattle.flexlist.specs.Laid.{Laid, plain, root}
use Rattle.flexlist.specs.Edits.{Item, Edit, Known, blocks_of, content_of, identities_of}
use Rattle.flexlist.proofs.EditBounds.{ids_blocks}
use Rattle.nodes.specs.declared.node.Node.{Node}
use Rattle.nodes.specs.Holding.{Holds}
use Rattle.nodes.specs.Views.{blocks_in, readings_in as readings_at}
use Rattle.nodes.proofs.Held.{blocks_held}
use Rattle.questions.specs.Readings.{in_order, readings_of, Small}
use Rattle.questions.proofs.Readings.{readings_flex, readings_counted}
use Rattle.archive.specs.Records.{readings_in}
use Rattle.archive.specs.Stands.{WithinLimits}
use Rattle.archive.proofs.Inserts.{readings_few}
use Rattle.archive.proofs.Standing.{content_lead, counted, lead_empty, leaves_are}

module _ {R : Type 0} (es : List (Edit R)) where
  rows_length : (xs : List (Item R)) → AllByRecursion (Known es) xs → length (in_order (map (λ a. (content_of es a).row) (identities_of xs))) ≡ readings_in xs
  unfolding readings_in
  rows_length [] k = refl
  rows_length (x ∷ xs) k =
      let ih = rows_length xs k.1 in
      let here : length (content_of es x.identity).row ≡ length x.content.row = ap (λ c. length c.row) k.0.holds in
      length-append (content_of es x.identity).row (in_order (map (λ a. (content_of es a).row) (identities_of xs))) ∙ omega arith

  module _ (xs : List (Item R)) (t : Laid) (shaped : FlexList 0 (blocks_of xs) (plain t)) (known : AllByRecursion (Known es) xs) (in_limits : AllByRecursion WithinLimits xs) (many : length xs ≤ 500) where
    pub readings_long : length (readings_of (content_of es) t) ≡ readings_in xs
    readings_long =
        let c = content_of es in
        let rest = in_order (map (λ a. (c a).row) (identities_of xs)) in
        let all : readings_of c t ≡ (c 0).row ++ rest = readings_flex c t shaped ∙ ap (λ ids. (c 0).row ++ in_order (map (λ a. (c a).row) ids)) (ids_blocks xs) in
        ap length (all ∙ ap (λ k. k.row ++ rest) (content_lead es)) ∙ rows_length xs known

    pub small : Small (content_of es) t
    small =
        let n = leaves_are es xs t shaped known in_limits many in
        let l = readings_long in
        let f = readings_few xs in_limits in
        record { few = omega arith; short = omega arith }

    module _ {Q : Type 0} (means : Summing R Q) (nodes : List (Node Q)) (at : ℕ) (holds : Holds means (content_of es) nodes t) (here : root t ≡ at) where
      pub root_blocks : blocks_in (slice_get nodes at) ≡ length xs
      root_blocks =
          let b = blocks_held means (content_of es) nodes at t holds here (counted es xs t shaped known in_limits many) in
          let n = leaves_are es xs t shaped known in_limits many in
          let o = lead_empty es xs t shaped known in_limits many in
          omega arith

      pub root_readings : readings_at (slice_get nodes at) ≡ readings_in xs
      root_readings = readings_counted means (content_of es) nodes at (readings_at (slice_get nodes at)) t (record { holds = holds; here = here }) small refl ∙ readings_long
