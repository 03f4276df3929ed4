-- What the questions answer on tables that stand. Assumes nothing.
use Rattle.std.proofs.Common.{◌≡◌, ℕ, suc, ◌-◌, ◌<◌, ◌≤◌, cond, ltb, leb, List, [], ◌∷◌, map, length, Some, None, Ok, Err, Option, ok_or, sym, refl, ap, ◌∙◌, ap₂, arith, length-append, le-ltb}
use borrow.Author.Tests.{lt-leb}
use Rattle.std.specs.List.{slice_get, AllByRecursion}
use Rattle.std.proofs.lemmas.Option.{slice_get_past}
use Rattle.std.proofs.lemmas.Bool.{cond-false}
use Rattle.summary.specs.Summing.{Summing}
use Rattle.flexlist.specs.Shape.{FlexList}
use Rattle.flexlist.specs.Nodes.{nodes, to_place}
use Rattle.flexlist.specs.Laid.{Laid, plain}
use Rattle.flexlist.specs.Edits.{Item, Edit, Known, list_of, blocks_of, content_of, identities_of}
use Rattle.flexlist.specs.Replay.{path}
use Rattle.flexlist.proofs.Sound.{version_sound}
use Rattle.questions.specs.Storing.{AllStored}
use Rattle.questions.specs.declared.found.Answer.{Answer}
use Rattle.questions.specs.Readings.{in_order, row_with, rows_of, readings_of, Small, Stands as StandingTree}
use Rattle.questions.specs.Finding.{Reads}
use Rattle.archive.specs.declared.version.Version.{Version}
use Rattle.archive.specs.declared.fault.ReadFault.TheVariants as unread
use Rattle.archive.specs.Records.{readings_in}
use Rattle.archive.specs.Stands.{Tables, Stands}
use Rattle.archive.specs.Looking.{in_use}
use Rattle.archive.specs.Asking.{rows_in, all_readings, reading_found, reading_answer}
use Rattle.archive.proofs.Looks.{BaseFound, found}
use Rattle.archive.proofs.Planned.{same_shape}
use Rattle.archive.proofs.Roots.{small as few_readings}
use Rattle.archive.proofs.Standing.{content_lead, tree_ids, in_store}

module _ {R : Type 0} where
  -- how many readings a list of blocks has
  pub readings_counted : (xs : List (Item R)) → readings_in xs ≡ length (all_readings xs)
  unfolding readings_in
  readings_counted [] = refl
  readings_counted (x ∷ xs) =
      let ih = readings_counted xs in
      let both = length-append x.content.row (all_readings xs) in
      omega arith

  -- a row with no reading has no position
  pub after_lead : (rows : List (List R)) (p : ℕ) → row_with ([] ∷ rows) p ≡ suc (row_with rows p)
  after_lead rows p =
      let none : p - 0 ≡ p = omega arith in
      cond-false (ltb p 0) 0 (suc (row_with rows (p - 0))) (le-ltb p 0 (omega arith)) ∙ ap (λ q. suc (row_with rows q)) none

  module _ (es : List (Edit R)) where
    rows_known : (xs : List (Item R)) → AllByRecursion (Known es) xs → map (λ a. (content_of es a).row) (identities_of xs) ≡ rows_in xs
    rows_known [] k = refl
    rows_known (x ∷ xs) k = ap₂ (λ row rows. row ∷ rows) (ap (λ c. c.row) k.0.holds) (rows_known xs k.1)

    -- the tree of a list of known blocks: the lead's row, which is empty, then the list's rows
    module _ (xs : List (Item R)) (t : Laid) (shaped : FlexList 0 (blocks_of xs) (plain t)) (known : AllByRecursion (Known es) xs) where
      pub rows_are : rows_of (content_of es) t ≡ [] ∷ rows_in xs
      rows_are =
          ap (λ ids. map (λ a. (content_of es a).row) ids) (tree_ids xs (plain t) shaped)
          ∙ ap₂ (λ row rows. row ∷ rows) (ap (λ c. c.row) (content_lead es)) (rows_known xs known)

      pub readings_are : readings_of (content_of es) t ≡ all_readings xs
      unfolding readings_of
      readings_are = ap in_order rows_are

      pub row_is : (p : ℕ) → row_with (rows_of (content_of es) t) p ≡ suc (row_with (rows_in xs) p)
      row_is p = ap (λ rows. row_with rows p) rows_are ∙ after_lead (rows_in xs) p

module _ {R Q S : Type 0} (means : Summing R Q) (rows : S → List (List R)) (s : Tables Q) (store : S) (es : List (Edit R)) (st : Stands means rows es s store) (v : ℕ) where
  -- a version found in use
  module _ (from : Version) (q : in_use s.versions s.count v ≡ Some from) where
    pub base : BaseFound means s es st.tables v from
    base = found means s es st.tables v from q

    pub version_known : {A : Type 0} (x y : A) → cond (leb (suc (length es)) v) x y ≡ y
    version_known x y = let low = base.low in cond-false (leb (suc (length es)) v) x y (lt-leb (suc (length es)) v (omega arith))

    pub long : from.readings ≡ length (all_readings (list_of es v))
    long = base.told_of.readings_is ∙ readings_counted (list_of es v)

    -- what a walk over its tree learns
    pub record Walked : Type 0 where
      pub stands : StandingTree means (content_of es) s.nodes from.root base.tree
      pub stored : AllStored (rows store) (content_of es) base.tree
      pub small : Small (content_of es) base.tree
      pub readings : readings_of (content_of es) base.tree ≡ all_readings (list_of es v)

    pub walked : Walked
    walked =
        let w = base.stands in
        let t = base.tree in
        let xs = list_of es v in
        let known = (version_sound es v).known in
        record {
          stands = record { holds = w.holds; here = sym base.told_of.root_is };
          stored = in_store es xs t w.shaped known w.in_limits w.few (rows store) (st.stored v);
          small = few_readings es xs t w.shaped known w.in_limits w.few;
          readings = readings_are es xs t w.shaped known;
        }

    -- ---- the exits of the question for one reading

    pub reading_past : (p : ℕ) → from.readings ≤ p → Err unread.Position ≡ reading_answer es v p
    reading_past p h =
        let l = long in
        sym (version_known (Err unread.Version) (reading_found (list_of es v) p (slice_get (all_readings (list_of es v)) p))
        ∙ ap (reading_found (list_of es v) p) (slice_get_past (all_readings (list_of es v)) p (omega arith)))

    reading_lost : (p : ℕ) → p < from.readings → Reads means (rows store) s.nodes from.root p None → ⊥
    reading_lost p h r =
        let w = walked in
        let l = long in
        let past : length (readings_of (content_of es) base.tree) ≤ p = r (content_of es) base.tree w.stands w.stored w.small in
        let same : length (readings_of (content_of es) base.tree) ≡ length (all_readings (list_of es v)) = ap length w.readings in
        omega arith

    reading_there : (p : ℕ) (x : Answer R) → Reads means (rows store) s.nodes from.root p (Some x) → Ok x ≡ reading_answer es v p
    unfolding path
    reading_there p x r =
        let w = walked in
        let t = base.tree in
        let xs = list_of es v in
        let k = r (content_of es) base.tree w.stands w.stored w.small in
        let at : slice_get (all_readings xs) p ≡ Some x.reading = ap (λ l. slice_get l p) (sym w.readings) ∙ k.0 in
        let way : x.path ≡ path xs (suc (row_with (rows_in xs) p)) =
        k.1 ∙ ap (λ n. nodes (to_place (plain t) n)) (row_is es xs t base.stands.shaped (version_sound es v).known p)
        ∙ ap (λ u. nodes (to_place u (suc (row_with (rows_in xs) p)))) (same_shape xs (plain t) base.stands.shaped) in
        sym (version_known (Err unread.Version) (reading_found xs p (slice_get (all_readings xs) p)) ∙ ap (reading_found xs p) at
        ∙ ap (λ n. Ok (record { reading = x.reading; path = n })) (sym way))

    -- what the walk finds is the answer
    pub reading_told : (p : ℕ) → p < from.readings → (r : Option (Answer R)) → Reads means (rows store) s.nodes from.root p r → ok_or r unread.Version ≡ reading_answer es v p
    reading_told p h None r = absurd (reading_lost p h r)
    reading_told p h (Some x) r = reading_there p x r
