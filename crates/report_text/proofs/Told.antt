-- What the lines of a report say of an archive. Assumes nothing.
use Rattle.std.proofs.Common.{◌≡◌, ℕ, suc, ◌-◌, ◌≤◌, min, false, cond, ltb, leb, List, ◌++◌, length, take, Some, None, Ok, Option, Result, sym, refl, ap, ◌∙◌, subst, append-nil, arith, take_all, le-ltb}
use native.Mathlib.Decide.{dec_le}
use borrow.Author.Tests.{lt-leb}
use Rattle.std.specs.List.{slice_get}
use Rattle.std.specs.Result.{result_unwrap_or}
use Rattle.std.proofs.lemmas.Bool.{cond-false}
use Rattle.reading.specs.declared.count.Count.{Count}
use Rattle.summary.specs.declared.peak.Highest.{Highest}
use Rattle.summary.specs.declared.peak.Peak.{Peak}
use Rattle.summary.specs.Summing.{summary_of}
use Rattle.store.specs.declared.row.RowStore.{RowStore}
use Rattle.store.specs.RowStores.{row_kept}
use Rattle.store.specs.Keeping.{Keeping, row_keeping}
use Rattle.store.specs.Stores.{Empty}
use Rattle.flexlist.specs.Laid.{root}
use Rattle.flexlist.specs.Edits.{Edit, list_of}
use Rattle.nodes.specs.declared.node.Node.{Node}
use Rattle.archive.specs.declared.version.Version.{Version}
use Rattle.archive.specs.declared.fault.ReadFault.{ReadFault}
use Rattle.archive.specs.declared.fault.ReadFault.TheVariants as unread
use Rattle.archive.specs.Asking.{all_readings, part, outside, answer_by, part_refusal, summary_answer}
use Rattle.archive.specs.Calling.{Archive, Standing, SummaryTold}
use Rattle.archive.specs.Records.{record_of, record_by, edit_of, edits_before}
use Rattle.archive.proofs.Later.{same_some}
use Rattle.archive.proofs.Looks.{BaseFound, found_below}
use Rattle.archive.proofs.Asks.{readings_counted}
use Rattle.archive.specs.History.{History}
use Rattle.journal.specs.declared.fault.LoadFault.{LoadFault}
use Rattle.report_text.specs.Report.{peaks, line_text, version_lines, table_text, fault_text, header, TopTold, LineTold, LinesTold, ReportedOver, ReportedFirst}

-- the summary of all readings of a version
whole_answer : (es : List (Edit Count)) (v n : ℕ) → v ≤ length es → n ≡ length (all_readings (list_of es v)) → summary_answer peaks es v 0 n ≡ Ok (summary_of peaks (all_readings (list_of es v)))
whole_answer es v n low e =
    let xs = all_readings (list_of es v) in
    let known : part_refusal es v 0 n ≡ cond (outside (length xs) 0 n) (Some unread.Position) None = cond-false (leb (suc (length es)) v) _ _ (lt-leb (suc (length es)) v (omega arith)) in
    let first : ltb n 0 ≡ false = le-ltb n 0 (omega arith) in
    let second : ltb (length xs) n ≡ false = le-ltb (length xs) n (omega arith) in
    let inside : outside (length xs) 0 n ≡ false = simp (first, second) in
    let none : part_refusal es v 0 n ≡ None = known ∙ cond-false (outside (length xs) 0 n) _ _ inside in
    let all : take (n - 0) xs ≡ xs = take_all (n - 0) xs (omega arith) in
    ap (λ o. answer_by o (summary_of peaks (part (list_of es v) 0 n))) none ∙ ap (λ l. Ok (summary_of peaks l)) all

-- what is written of a version does not hang on where its root stands
written_same : (es : List (Edit Count)) (v root : ℕ) → (record_of es v root).written ≡ (record_of es v 0).written
written_same es v root = go (edit_of es v)
  where
    go : (o : Option (Edit Count)) → (record_by o (edits_before es v) (list_of es v) root).written ≡ (record_by o (edits_before es v) (list_of es v) 0).written
    go None = refl
    go (Some e) = refl

module _ {S : Type 0} (keeps : Keeping S Count) (s : Archive (Peak Count) S) where
  pub top_there : (v n : ℕ) (r : Result (Peak Count) ReadFault) (none : Peak Count) → SummaryTold peaks keeps s v 0 n r → TopTold keeps s v n (result_unwrap_or r none).highest
  top_there v n r none told es st low e = ap (λ q. (result_unwrap_or q none).highest) (told (Some es) st ∙ whole_answer es v n low e)

  -- the record that is read is the version's
  module _ (v : ℕ) (es : List (Edit Count)) (st : Standing peaks keeps (Some es) s) (low : v ≤ length es) (noted : Version) (there : slice_get s.tables.versions v ≡ Some noted) where
    at : BaseFound peaks s.tables es st.stands.tables v noted
    at = found_below peaks s.tables es st.stands.tables v low noted there

    blocks_are : noted.blocks ≡ length (list_of es v)
    blocks_are = at.told_of.blocks_is

    readings_are : noted.readings ≡ length (all_readings (list_of es v))
    readings_are = at.told_of.readings_is ∙ readings_counted (list_of es v)

    written_is : noted.written ≡ (record_of es v 0).written
    written_is = ap (λ w. w.written) (same_some _ _ (sym there ∙ at.stands.recorded)) ∙ written_same es v (root at.tree)

  pub line_there : (v : ℕ) (noted : Version) (top : Option (Highest Count)) (before after : List ℕ) → slice_get s.tables.versions v ≡ Some noted → TopTold keeps s v noted.readings top
      → after ≡ before ++ line_text v noted.blocks noted.readings noted.written top → LineTold keeps s v before after
  line_there v noted top before after there t e es st low =
      let b = blocks_are v es st low noted there in
      let r = readings_are v es st low noted there in
      let w = written_is v es st low noted there in
      let p = t es st low r in
      e ∙ ap (λ l. before ++ l) (ap (λ n. line_text v n noted.readings noted.written top) b
      ∙ ap (λ n. line_text v (length (list_of es v)) n noted.written top) r
      ∙ ap (λ n. line_text v (length (list_of es v)) (length (all_readings (list_of es v))) n top) w
      ∙ ap (line_text v (length (list_of es v)) (length (all_readings (list_of es v))) (record_of es v 0).written) p)

  -- the table, from its header on
  table_shown : (head mid : List ℕ) → head ≡ header → LinesTold keeps s s.tables.count head mid → (h : History Count) → Standing peaks keeps h s → mid ≡ table_text h
  table_shown head mid e told None st = told None st ∙ append-nil head ∙ e
  table_shown head mid e told (Some es) st =
      told (Some es) st ∙ ap (λ l. l ++ version_lines es s.tables.count) e ∙ ap (λ n. header ++ version_lines es n) st.stands.tables.counted

  pub all_shown : (head mid text : List ℕ) (answer : Result ℕ LoadFault) → head ≡ header → LinesTold keeps s s.tables.count head mid → text ≡ mid ++ fault_text answer
      → (h : History Count) → Standing peaks keeps h s → text ≡ table_text h ++ fault_text answer
  all_shown head mid text answer e told q h st = q ∙ ap (λ l. l ++ fault_text answer) (table_shown head mid e told h st)

-- the first bytes, as the code cuts them out
first_bytes : (bs : List ℕ) (most few : ℕ) → few ≡ min (length bs) most → take (few - 0) bs ≡ take most bs
first_bytes bs most few e = elim (dec_le most (length bs)) [
  | yes h ↦ (let same : few - 0 ≡ most = omega arith in ap (λ n. take n bs) same)
  | no h ↦ take_all (few - 0) bs (omega arith) ∙ sym (take_all most bs (omega arith))
]

-- the report over tables of the sizes that are given
pub first_reported : (most few : ℕ) (bs : List ℕ) (nodes : List (Node (Peak Count))) (versions : List Version) (area rows : List Count) (store : RowStore Count) (text : List ℕ)
    → length nodes ≡ 1024 → length versions ≡ 256 → length area ≡ 1024 → length rows ≡ 4096 → Empty row_kept rows store → few ≡ min (length bs) most
    → ReportedOver row_keeping nodes versions store area (take (few - 0) bs) text → ReportedFirst most bs text
first_reported most few bs nodes versions area rows store text n v a r e m o = record {
  nodes = nodes;
  nodes_there = n;
  versions = versions;
  versions_there = v;
  area = area;
  area_there = a;
  store_area = rows;
  store_there = r;
  store = store;
  empty = e;
  over = subst (λ l. ReportedOver row_keeping nodes versions store area l text) (first_bytes bs most few m) o;
}
