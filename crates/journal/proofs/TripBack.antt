-- The journal of an archive, loaded into one that has just begun, gives the same versions. Assumes nothing.
use Rattle.store.specs.Keeping.{Keeping}
use Rattle.std.proofs.Common.{◌≡◌, ℕ, suc, ◌+◌, ◌≤◌, Bool, true, false, cond, ◌||◌, ◌==◌, nat_le, List, [], ◌∷◌, ◌++◌, length, take, drop, Some, None, Ok, Err, MatchBool, Result, sym, refl, ap, ap₂, ◌∙◌, subst, arith}
use Rattle.std.specs.List.{AllByRecursion}
use Rattle.std.proofs.lemmas.List.{append-nil, take_at}
use Rattle.std.proofs.lemmas.Bool.Decides.{nat_tests}
use Rattle.summary.specs.Summing.{Summing}
use Rattle.flexlist.specs.Edits.{Edit}
use Rattle.nodes.specs.declared.node.Node.{Node}
use Rattle.archive.specs.declared.version.Version.{Version}
use Rattle.archive.specs.declared.fault.EditFault.{EditFault}
use Rattle.archive.specs.Calling.{Archive, Standing}
use Rattle.archive.specs.History.{History, begun_history}
use Rattle.journal.specs.declared.fault.JournalFault.{JournalFault}
use Rattle.journal.specs.declared.fault.JournalFault.TheVariants as fault
use Rattle.journal.specs.declared.fault.LoadFault.{LoadFault}
use Rattle.journal.specs.Format.{Coding, Entry, entries_of, head_bytes, entries_bytes, Fits}
use Rattle.journal.specs.Loading.{Ended, whole, stopped, refused, TookIn, Loads, short, no_head, read}
use Rattle.journal.specs.Writing.{journal_of, Writes, SameVersions, LoadsBack}
use Rattle.journal.proofs.Codes.{cut_same, entry_some, begun_by}
use Rattle.journal.proofs.TripDue.{edit_there, edit_none}
use Rattle.journal.proofs.TripFits.{entries_fit}
use Rattle.journal.proofs.TripLists.{entries_length, lists_shown}
use Rattle.journal.proofs.TripHistory.{taken_on, ok_not_err}

-- the part of an output that was written
took_written : (journal out written : List ℕ) (m : ℕ) → Writes journal out (Ok m) written → take m written ≡ journal
took_written journal out written m w = by_test (nat_le (length journal) (length out)) w
  where
    by_test : (b : Bool) → MatchBool b ((◌≡◌ {A = Result ℕ JournalFault} (Ok m) (Ok (length journal))) × (written ≡ journal ++ drop (length journal) out)) ((◌≡◌ {A = Result ℕ JournalFault} (Ok m) (Err fault.Area)) × (written ≡ out)) → take m written ≡ journal
    by_test true w =
        let is = w.0 in
        let same : m ≡ length journal = cc in
        ap (take m) w.1 ∙ take_at journal (drop (length journal) out) m (sym same)
    by_test false w = absurd (ok_not_err m fault.Area w.0)

not_zero : (n : ℕ) → 1 ≤ n → (n == 0) ≡ false
not_zero n h = grind (arith, nat_tests)

-- tables with an entry each begin with version 0
begun_some : {R Q : Type 0} (nodes : List (Node Q)) (versions : List Version) → 1 ≤ length nodes → 1 ≤ length versions → begun_history {R = R} nodes versions ≡ Some []
begun_some {R} {Q} nodes versions h i = ap₂ (λ a b. cond {A = History R} (a || b) None (Some [])) (not_zero (length nodes) h) (not_zero (length versions) i)

module _ {R : Type 0} (k : Coding R) (measured : (x : R) → length (k.bytes x) ≡ k.wide) (told : (x y : R) → k.bytes x ≡ k.bytes y → x ≡ y) where
  module _ {Q S : Type 0} (means : Summing R Q) (keeps : Keeping S R) (s t : Archive Q S) (area area_after : List R) (r : Result ℕ LoadFault)
      (accepting : (f : EditFault) (place : ℕ) → r ≡ Err (record { fault = fault.Edit f; place = place }) → ⊥) (roomy : (place : ℕ) → r ≡ Err (record { fault = fault.Area; place = place }) → ⊥) where
    -- with entries still to come loading cannot have ended, and with none it ended well
    ended_on : (more : List (Entry R)) (room place : ℕ) (h : History R) (rest : List ℕ) (passed : List (List R)) → AllByRecursion Fits more → rest ≡ entries_bytes k more → Ended means keeps k room place h t rest passed r
        → (more ≡ []) × (r ≡ Ok t.tables.count)
    ended_on [] room place h rest passed fit is (whole e p a) = (refl, a)
    ended_on [] room place h rest passed fit is (stopped row f far bad p a) = absurd (edit_none k room rest row f far is bad)
    ended_on [] room place h rest passed fit is (refused x more f fits long e refusal p a) = absurd (accepting f place a)
    ended_on (x ∷ xs) room place h rest passed fit is (whole e p a) = absurd (entry_some k x (entries_bytes k xs) (sym is ∙ e))
    ended_on (x ∷ xs) room place h rest passed fit is (stopped row f far bad p a) =
        let only = edit_there k measured room x (entries_bytes k xs) rest row f far fit.0 is bad in
        absurd (roomy (place + far) (a ∙ ap {B = Result ℕ LoadFault} (λ (y : JournalFault). Err (record { fault = y; place = place + far })) only))
    ended_on (x ∷ xs) room place h rest passed fit is (refused y more f fits long e refusal p a) = absurd (accepting f place a)

    all_taken : (es : List (Edit R)) → AllByRecursion Fits (entries_of es) → TookIn means keeps k (Some []) s area (journal_of k (Some es)) r t area_after
        → (n : ℕ) × (r ≡ Ok n) × SameVersions means keeps k es n t
    all_taken es fit got =
        let cut = (cut_same (head_bytes k) (head_bytes k) (entries_bytes k (entries_of es)) (entries_bytes k got.taken ++ got.rest) refl got.split).1 in
        let b = begun_by k measured told got.taken (entries_of es) got.rest fit got.fit cut in
        let end = ended_on b.more _ _ got.history got.rest got.passed b.fit b.left got.ended in
        let u = taken_on means keeps got.taken [] s got.history t got.took in
        let all : entries_of es ≡ got.taken = b.split ∙ (ap (λ l. got.taken ++ l) end.0 ∙ append-nil got.taken) in
        let same : entries_of u.0 ≡ entries_of es = u.2 ∙ sym all in
        let stands : Standing means keeps (Some u.0) t = subst (λ h. Standing means keeps h t) u.1 got.stands in
        let counted : length u.0 ≡ length es = sym (entries_length u.0) ∙ (ap length same ∙ entries_length es) in
        (t.tables.count, end.1, record { edits = u.0; stands = stands; alike = same; as_many = stands.stands.tables.counted ∙ ap suc counted; counted = counted; same = lists_shown u.0 es same })

    loaded_back : (es : List (Edit R)) → AllByRecursion Fits (entries_of es) → Loads means keeps k (Some []) s area (journal_of k (Some es)) r t area_after
        → (n : ℕ) × (r ≡ Ok n) × SameVersions means keeps k es n t
    loaded_back es fit (short l a e p) = absurd (omega arith)
    loaded_back es fit (no_head l other a e p) = absurd (other refl)
    loaded_back es fit (read got) = all_taken es fit got

  pub loads_back : {P T Q S : Type 0} (theirs : Summing R P) (theirs_keeps : Keeping T R) (means : Summing R Q) (keeps : Keeping S R)
      → LoadsBack k theirs theirs_keeps means keeps
  loads_back {P} {T} {Q} {S} theirs theirs_keeps means keeps from es stood out written m law nodes versions some_nodes some_versions store t area area_after r loaded accepting roomy =
      let journal = took_written (journal_of k (Some es)) out written m (law (Some es) stood) in
      let begun = begun_some nodes versions some_nodes some_versions in
      let s : Archive Q S = record { tables = record { nodes = loaded.begun_nodes; used = loaded.begun.used; versions = loaded.begun_versions; count = loaded.begun.count }; store = store } in
      let loads = subst (λ h. Loads means keeps k h s area (journal_of k (Some es)) r t area_after) begun (subst (λ bs. Loads means keeps k (begun_history nodes versions) s area bs r t area_after) journal loaded.loads) in
      loaded_back means keeps s t area area_after r accepting roomy es (entries_fit theirs es from.tables stood.stands.tables stood.placed) loads
