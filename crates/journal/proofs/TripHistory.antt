-- What stands after entries that were taken: a history whose entries are those. Assumes nothing.
use Rattle.store.specs.Keeping.{Keeping}
use Rattle.std.proofs.Common.{◌≡◌, ℕ, Bool, true, false, cond, ◌||◌, ◌==◌, length, List, [], ◌∷◌, ◌++◌, Some, None, Ok, Err, Result, sym, refl, ap, ap₂, ◌∙◌, subst, arith}
use Rattle.std.proofs.lemmas.List.{append-nil, append_assoc}
use Rattle.summary.specs.Summing.{Summing}
use Rattle.flexlist.specs.Edits.{Edit}
use Rattle.archive.specs.Calling.{Archive, Standing, number_in, edit_asked}
use Rattle.archive.proofs.Later.{same_some}
use Rattle.archive.specs.History.{History}
use Rattle.journal.specs.Format.{Coding, Entry, insert, change, removal, asked_of, entry_of, entries_of, head_bytes, entries_bytes, journal_bytes}
use Rattle.journal.specs.Loading.{TookAll, Ended, whole, stopped, refused, TookIn, Loads, short, no_head, read}
use Rattle.journal.specs.Writing.{journal_of, Writes, WrittenBack, ComesBack}

pub ok_not_err : {A E : Type 0} (a : A) (e : E) → ◌≡◌ {A = Result A E} (Ok a) (Err e) → ⊥
ok_not_err a e p = let z : ◌≡◌ {A = ℕ} 0 1 = cc in omega arith

module _ {R : Type 0} where
  -- an entry that is asked of an archive gives an edit that is held as that entry
  pub entry_asked : (es : List (Edit R)) (x : Entry R) (n : ℕ) → entry_of (edit_asked es (asked_of x) n) ≡ x
  entry_asked es (insert base place level row) n = refl
  entry_asked es (change base place row) n = refl
  entry_asked es (removal base place) n = refl

module _ {R Q S : Type 0} (means : Summing R Q) (keeps : Keeping S R) where
  -- after entries that were taken: a history, with these entries behind those before
  pub taken_on : (xs : List (Entry R)) (es : List (Edit R)) (s : Archive Q S) (k : History R) (t : Archive Q S) → TookAll means keeps (Some es) s xs k t
      → (fs : List (Edit R)) × (k ≡ Some fs) × (entries_of fs ≡ entries_of es ++ xs)
  taken_on [] es s k t took = (es, took.0, sym (append-nil (entries_of es)))
  taken_on (x ∷ xs) es s k t took =
      let step = took.2 in
      let before = step.before in
      let new = edit_asked before (asked_of x) (number_in means keeps s took.1) in
      let on : TookAll means keeps (Some (new ∷ before)) took.1 xs k t = subst (λ h. TookAll means keeps h took.1 xs k t) step.after took.3 in
      let r = taken_on xs (new ∷ before) took.1 k t on in
      let was : before ≡ es = sym (same_some es before step.was) in (
        r.0,
        r.1,
        r.2 ∙ (append_assoc (entries_of before) (entry_of new ∷ []) xs
            ∙ (ap (λ y. entries_of before ++ (y ∷ xs)) (entry_asked before x (number_in means keeps s took.1)) ∙ ap (λ l. entries_of l ++ (x ∷ xs)) was)),
      )

  -- an archive without versions takes none
  none_taken : (xs : List (Entry R)) (s : Archive Q S) (k : History R) (t : Archive Q S) → TookAll means keeps None s xs k t → (k ≡ None) × (xs ≡ [])
  none_taken [] s k t took = (took.0, refl)
  none_taken (x ∷ xs) s k t took =
      let was = took.2.was in let z : ◌≡◌ {A = ℕ} 0 1 = cc in absurd (omega arith)

  module _ (coding : Coding R) where
    -- loading that ended well took all
    pub ended_well : (room place : ℕ) (h : History R) (s : Archive Q S) (bytes : List ℕ) (passed : List (List R)) (n : ℕ) → Ended means keeps coding room place h s bytes passed (Ok n) → bytes ≡ []
    ended_well room place h s bytes passed n (whole e p r) = e
    ended_well room place h s bytes passed n (stopped row f far bad p r) = absurd (ok_not_err n _ r)
    ended_well room place h s bytes passed n (refused x more f fit fits e told p r) = absurd (ok_not_err n _ r)

    written_back : (h : History R) (t : Archive Q S) (bytes : List ℕ) → Standing means keeps h t → journal_of coding h ≡ bytes → WrittenBack means keeps coding t bytes
    written_back h t bytes st same =
        record { history = h; stands = st; same = same; written = λ out after r law. subst (λ l. Writes l out r after) same (law h st) }

    -- on an archive that has begun, and on one without versions
    came_back : (s t : Archive Q S) (area area_after : List R) (bytes : List ℕ) (n : ℕ) → TookIn means keeps coding (Some []) s area bytes (Ok n) t area_after → WrittenBack means keeps coding t bytes
    came_back s t area area_after bytes n got =
        let r = taken_on got.taken [] s got.history t got.took in
        let end = ended_well _ _ got.history t got.rest got.passed n got.ended in
        let all : bytes ≡ journal_bytes coding got.taken =
        got.split ∙ (ap (λ l. head_bytes coding ++ (entries_bytes coding got.taken ++ l)) end ∙ ap (λ l. head_bytes coding ++ l) (append-nil (entries_bytes coding got.taken))) in
        written_back (Some r.0) t bytes (subst (λ h. Standing means keeps h t) r.1 got.stands) (ap (journal_bytes coding) r.2 ∙ sym all)

    head_back : (s t : Archive Q S) (area area_after : List R) (bytes : List ℕ) (n : ℕ) → TookIn means keeps coding None s area bytes (Ok n) t area_after → WrittenBack means keeps coding t bytes
    head_back s t area area_after bytes n got =
        let none = none_taken got.taken s got.history t got.took in
        let end = ended_well _ _ got.history t got.rest got.passed n got.ended in
        let all : bytes ≡ head_bytes coding = got.split ∙ ap₂ (λ es l. head_bytes coding ++ (entries_bytes coding es ++ l)) none.1 end in
        written_back None t bytes (subst (λ h. Standing means keeps h t) none.0 got.stands) (sym all)

    back_by : (empty : Bool) (s t : Archive Q S) (area area_after : List R) (bytes : List ℕ) (n : ℕ) → TookIn means keeps coding (cond empty None (Some [])) s area bytes (Ok n) t area_after → WrittenBack means keeps coding t bytes
    back_by true s t area area_after bytes n got = head_back s t area area_after bytes n got
    back_by false s t area area_after bytes n got = came_back s t area area_after bytes n got

    back_loaded : (empty : Bool) (s t : Archive Q S) (area area_after : List R) (bytes : List ℕ) (n : ℕ) → Loads means keeps coding (cond empty None (Some [])) s area bytes (Ok n) t area_after → WrittenBack means keeps coding t bytes
    back_loaded empty s t area area_after bytes n (short l r e a) = absurd (ok_not_err n _ r)
    back_loaded empty s t area area_after bytes n (no_head l other r e a) = absurd (ok_not_err n _ r)
    back_loaded empty s t area area_after bytes n (read got) = back_by empty s t area area_after bytes n got

    pub comes_back : ComesBack means keeps coding
    comes_back nodes versions store area area_after bytes n t loaded = back_loaded (length nodes == 0 || length versions == 0) _ t area area_after bytes n loaded.loads
