-- What is written of tables that stand is the journal of their history. Assumes nothing.
use Rattle.store.specs.Keeping.{Keeping}
use Rattle.std.proofs.Common.{◌≡◌, ℕ, zero, suc, ◌+◌, ◌-◌, ◌<◌, ◌≤◌, ◌⊎◌, List, [], ◌∷◌, ◌++◌, length, take, drop, Some, None, unwrap_or, sym, refl, ap, ◌∙◌, subst, ap₂, inl, inr, append_assoc, append-nil, mod-eq_of_lt, arith}
use Rattle.std.specs.List.{slice_get, flat_map, AllByRecursion}
use Rattle.std.proofs.lemmas.Bool.{cases_lt}
use Rattle.summary.specs.Summing.{Summing}
use Rattle.flexlist.specs.Laid.{root}
use Rattle.flexlist.specs.Edits.{Item, Edit, insert, change, removal, first_changed, list_of}
use Rattle.flexlist.specs.Replay.{InPlace, next_list}
use Rattle.archive.specs.declared.version.Version.{Version}
use Rattle.archive.specs.Records.{edit_of, edits_before, edit_record, record_by}
use Rattle.archive.specs.Stands.{Tables, RowsStand}
use Rattle.archive.specs.Calling.{Archive, StandsInPlace, Standing}
use Rattle.archive.proofs.Later.{edit_later, edit_new, edit_past, before_later, before_new, list_later, list_new, same_some, some_none}
use Rattle.archive.proofs.Looks.{nth_some}
use Rattle.archive.specs.History.{History}
use Rattle.journal.specs.Format.{Coding, Entry, entry_of, entries_of, insert_record, change_record, head_bytes, row_bytes, entry_bytes, entries_bytes}
use Rattle.journal.specs.Writing.{journal_of}
use Rattle.journal.specs.Written.{row_records, version_bytes, tables_bytes}

-- ---- lists

module _ {A : Type 0} where
  take_nth : (xs : List A) (n : ℕ) (x : A) → slice_get xs n ≡ Some x → take (suc n) xs ≡ take n xs ++ (x ∷ [])
  take_nth [] n x e = absurd (some_none x (sym e))
  take_nth (y ∷ xs) zero x e = ap (λ z. z ∷ []) (same_some y x e)
  take_nth (y ∷ xs) (suc n) x e = ap (λ l. y ∷ l) (take_nth xs n x e)

  nth_rest : (xs : List A) (n : ℕ) → slice_get (drop 1 xs) n ≡ slice_get xs (suc n)
  nth_rest [] n = refl
  nth_rest (x ∷ xs) n = refl

  all_mid : (P : A → Type 0) (xs ys : List A) (x : A) → AllByRecursion P (xs ++ (x ∷ ys)) → P x
  all_mid P [] ys x a = a.0
  all_mid P (y ∷ xs) ys x a = all_mid P xs ys x a.1

  drop_first : (n : ℕ) (xs : List A) → n < length xs → (x : A) × (ys : List A) × (drop n xs ≡ x ∷ ys)
  drop_first n [] h = absurd (omega arith)
  drop_first zero (x ∷ xs) h = (x, xs, refl)
  drop_first (suc n) (x ∷ xs) h = drop_first n xs (omega arith)

joined_one : {A : Type 0} (f : A → List ℕ) (xs : List A) (x : A) → flat_map f (xs ++ (x ∷ [])) ≡ flat_map f xs ++ f x
joined_one f [] x = append-nil (f x)
joined_one f (y ∷ xs) x = ap (λ l. f y ++ l) (joined_one f xs x) ∙ sym (append_assoc (f y) (flat_map f xs) (f x))

-- ---- what an edit's version holds

-- the store has the row that an edit brings
abbrev pub RowThere : {R : Type 0} → List (List R) → Edit R → Type 0
RowThere rows (insert base place level content) = slice_get rows content.number ≡ Some content.row
RowThere rows (change base place content) = slice_get rows content.number ≡ Some content.row
RowThere rows (removal base place) = Unit {0}

module _ {R : Type 0} where
  -- the list of a version that an edit gave
  list_given : (es : List (Edit R)) (v : ℕ) (e : Edit R) → edit_of es v ≡ Some e → list_of es v ≡ next_list (edits_before es v) e
  list_given [] v e q = absurd (some_none e (sym q))
  list_given (f ∷ es) v e q = go (list_given es v e) (cases_lt v (suc (length es)))
    where
      go : (edit_of es v ≡ Some e → list_of es v ≡ next_list (edits_before es v) e) → (v < suc (length es)) ⊎ (suc (length es) ≤ v) → list_of (f ∷ es) v ≡ next_list (edits_before (f ∷ es) v) e
      go ih (inl l) =
          let h : v ≤ length es = omega arith in
          list_later f es v h ∙ ih (sym (edit_later f es v h) ∙ q) ∙ ap (λ past. next_list past e) (sym (before_later f es v h))
      go ih (inr l) =
          let m : v ≤ suc (length es) = edit_past (f ∷ es) v e q in
          let h : v ≡ suc (length es) = omega arith in
          let same : f ≡ e = same_some f e (sym (edit_new f es) ∙ ap (edit_of (f ∷ es)) (sym h) ∙ q) in
          ap (list_of (f ∷ es)) h ∙ list_new f es ∙ ap (next_list es) same ∙ ap (λ past. next_list past e) (sym (ap (edits_before (f ∷ es)) h ∙ before_new f es))

  row_done : (rows : List (List R)) (es : List (Edit R)) (e : Edit R) → InPlace es e → RowsStand rows (next_list es e) → RowThere rows e
  row_done rows es (insert base place level content) h st =
      all_mid (λ (x : Item R). slice_get rows x.content.number ≡ Some x.content.row) (take place (list_of es base)) (drop place (list_of es base)) (record { identity = suc (length es); level = level; content = content }) st
  row_done rows es (change base place content) h st =
      let first = drop_first place (list_of es base) h in
      let made : Item R = record { identity = suc (length es); level = first.0.level; content = content } in
      all_mid (λ (x : Item R). slice_get rows x.content.number ≡ Some x.content.row) (take place (list_of es base)) first.1 made
      (subst (λ l. RowsStand rows (take place (list_of es base) ++ first_changed (suc (length es)) content l)) first.2 st)
  row_done rows es (removal base place) h st = tt

-- ---- what is written of a version

module _ {R : Type 0} (k : Coding R) (small : k.code < 252) where
  row_same : (row : List R) → row_records k row ≡ row_bytes k row
  row_same [] = refl
  row_same (x ∷ row) =
      let kind : k.code + 4 < 256 = omega arith in
      ap₂ (λ b l. (b ∷ k.bytes x) ++ l) (mod-eq_of_lt kind) (row_same row)

  version_same : (rows : List (List R)) (es : List (Edit R)) (e : Edit R) (xs : List (Item R)) (root : ℕ) → RowThere rows e → version_bytes k rows (edit_record es e xs root) ≡ entry_bytes k (entry_of e)
  version_same rows es (insert base place level content) xs root there =
      ap (λ o. insert_record base place level (length (unwrap_or o [])) ++ row_records k (unwrap_or o [])) there ∙ ap (λ l. insert_record base place level (length content.row) ++ l) (row_same content.row)
  version_same rows es (change base place content) xs root there =
      ap (λ o. change_record base place (length (unwrap_or o [])) ++ row_records k (unwrap_or o [])) there ∙ ap (λ l. change_record base place (length content.row) ++ l) (row_same content.row)
  version_same rows es (removal base place) xs root there = refl

  entries_one : (xs : List (Entry R)) (x : Entry R) → entries_bytes k (xs ++ (x ∷ [])) ≡ entries_bytes k xs ++ entry_bytes k x
  entries_one [] x = append-nil (entry_bytes k x)
  entries_one (y ∷ xs) x = ap (λ l. entry_bytes k y ++ l) (entries_one xs x) ∙ sym (append_assoc (entry_bytes k y) (entries_bytes k xs) (entry_bytes k x))

  module _ (rows : List (List R)) (versions : List Version) where
    -- each edit's version has a record of which is written what the journal has of the edit
    abbrev Told : List (Edit R) → Type 0
    Told es = (v : ℕ) (e : Edit R) → edit_of es v ≡ Some e → (x : Version) × (slice_get versions v ≡ Some x) × (version_bytes k rows x ≡ entry_bytes k (entry_of e))

    told_all : (es : List (Edit R)) → Told es → flat_map (version_bytes k rows) (take (length es) (drop 1 versions)) ≡ entries_bytes k (entries_of es)
    told_all [] told = refl
    told_all (e ∷ es) told =
        let last = told (suc (length es)) e (edit_new e es) in
        let before = told_all es (λ v f q. told v f (edit_later e es v (edit_past es v f q) ∙ q)) in
        ap (flat_map (version_bytes k rows)) (take_nth (drop 1 versions) (length es) last.0 (nth_rest versions (length es) ∙ last.1))
        ∙ joined_one (version_bytes k rows) (take (length es) (drop 1 versions)) last.0
        ∙ ap₂ (λ a b. a ++ b) before last.2
        ∙ sym (entries_one (entries_of es) (entry_of e))

module _ {R Q S : Type 0} (means : Summing R Q) (keeps : Keeping S R) (k : Coding R) (small : k.code < 252) where
  stands_told : (es : List (Edit R)) (s : Tables Q) (store : S) → StandsInPlace means keeps es s store → Told k small (keeps.rows store) s.versions es
  stands_told es s store st v e q =
      let tables = st.stands.tables in
      let low = edit_past es v e q in
      let many = tables.as_many in
      let t = nth_some tables.trees v (omega arith) in
      let there = row_done (keeps.rows store) (edits_before es v) e (st.placed v e q) (subst (RowsStand (keeps.rows store)) (list_given es v e q) (st.stands.stored v)) in (
        record_by (edit_of es v) (edits_before es v) (list_of es v) (root t.0),
        (tables.each v t.0 t.1).recorded,
        ap (λ o. version_bytes k (keeps.rows store) (record_by o (edits_before es v) (list_of es v) (root t.0))) q ∙ version_same k small (keeps.rows store) (edits_before es v) e (list_of es v) (root t.0) there,
      )

  -- what is written of an archive that stands is its journal
  pub journal_written : (h : History R) (s : Archive Q S) → Standing means keeps h s → tables_bytes k (keeps.rows s.store) s.tables.versions s.tables.count ≡ journal_of k h
  journal_written None s st = ap (λ n. head_bytes k ++ flat_map (version_bytes k (keeps.rows s.store)) (take (n - 1) (drop 1 s.tables.versions))) st
  journal_written (Some es) s st =
      let n = st.stands.tables.counted in
      let less : s.tables.count - 1 ≡ length es = omega arith in
      ap (λ m. head_bytes k ++ flat_map (version_bytes k (keeps.rows s.store)) (take m (drop 1 s.tables.versions))) less
      ∙ ap (λ l. head_bytes k ++ l) (told_all k small (keeps.rows s.store) s.tables.versions es (stands_told es s.tables s.store st))
