-- An entry that is due is found: no fault of the bytes stands where its record stands. Assumes nothing.
use Rattle.std.proofs.Common.{◌≡◌, ℕ, ◌+◌, ◌<◌, ◌≤◌, List, [], ◌∷◌, ◌++◌, length, Some, sym, refl, ap, ◌∙◌, arith}
use Rattle.std.proofs.lemmas.List.{append_assoc, length-append}
use Rattle.reading.specs.Bytes.{two_bytes}
use Rattle.archive.proofs.Later.{same_some, some_none}
use Rattle.journal.specs.declared.fault.JournalFault.{JournalFault}
use Rattle.journal.specs.declared.fault.JournalFault.TheVariants as fault
use Rattle.journal.specs.Format.{Coding, Entry, insert, change, removal, row_of, reading_bytes, row_bytes, entry_bytes, RowFits, Fits}
use Rattle.journal.specs.Faults.{body_length, Opens, NoReading, NoRecord, RowBroken, NoEdit}
use Rattle.journal.specs.Faults as faults
use Rattle.journal.proofs.Codes.{cons_same, cons_nil, cut_same, inserts_same, changes_same, kinds_apart}

-- the kind byte of an entry's record, and how long its body is
abbrev kind : {R : Type 0} → Entry R → ℕ
kind (insert base place level row) = 2
kind (change base place row) = 3
kind (removal base place) = 4

abbrev long : {R : Type 0} → Entry R → ℕ
long (insert base place level row) = 7
long (change base place row) = 6
long (removal base place) = 4

body_known : {R : Type 0} (e : Entry R) → body_length (kind e) ≡ Some (long e)
body_known (insert base place level row) = refl
body_known (change base place row) = refl
body_known (removal base place) = refl

module _ {R : Type 0} (k : Coding R) where
  -- the first byte, and that the body is there
  pub first_byte : (e : Entry R) (as' : List ℕ) (b : ℕ) (bs : List ℕ) → entry_bytes k e ++ as' ≡ b ∷ bs → (kind e ≡ b) × (long e ≤ length bs)
  first_byte (insert base place level row) as' b bs h =
      let s = cons_same 2 b (two_bytes base ++ (two_bytes place ++ (level ∷ (two_bytes (length row) ++ (row_bytes k row ++ as'))))) bs h in
      let n = ap length s.1 in
      let l : 7 ≤ length bs = omega arith in
      (s.0, l)
  first_byte (change base place row) as' b bs h =
      let s = cons_same 3 b (two_bytes base ++ (two_bytes place ++ (two_bytes (length row) ++ (row_bytes k row ++ as')))) bs h in
      let n = ap length s.1 in
      let l : 6 ≤ length bs = omega arith in
      (s.0, l)
  first_byte (removal base place) as' b bs h =
      let s = cons_same 4 b (two_bytes base ++ (two_bytes place ++ as')) bs h in
      let n = ap length s.1 in
      let l : 4 ≤ length bs = omega arith in
      (s.0, l)

  -- what an entry's record opens: its own row
  pub record Opened (e : Entry R) (as' : List ℕ) (n : ℕ) (more : List ℕ) : Type 0 where
    pub count : n ≡ length (row_of e)
    pub rest : more ≡ row_bytes k (row_of e) ++ as'
    pub fits : RowFits (row_of e)

  pub opened : (e : Entry R) (as' bytes : List ℕ) (n size : ℕ) (more : List ℕ) → Fits e → bytes ≡ entry_bytes k e ++ as' → Opens bytes n size more → Opened e as' n more
  opened (insert base place level row) as' bytes n size more fit is (faults.Opens.insert b p l hb hp hl hn h z) =
      let s = inserts_same base place level (length row) b p l n (row_bytes k row ++ as') more fit.0 hb fit.1 hp (omega (arith, fit.3.most)) hn (sym is ∙ h) in
      record { count = sym s.count; rest = sym s.rest; fits = fit.3 }
  opened (insert base place level row) as' bytes n size more fit is (faults.Opens.change b p hb hp hn h z) = absurd (kinds_apart 2 3 _ _ (omega arith) (sym is ∙ h))
  opened (change base place row) as' bytes n size more fit is (faults.Opens.insert b p l hb hp hl hn h z) = absurd (kinds_apart 2 3 _ _ (omega arith) (sym h ∙ is))
  opened (change base place row) as' bytes n size more fit is (faults.Opens.change b p hb hp hn h z) =
      let s = changes_same base place (length row) b p n (row_bytes k row ++ as') more fit.0 hb fit.1 hp (omega (arith, fit.2.most)) hn (sym is ∙ h) in
      record { count = sym s.count; rest = sym s.rest; fits = fit.2 }
  opened (removal base place) as' bytes n size more fit is (faults.Opens.insert b p l hb hp hl hn h z) = absurd (kinds_apart 2 4 _ _ (omega arith) (sym h ∙ is))
  opened (removal base place) as' bytes n size more fit is (faults.Opens.change b p hb hp hn h z) = absurd (kinds_apart 3 4 _ _ (omega arith) (sym h ∙ is))

  -- a fault in the record can only be that the row area is too short
  pub record_there : (room : ℕ) (e : Entry R) (as' bytes : List ℕ) (f : JournalFault) → Fits e → bytes ≡ entry_bytes k e ++ as' → NoRecord room bytes f → f ≡ fault.Area
  record_there room e as' bytes f fit is (faults.NoRecord.other b more h none why) =
      let s = first_byte e as' b more (sym is ∙ h) in
      absurd (some_none (long e) (sym (body_known e) ∙ (ap body_length s.0 ∙ none)))
  record_there room e as' bytes f fit is (faults.NoRecord.cut b n more h body less why) =
      let s = first_byte e as' b more (sym is ∙ h) in
      let m = same_some (long e) n (sym (body_known e) ∙ (ap body_length s.0 ∙ body)) in
      let there = s.1 in
      absurd (omega arith)
  record_there room e as' bytes f fit is (faults.NoRecord.no_row n size more opens z why) =
      let o = opened e as' bytes n size more fit is opens in
      let count = o.count in
      let some = o.fits.some in
      absurd (omega arith)
  record_there room e as' bytes f fit is (faults.NoRecord.long_row n size more opens z why) =
      let o = opened e as' bytes n size more fit is opens in
      let count = o.count in
      let most = o.fits.most in
      absurd (omega arith)
  record_there room e as' bytes f fit is (faults.NoRecord.no_room n size more opens some most less why) = why

  -- where no byte is left, no edit is due
  opens_none : (bytes : List ℕ) (n size : ℕ) (more : List ℕ) → bytes ≡ [] → Opens bytes n size more → ⊥
  opens_none bytes n size more is (faults.Opens.insert b p l hb hp hl hn h z) = cons_nil _ _ (sym h ∙ is)
  opens_none bytes n size more is (faults.Opens.change b p hb hp hn h z) = cons_nil _ _ (sym h ∙ is)

  record_none : (room : ℕ) (bytes : List ℕ) (f : JournalFault) → bytes ≡ [] → NoRecord room bytes f → ⊥
  record_none room bytes f is (faults.NoRecord.other b more h none why) = cons_nil b more (sym h ∙ is)
  record_none room bytes f is (faults.NoRecord.cut b n more h body less why) = cons_nil b more (sym h ∙ is)
  record_none room bytes f is (faults.NoRecord.no_row n size more opens z why) = opens_none bytes n size more is opens
  record_none room bytes f is (faults.NoRecord.long_row n size more opens z why) = opens_none bytes n size more is opens
  record_none room bytes f is (faults.NoRecord.no_room n size more opens some most less why) = opens_none bytes n size more is opens

  pub edit_none : (room : ℕ) (bytes : List ℕ) (passed : List R) (f : JournalFault) (far : ℕ) → bytes ≡ [] → NoEdit k room bytes passed f far → ⊥
  edit_none room bytes passed f far is (faults.NoEdit.record_bad bad p z) = record_none room bytes f is bad
  edit_none room bytes passed f far is (faults.NoEdit.row_bad bad) = opens_none bytes bad.count bad.size bad.more is bad.opens

module _ {R : Type 0} (k : Coding R) (measured : (x : R) → length (k.bytes x) ≡ k.wide) where
  -- a reading that is due is there
  pub reading_there : (x : R) (as' bytes : List ℕ) (f : JournalFault) → bytes ≡ reading_bytes k x ++ as' → NoReading k bytes f → ⊥
  reading_there x as' bytes f is (faults.NoReading.due h why) = cons_nil (k.code + 4) (k.bytes x ++ as') (sym is ∙ h)
  reading_there x as' bytes f is (faults.NoReading.other b more h apart why) = apart (sym (cons_same (k.code + 4) b (k.bytes x ++ as') more (sym is ∙ h)).0)
  reading_there x as' bytes f is (faults.NoReading.cut more h less why) =
      let s = (cons_same (k.code + 4) (k.code + 4) (k.bytes x ++ as') more (sym is ∙ h)).1 in
      let n = ap length s in
      let m = length-append (k.bytes x) as' in
      let w = measured x in
      omega arith
  reading_there x as' bytes f is (faults.NoReading.none body more h long never why) =
      let s = (cons_same (k.code + 4) (k.code + 4) (k.bytes x ++ as') (body ++ more) (sym is ∙ h)).1 in
      never x (cut_same (k.bytes x) body as' more (measured x ∙ sym long) s).0

  -- readings that passed, fewer than the row has: the next one is there
  pub next_there : (passed xs : List R) (as' tail : List ℕ) → length passed < length xs → row_bytes k xs ++ as' ≡ row_bytes k passed ++ tail → (x : R) × (l : List ℕ) × (tail ≡ reading_bytes k x ++ l)
  next_there [] [] as' tail h e = absurd (omega arith)
  next_there [] (x ∷ xs) as' tail h e = (x, row_bytes k xs ++ as', sym e ∙ append_assoc (reading_bytes k x) (row_bytes k xs) as')
  next_there (p ∷ passed) [] as' tail h e = absurd (omega arith)
  next_there (p ∷ passed) (x ∷ xs) as' tail h e =
      let past = (cons_same (k.code + 4) (k.code + 4) ((k.bytes x ++ row_bytes k xs) ++ as') ((k.bytes p ++ row_bytes k passed) ++ tail) e).1 in
      let one = cut_same (k.bytes x) (k.bytes p) (row_bytes k xs ++ as') (row_bytes k passed ++ tail) (measured x ∙ sym (measured p))
      (sym (append_assoc (k.bytes x) (row_bytes k xs) as') ∙ (past ∙ append_assoc (k.bytes p) (row_bytes k passed) tail)) in
      next_there passed xs as' tail (omega arith) one.1

  pub row_there : (room : ℕ) (e : Entry R) (as' bytes : List ℕ) (passed : List R) (f : JournalFault) (far : ℕ) → Fits e → bytes ≡ entry_bytes k e ++ as' → RowBroken k room bytes passed f far → ⊥
  row_there room e as' bytes passed f far fit is bad =
      let o = opened k e as' bytes bad.count bad.size bad.more fit is bad.opens in
      let count = o.count in
      let short = bad.short in
      let next = next_there passed (row_of e) as' bad.tail (omega arith) (sym o.rest ∙ bad.split) in
      reading_there next.0 next.1 bad.tail f next.2 bad.broken

  pub edit_there : (room : ℕ) (e : Entry R) (as' bytes : List ℕ) (passed : List R) (f : JournalFault) (far : ℕ) → Fits e → bytes ≡ entry_bytes k e ++ as' → NoEdit k room bytes passed f far → f ≡ fault.Area
  edit_there room e as' bytes passed f far fit is (faults.NoEdit.record_bad bad p z) = record_there k room e as' bytes f fit is bad
  edit_there room e as' bytes passed f far fit is (faults.NoEdit.row_bad bad) = absurd (row_there room e as' bytes passed f far fit is bad)
