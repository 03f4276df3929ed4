-- What is due at the start of bytes is one thing: they begin with one entry at most, with none where there is a fault, and then with one fault, at one
-- place, after the same readings. Assumes nothing.
use Rattle.std.proofs.Common.{◌≡◌, ℕ, ◌+◌, ◌<◌, ◌≤◌, true, false, cond, ◌&&◌, ◌==◌, ltb, leb, List, [], ◌∷◌, ◌++◌, length, Some, None, ◌⊎◌, inl, inr, sym, refl, ap, ◌∙◌, arith, lt-ltb, le-ltb}
use Rattle.std.proofs.lemmas.Bool.{cond-true, cond-false}
use Rattle.std.proofs.lemmas.Bool.Decides.{nat_tests}
use Rattle.std.proofs.lemmas.List.{append_assoc, length-append}
use Rattle.reading.specs.Bytes.{two_bytes}
use Rattle.archive.proofs.Later.{same_some, some_none}
use Rattle.journal.specs.declared.fault.JournalFault.{JournalFault}
use Rattle.journal.specs.declared.fault.JournalFault.TheVariants as fault
use Rattle.journal.specs.Format.{Coding, Entry, row_of, reading_bytes, row_bytes, entry_bytes, Fits}
use Rattle.journal.specs.Faults.{body_length, Opens, NoReading, NoRecord, RowBroken, NoEdit}
use Rattle.journal.specs.Faults as faults
use Rattle.journal.specs.Records.{BadRow}
use Rattle.journal.specs.Records as records
use Rattle.journal.proofs.Codes.{cons_same, cut_same, inserts_same, changes_same, kinds_apart}
use Rattle.journal.proofs.TripDue.{opened, record_there, reading_there, row_there}

-- ---- an edit's own record

-- what a record opens is one thing
record SameOpening (n size : ℕ) (more : List ℕ) (m long : ℕ) (rest : List ℕ) : Type 0 where
  count : n ≡ m
  wide : size ≡ long
  left : more ≡ rest

opens_same : (bytes : List ℕ) (n size : ℕ) (more : List ℕ) (m long : ℕ) (rest : List ℕ) → Opens bytes n size more → Opens bytes m long rest → SameOpening n size more m long rest
opens_same bytes n size more m long rest (faults.Opens.insert b p l hb hp hl hn h z) (faults.Opens.insert c q o hc hq ho hm i y) =
    let s = inserts_same b p l n c q o m more rest hb hc hp hq hn hm (sym h ∙ i) in
    record { count = s.count; wide = z ∙ sym y; left = s.rest }
opens_same bytes n size more m long rest (faults.Opens.insert b p l hb hp hl hn h z) (faults.Opens.change c q hc hq hm i y) = absurd (kinds_apart 2 3 _ _ (omega arith) (sym h ∙ i))
opens_same bytes n size more m long rest (faults.Opens.change b p hb hp hn h z) (faults.Opens.insert c q o hc hq ho hm i y) = absurd (kinds_apart 2 3 _ _ (omega arith) (sym i ∙ h))
opens_same bytes n size more m long rest (faults.Opens.change b p hb hp hn h z) (faults.Opens.change c q hc hq hm i y) =
    let s = changes_same b p n c q m more rest hb hc hp hq hn hm (sym h ∙ i) in
    record { count = s.count; wide = z ∙ sym y; left = s.rest }

-- its first byte is an edit's, and its body is there
record Body (b : ℕ) (xs : List ℕ) : Type 0 where
  long : ℕ
  known : body_length b ≡ Some long
  there : long ≤ length xs

opens_body : (bytes : List ℕ) (n size : ℕ) (more : List ℕ) (b : ℕ) (xs : List ℕ) → Opens bytes n size more → bytes ≡ b ∷ xs → Body b xs
opens_body bytes n size more b xs (faults.Opens.insert c p l hc hp hl hn h z) is =
    let s = cons_same 2 b (two_bytes c ++ (two_bytes p ++ (l ∷ (two_bytes n ++ more)))) xs (sym h ∙ is) in
    let w = ap length s.1 in
    record { long = 7; known = ap body_length (sym s.0); there = omega arith }
opens_body bytes n size more b xs (faults.Opens.change c p hc hp hn h z) is =
    let s = cons_same 3 b (two_bytes c ++ (two_bytes p ++ (two_bytes n ++ more))) xs (sym h ∙ is) in
    let w = ap length s.1 in
    record { long = 6; known = ap body_length (sym s.0); there = omega arith }

-- A fault in a record: it is no edit's, or cut; or it opens a row that is refused.
data Undue (bytes : List ℕ) (f : JournalFault) : Type 0 where
  other : (b : ℕ) (more : List ℕ) → bytes ≡ b ∷ more → body_length b ≡ None → f ≡ fault.Kind → Undue bytes f
  cut : (b n : ℕ) (more : List ℕ) → bytes ≡ b ∷ more → body_length b ≡ Some n → length more < n → f ≡ fault.Ends → Undue bytes f

record Refuses (room : ℕ) (bytes : List ℕ) (f : JournalFault) : Type 0 where
  count : ℕ
  size : ℕ
  more : List ℕ
  opens : Opens bytes count size more
  bad : BadRow count room f

either : (room : ℕ) (bytes : List ℕ) (f : JournalFault) → NoRecord room bytes f → Undue bytes f ⊎ Refuses room bytes f
either room bytes f (faults.NoRecord.other b more h none why) = inl (other b more h none why)
either room bytes f (faults.NoRecord.cut b n more h body less why) = inl (cut b n more h body less why)
either room bytes f (faults.NoRecord.no_row n size more opens z why) = inr (record { count = n; size = size; more = more; opens = opens; bad = records.BadRow.no_row z why })
either room bytes f (faults.NoRecord.long_row n size more opens z why) = inr (record { count = n; size = size; more = more; opens = opens; bad = records.BadRow.long_row z why })
either room bytes f (faults.NoRecord.no_room n size more opens some most less why) = inr (record { count = n; size = size; more = more; opens = opens; bad = records.BadRow.no_room some most less why })

-- a record that opens is an edit's, and whole
undue_opens : (bytes : List ℕ) (f : JournalFault) (n size : ℕ) (more : List ℕ) → Undue bytes f → Opens bytes n size more → ⊥
undue_opens bytes f n size more (other b xs h none why) opens =
    let w = opens_body bytes n size more b xs opens h in
    some_none w.long (sym w.known ∙ none)
undue_opens bytes f n size more (cut b m xs h body less why) opens =
    let w = opens_body bytes n size more b xs opens h in
    let same = same_some w.long m (sym w.known ∙ body) in
    let there = w.there in
    omega arith

undue_same : (bytes : List ℕ) (f g : JournalFault) → Undue bytes f → Undue bytes g → f ≡ g
undue_same bytes f g (other b xs h none why) (other c ys i none' why') = why ∙ sym why'
undue_same bytes f g (other b xs h none why) (cut c m ys i body less why') =
    absurd (some_none m (sym body ∙ (ap body_length (cons_same c b ys xs (sym i ∙ h)).0 ∙ none)))
undue_same bytes f g (cut b m xs h body less why) (other c ys i none why') =
    absurd (some_none m (sym body ∙ (ap body_length (cons_same b c xs ys (sym h ∙ i)).0 ∙ none)))
undue_same bytes f g (cut b m xs h body less why) (cut c n ys i body' less' why') = why ∙ sym why'

-- the fault of a row of n readings that is refused
abbrev row_fault : ℕ → JournalFault
row_fault n = cond (leb 1 n && leb n 1024) fault.Area fault.RowLength

bad_fault : (n room : ℕ) (f : JournalFault) → BadRow n room f → f ≡ row_fault n
bad_fault n room f (records.BadRow.no_row z why) = why ∙ ap row_fault (sym z)
bad_fault n room f (records.BadRow.long_row more why) = why ∙ sym (cond-false (leb 1 n && leb n 1024) _ _ (grind (arith, nat_tests)))
bad_fault n room f (records.BadRow.no_room some most less why) = why ∙ sym (cond-true (leb 1 n && leb n 1024) _ _ (grind (arith, nat_tests)))

bad_refused : (n room : ℕ) (f : JournalFault) → BadRow n room f → 1 ≤ n → n ≤ 1024 → n ≤ room → ⊥
bad_refused n room f (records.BadRow.no_row z why) some most roomy = omega arith
bad_refused n room f (records.BadRow.long_row more why) some most roomy = omega arith
bad_refused n room f (records.BadRow.no_room s m less why) some most roomy = omega arith

record_same : (room : ℕ) (bytes : List ℕ) (f g : JournalFault) → NoRecord room bytes f → NoRecord room bytes g → f ≡ g
record_same room bytes f g a b = go (either room bytes f a) (either room bytes g b)
  where
    go : Undue bytes f ⊎ Refuses room bytes f → Undue bytes g ⊎ Refuses room bytes g → f ≡ g
    go (inl x) (inl y) = undue_same bytes f g x y
    go (inl x) (inr y) = absurd (undue_opens bytes f y.count y.size y.more x y.opens)
    go (inr x) (inl y) = absurd (undue_opens bytes g x.count x.size x.more y x.opens)
    go (inr x) (inr y) =
        let s = opens_same bytes x.count x.size x.more y.count y.size y.more x.opens y.opens in
        bad_fault x.count room f x.bad ∙ (ap row_fault s.count ∙ sym (bad_fault y.count room g y.bad))

-- a record that opens a row that is allowed is no fault
record_good : (room : ℕ) (bytes : List ℕ) (f : JournalFault) (n size : ℕ) (more : List ℕ) → NoRecord room bytes f → Opens bytes n size more → 1 ≤ n → n ≤ 1024 → n ≤ room → ⊥
record_good room bytes f n size more bad opens some most roomy = go (either room bytes f bad)
  where
    go : Undue bytes f ⊎ Refuses room bytes f → ⊥
    go (inl x) = undue_opens bytes f n size more x opens
    go (inr x) =
        let same = (opens_same bytes x.count x.size x.more n size more x.opens opens).count in
        bad_refused x.count room f x.bad (omega arith) (omega arith) (omega arith)

-- ---- readings

module _ {R : Type 0} (k : Coding R) where
  -- the fault of bytes that begin with no reading
  abbrev reading_fault : List ℕ → JournalFault
  reading_fault [] = fault.Ends
  reading_fault (b ∷ more) = cond (b == k.code + 4) (cond (ltb (length more) k.wide) fault.Ends fault.Reading) fault.Kind

  no_reading_fault : (bytes : List ℕ) (f : JournalFault) → NoReading k bytes f → f ≡ reading_fault bytes
  no_reading_fault bytes f (faults.NoReading.due is why) = why ∙ ap reading_fault (sym is)
  no_reading_fault bytes f (faults.NoReading.other b more is apart why) =
      let no : (b == k.code + 4) ≡ false = grind (arith, nat_tests) in
      why ∙ (sym (cond-false (b == k.code + 4) (cond (ltb (length more) k.wide) fault.Ends fault.Reading) fault.Kind no) ∙ ap reading_fault (sym is))
  no_reading_fault bytes f (faults.NoReading.cut more is less why) =
      let yes : (k.code + 4 == k.code + 4) ≡ true = grind (arith, nat_tests) in
      why ∙ (sym (cond-true (k.code + 4 == k.code + 4) (cond (ltb (length more) k.wide) fault.Ends fault.Reading) fault.Kind yes ∙ cond-true (ltb (length more) k.wide) fault.Ends fault.Reading (lt-ltb (length more) k.wide less)) ∙ ap reading_fault (sym is))
  no_reading_fault bytes f (faults.NoReading.none body more is long never why) =
      let yes : (k.code + 4 == k.code + 4) ≡ true = grind (arith, nat_tests) in
      let both = length-append body more in
      let there : k.wide ≤ length (body ++ more) = omega arith in
      why ∙ (sym (cond-true (k.code + 4 == k.code + 4) (cond (ltb (length (body ++ more)) k.wide) fault.Ends fault.Reading) fault.Kind yes
      ∙ cond-false (ltb (length (body ++ more)) k.wide) fault.Ends fault.Reading (le-ltb (length (body ++ more)) k.wide there)) ∙ ap reading_fault (sym is))

  reading_same : (as' bs : List ℕ) (f g : JournalFault) → as' ≡ bs → NoReading k as' f → NoReading k bs g → f ≡ g
  reading_same as' bs f g e a b = no_reading_fault as' f a ∙ (ap reading_fault e ∙ sym (no_reading_fault bs g b))

module _ {R : Type 0} (k : Coding R) (measured : (x : R) → length (k.bytes x) ≡ k.wide) (told : (x y : R) → k.bytes x ≡ k.bytes y → x ≡ y) where
  -- the readings that passed, where none stands behind them
  passed_same : (ps qs : List R) (as' bs : List ℕ) (f g : JournalFault) → row_bytes k ps ++ as' ≡ row_bytes k qs ++ bs → NoReading k as' f → NoReading k bs g → (ps ≡ qs) × (as' ≡ bs)
  passed_same [] [] as' bs f g e a b = (refl, e)
  passed_same [] (q ∷ qs) as' bs f g e a b = absurd (reading_there k measured q (row_bytes k qs ++ bs) as' f (e ∙ append_assoc (reading_bytes k q) (row_bytes k qs) bs) a)
  passed_same (p ∷ ps) [] as' bs f g e a b = absurd (reading_there k measured p (row_bytes k ps ++ as') bs g (sym e ∙ append_assoc (reading_bytes k p) (row_bytes k ps) as') b)
  passed_same (p ∷ ps) (q ∷ qs) as' bs f g e a b =
      let past = (cons_same (k.code + 4) (k.code + 4) ((k.bytes p ++ row_bytes k ps) ++ as') ((k.bytes q ++ row_bytes k qs) ++ bs) e).1 in
      let one = cut_same (k.bytes p) (k.bytes q) (row_bytes k ps ++ as') (row_bytes k qs ++ bs) (measured p ∙ sym (measured q))
      (sym (append_assoc (k.bytes p) (row_bytes k ps) as') ∙ (past ∙ append_assoc (k.bytes q) (row_bytes k qs) bs)) in
      let here = told p q one.0 in
      let r = passed_same ps qs as' bs f g one.1 a b in
      let more = r.0 in
      let all : p ∷ ps ≡ q ∷ qs = cc in
      (all, r.1)

  -- ---- what is due

  -- where an entry stands for which there is room, there is no fault
  pub entry_due : (room : ℕ) (e : Entry R) (as' bytes : List ℕ) (passed : List R) (f : JournalFault) (far : ℕ) → Fits e → length (row_of e) ≤ room → bytes ≡ entry_bytes k e ++ as' → NoEdit k room bytes passed f far → ⊥
  entry_due room e as' bytes passed f far fit roomy is (faults.NoEdit.record_bad bad p z) = go (either room bytes f bad)
    where
      area : f ≡ fault.Area
      area = record_there k room e as' bytes f fit is bad

      go : Undue bytes f ⊎ Refuses room bytes f → ⊥
      go (inl (other b more h none why)) = let both : fault.Kind ≡ fault.Area = sym why ∙ area in let z : ◌≡◌ {A = ℕ} 0 1 = cc in omega arith
      go (inl (cut b n more h body less why)) = let both : fault.Ends ≡ fault.Area = sym why ∙ area in let z : ◌≡◌ {A = ℕ} 0 1 = cc in omega arith
      go (inr x) =
          let o = opened k e as' bytes x.count x.size x.more fit is x.opens in
          let count = o.count in
          bad_refused x.count room f x.bad (omega (arith, o.fits.some)) (omega (arith, o.fits.most)) (omega arith)
  entry_due room e as' bytes passed f far fit roomy is (faults.NoEdit.row_bad bad) = row_there k measured room e as' bytes passed f far fit is bad

  -- and a fault is one
  pub record SameFault (passed : List R) (f : JournalFault) (far : ℕ) (others : List R) (g : JournalFault) (off : ℕ) : Type 0 where
    pub row : passed ≡ others
    pub fault : f ≡ g
    pub place : far ≡ off

  pub fault_same : (room : ℕ) (bytes : List ℕ) (passed : List R) (f : JournalFault) (far : ℕ) (others : List R) (g : JournalFault) (off : ℕ)
      → NoEdit k room bytes passed f far → NoEdit k room bytes others g off → SameFault passed f far others g off
  fault_same room bytes passed f far others g off (faults.NoEdit.record_bad a p z) (faults.NoEdit.record_bad b q y) =
      record { row = p ∙ sym q; fault = record_same room bytes f g a b; place = z ∙ sym y }
  fault_same room bytes passed f far others g off (faults.NoEdit.record_bad a p z) (faults.NoEdit.row_bad b) =
      absurd (record_good room bytes f b.count b.size b.more a b.opens b.some b.most b.roomy)
  fault_same room bytes passed f far others g off (faults.NoEdit.row_bad a) (faults.NoEdit.record_bad b q y) =
      absurd (record_good room bytes g a.count a.size a.more b a.opens a.some a.most a.roomy)
  fault_same room bytes passed f far others g off (faults.NoEdit.row_bad a) (faults.NoEdit.row_bad b) =
      let s = opens_same bytes a.count a.size a.more b.count b.size b.more a.opens b.opens in
      let r = passed_same passed others a.tail b.tail f g (sym a.split ∙ (s.left ∙ b.split)) a.broken b.broken in
      let wide = s.wide in
      let long = ap (λ row. length (row_bytes k row)) r.0 in
      let here = a.place in
      let there = b.place in
      record { row = r.0; fault = reading_same k a.tail b.tail f g r.1 a.broken b.broken; place = omega arith }
