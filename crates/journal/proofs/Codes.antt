-- The records of a journal are a code: bytes that begin with the record of an entry begin with that of no other. Assumes nothing.
use Rattle.std.proofs.Common.{◌≡◌, ℕ, ◌+◌, ◌/◌, ◌%◌, ◌^◌, ◌<◌, List, [], ◌∷◌, ◌++◌, length, sym, refl, ◌∙◌, arith}
use Rattle.std.specs.List.{AllByRecursion}
use Rattle.std.proofs.lemmas.List.{append_assoc}
use Rattle.reading.specs.Bytes.{two_bytes}
use Rattle.journal.specs.Format.{Coding, Entry, insert, change, removal, insert_record, change_record, removal_record, row_bytes, entry_bytes, entries_bytes, Fits}

pub cons_same : {A : Type 0} (a b : A) (xs ys : List A) → a ∷ xs ≡ b ∷ ys → (a ≡ b) × (xs ≡ ys)
cons_same a b xs ys p = let q : a ≡ b = cc in let r : xs ≡ ys = cc in (q, r)

pub cons_nil : {A : Type 0} (a : A) (xs : List A) → a ∷ xs ≡ [] → ⊥
cons_nil a xs p = let z : ◌≡◌ {A = ℕ} 0 1 = cc in omega arith

-- two cuts at one length
pub cut_same : {A : Type 0} (as' bs xs ys : List A) → length as' ≡ length bs → as' ++ xs ≡ bs ++ ys → (as' ≡ bs) × (xs ≡ ys)
cut_same [] [] xs ys h e = (refl, e)
cut_same [] (b ∷ bs) xs ys h e = absurd (omega arith)
cut_same (a ∷ as') [] xs ys h e = absurd (omega arith)
cut_same (a ∷ as') (b ∷ bs) xs ys h e =
    let c = cons_same a b (as' ++ xs) (bs ++ ys) e in
    let r = cut_same as' bs xs ys (omega arith) c.1 in
    let q : a ∷ as' ≡ b ∷ bs = cc in
    (q, r.1)

-- numbers in two bytes
pub two_same : (m n : ℕ) (as' bs : List ℕ) → m < 2 ^ 16 → n < 2 ^ 16 → two_bytes m ++ as' ≡ two_bytes n ++ bs → (m ≡ n) × (as' ≡ bs)
two_same m n as' bs hm hn e =
    let h = cons_same (m / 256 % 256) (n / 256 % 256) ((m % 256) ∷ as') ((n % 256) ∷ bs) e in
    let l = cons_same (m % 256) (n % 256) as' bs h.1 in
    let high = h.0 in
    let low = l.0 in
    let same : m ≡ n = omega arith in
    (same, l.1)

-- records of one kind
pub record SameInsert (b p l n c q m o : ℕ) (as' bs : List ℕ) : Type 0 where
  pub base : b ≡ c
  pub place : p ≡ q
  pub level : l ≡ m
  pub count : n ≡ o
  pub rest : as' ≡ bs

pub inserts_same : (b p l n c q m o : ℕ) (as' bs : List ℕ) → b < 2 ^ 16 → c < 2 ^ 16 → p < 2 ^ 16 → q < 2 ^ 16 → n < 2 ^ 16 → o < 2 ^ 16
    → insert_record b p l n ++ as' ≡ insert_record c q m o ++ bs → SameInsert b p l n c q m o as' bs
inserts_same b p l n c q m o as' bs hb hc hp hq hn ho e =
    let at_base = cons_same 2 2 (two_bytes b ++ (two_bytes p ++ (l ∷ (two_bytes n ++ as')))) (two_bytes c ++ (two_bytes q ++ (m ∷ (two_bytes o ++ bs)))) e in
    let at_place = two_same b c (two_bytes p ++ (l ∷ (two_bytes n ++ as'))) (two_bytes q ++ (m ∷ (two_bytes o ++ bs))) hb hc at_base.1 in
    let at_level = two_same p q (l ∷ (two_bytes n ++ as')) (m ∷ (two_bytes o ++ bs)) hp hq at_place.1 in
    let at_count = cons_same l m (two_bytes n ++ as') (two_bytes o ++ bs) at_level.1 in
    let end = two_same n o as' bs hn ho at_count.1 in
    record { base = at_place.0; place = at_level.0; level = at_count.0; count = end.0; rest = end.1 }

pub record SameChange (b p n c q o : ℕ) (as' bs : List ℕ) : Type 0 where
  pub base : b ≡ c
  pub place : p ≡ q
  pub count : n ≡ o
  pub rest : as' ≡ bs

pub changes_same : (b p n c q o : ℕ) (as' bs : List ℕ) → b < 2 ^ 16 → c < 2 ^ 16 → p < 2 ^ 16 → q < 2 ^ 16 → n < 2 ^ 16 → o < 2 ^ 16
    → change_record b p n ++ as' ≡ change_record c q o ++ bs → SameChange b p n c q o as' bs
changes_same b p n c q o as' bs hb hc hp hq hn ho e =
    let at_base = cons_same 3 3 (two_bytes b ++ (two_bytes p ++ (two_bytes n ++ as'))) (two_bytes c ++ (two_bytes q ++ (two_bytes o ++ bs))) e in
    let at_place = two_same b c (two_bytes p ++ (two_bytes n ++ as')) (two_bytes q ++ (two_bytes o ++ bs)) hb hc at_base.1 in
    let at_count = two_same p q (two_bytes n ++ as') (two_bytes o ++ bs) hp hq at_place.1 in
    let end = two_same n o as' bs hn ho at_count.1 in
    record { base = at_place.0; place = at_count.0; count = end.0; rest = end.1 }

pub removals_same : (b p c q : ℕ) (as' bs : List ℕ) → b < 2 ^ 16 → c < 2 ^ 16 → p < 2 ^ 16 → q < 2 ^ 16
    → removal_record b p ++ as' ≡ removal_record c q ++ bs → (b ≡ c) × (p ≡ q) × (as' ≡ bs)
removals_same b p c q as' bs hb hc hp hq e =
    let at_base = cons_same 4 4 (two_bytes b ++ (two_bytes p ++ as')) (two_bytes c ++ (two_bytes q ++ bs)) e in
    let at_place = two_same b c (two_bytes p ++ as') (two_bytes q ++ bs) hb hc at_base.1 in
    let end = two_same p q as' bs hp hq at_place.1 in
    (at_place.0, end.0, end.1)

pub kinds_apart : (a b : ℕ) (xs ys : List ℕ) → a < b → a ∷ xs ≡ b ∷ ys → ⊥
kinds_apart a b xs ys l e = let h = (cons_same a b xs ys e).0 in omega arith

module _ {R : Type 0} (k : Coding R) where
  -- no record is empty
  pub entry_some : (e : Entry R) (as' : List ℕ) → entry_bytes k e ++ as' ≡ [] → ⊥
  entry_some (insert b p l xs) as' h = cons_nil _ _ h
  entry_some (change b p xs) as' h = cons_nil _ _ h
  entry_some (removal b p) as' h = cons_nil _ _ h

module _ {R : Type 0} (k : Coding R) (measured : (x : R) → length (k.bytes x) ≡ k.wide) (told : (x y : R) → k.bytes x ≡ k.bytes y → x ≡ y) where
  -- rows of one length
  pub rows_same : (xs ys : List R) (as' bs : List ℕ) → length xs ≡ length ys → row_bytes k xs ++ as' ≡ row_bytes k ys ++ bs → (xs ≡ ys) × (as' ≡ bs)
  rows_same [] [] as' bs h e = (refl, e)
  rows_same [] (y ∷ ys) as' bs h e = absurd (omega arith)
  rows_same (x ∷ xs) [] as' bs h e = absurd (omega arith)
  rows_same (x ∷ xs) (y ∷ ys) as' bs h e =
      let past = (cons_same (k.code + 4) (k.code + 4) ((k.bytes x ++ row_bytes k xs) ++ as') ((k.bytes y ++ row_bytes k ys) ++ bs) e).1 in
      let one = cut_same (k.bytes x) (k.bytes y) (row_bytes k xs ++ as') (row_bytes k ys ++ bs) (measured x ∙ sym (measured y))
      (sym (append_assoc (k.bytes x) (row_bytes k xs) as') ∙ (past ∙ append_assoc (k.bytes y) (row_bytes k ys) bs)) in
      let here = told x y one.0 in
      let r = rows_same xs ys as' bs (omega arith) one.1 in
      let q : x ∷ xs ≡ y ∷ ys = cc in
      (q, r.1)

  -- entries
  pub entries_same : (e f : Entry R) (as' bs : List ℕ) → Fits e → Fits f → entry_bytes k e ++ as' ≡ entry_bytes k f ++ bs → (e ≡ f) × (as' ≡ bs)
  entries_same (insert b p l xs) (insert c q m ys) as' bs fe ff h =
      let s = inserts_same b p l (length xs) c q m (length ys) (row_bytes k xs ++ as') (row_bytes k ys ++ bs) fe.0 ff.0 fe.1 ff.1 (omega (arith, fe.3.most)) (omega (arith, ff.3.most)) h in
      let r = rows_same xs ys as' bs s.count s.rest in
      let same : insert b p l xs ≡ insert c q m ys = cc in
      (same, r.1)
  entries_same (insert b p l xs) (change c q ys) as' bs fe ff h = absurd (kinds_apart 2 3 _ _ (omega arith) h)
  entries_same (insert b p l xs) (removal c q) as' bs fe ff h = absurd (kinds_apart 2 4 _ _ (omega arith) h)
  entries_same (change b p xs) (insert c q m ys) as' bs fe ff h = absurd (kinds_apart 2 3 _ _ (omega arith) (sym h))
  entries_same (change b p xs) (change c q ys) as' bs fe ff h =
      let s = changes_same b p (length xs) c q (length ys) (row_bytes k xs ++ as') (row_bytes k ys ++ bs) fe.0 ff.0 fe.1 ff.1 (omega (arith, fe.2.most)) (omega (arith, ff.2.most)) h in
      let r = rows_same xs ys as' bs s.count s.rest in
      let same : change b p xs ≡ change c q ys = cc in
      (same, r.1)
  entries_same (change b p xs) (removal c q) as' bs fe ff h = absurd (kinds_apart 3 4 _ _ (omega arith) h)
  entries_same (removal b p) (insert c q m ys) as' bs fe ff h = absurd (kinds_apart 2 4 _ _ (omega arith) (sym h))
  entries_same (removal b p) (change c q ys) as' bs fe ff h = absurd (kinds_apart 3 4 _ _ (omega arith) (sym h))
  entries_same (removal b p) (removal c q) as' bs fe ff h =
      let s = removals_same b p c q as' bs fe.0 ff.0 fe.1 ff.1 h in
      let same : ◌≡◌ {A = Entry R} (removal b p) (removal c q) = cc in
      (same, s.2)

  -- entries whose records begin the records of others are the first of those
  pub record BegunBy (es fs : List (Entry R)) (rest : List ℕ) : Type 0 where
    pub more : List (Entry R)
    pub split : es ≡ fs ++ more
    pub left : rest ≡ entries_bytes k more
    pub fit : AllByRecursion Fits more

  pub begun_by : (fs es : List (Entry R)) (rest : List ℕ) → AllByRecursion Fits es → AllByRecursion Fits fs → entries_bytes k es ≡ entries_bytes k fs ++ rest → BegunBy es fs rest
  begun_by [] es rest fit fitted h = record { more = es; split = refl; left = sym h; fit = fit }
  begun_by (f ∷ fs) [] rest fit fitted h = absurd (entry_some k f (entries_bytes k fs ++ rest) (sym (append_assoc (entry_bytes k f) (entries_bytes k fs) rest) ∙ sym h))
  begun_by (f ∷ fs) (e ∷ es) rest fit fitted h =
      let one = entries_same e f (entries_bytes k es) (entries_bytes k fs ++ rest) fit.0 fitted.0 (h ∙ append_assoc (entry_bytes k f) (entries_bytes k fs) rest) in
      let r = begun_by fs es rest fit.1 fitted.1 one.1 in
      let first = one.0 in
      let split = r.split in
      let all : e ∷ es ≡ f ∷ (fs ++ r.more) = cc in
      record { more = r.more; split = all; left = r.left; fit = r.fit }
