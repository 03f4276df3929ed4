-- A table that is written round and round, looked through from the newest entry. Assumes nothing.
use Rattle.std.proofs.Common.{◌≡◌, ℕ, zero, suc, ◌+◌, ◌-◌, ◌%◌, ◌<◌, ◌≤◌, min, ◌≢◌, List, ◌∷◌, map, reverse, length, get_or, take, drop, set, Some, sym, ap, ◌∙◌, ⊎_elim, arith, length-append, length-drop, length-set, length-take}
use Rattle.std.specs.List.{slice_get}
use Rattle.std.proofs.lemmas.List.{length-reverse, get_or_append_left, get_or-append_right, get_or-reverse, get_or-take, get_or-drop, get_or-set_same, get_or-set_other, get_or-map, length-map, same_lists, take-map, take-take, take_all}
use Rattle.std.proofs.lemmas.Option.{slice_get-get_or}
use Rattle.std.proofs.lemmas.Bool.{cases_lt}
use Rattle.sharing.specs.Remembering.{backwards, remembered}
use Rattle.sharing.specs.declared.recent.Entry.{Entry}
use Rattle.sharing.specs.declared.recent.Recent.{Recent}

pub length_backwards : (es : List Entry) (n : ℕ) → length es ≡ 32 → n < 32 → length (backwards es n) ≡ 32
length_backwards es n whole h = simp (length-append, length-reverse, length-take, length-drop) (omega arith)

-- the entry of a given age
pub aged : (es : List Entry) (n age : ℕ) (d : Entry) → length es ≡ 32 → n < 32 → age < 32 → get_or (backwards es n) age d ≡ get_or es ((n + 31 - age) % 32) d
aged es n age d whole h k =
    let front : length (reverse (take n es)) ≡ n = simp (length-reverse, length-take) (omega arith) in
    let long : length (take n es) ≡ n = simp length-take (omega arith) in
    let rest : length (drop n es) ≡ 32 - n = simp length-drop (omega arith) in
    ⊎_elim
    (λ less. get_or_append_left (reverse (take n es)) (reverse (drop n es)) d age (omega arith)
    ∙ get_or-reverse (take n es) age d (omega arith)
    ∙ get_or-take n es (length (take n es) - 1 - age) d (omega arith)
    ∙ (let i : length (take n es) - 1 - age ≡ (n + 31 - age) % 32 = omega arith in ap (λ j. get_or es j d) i))
    (λ more. get_or-append_right (reverse (take n es)) (reverse (drop n es)) n age d front more
    ∙ get_or-reverse (drop n es) (age - n) d (omega arith)
    ∙ get_or-drop n es (length (drop n es) - 1 - (age - n)) d
    ∙ (let i : n + (length (drop n es) - 1 - (age - n)) ≡ (n + 31 - age) % 32 = omega arith in ap (λ j. get_or es j d) i))
    (cases_lt age n)

-- an older entry stands elsewhere
elsewhere : (n k : ℕ) → n < 32 → k < 31 → (n + 31 - k) % 32 ≢ n
elsewhere n k h l e = ⊎_elim
    (λ less. let i : (n + 31 - k) % 32 ≡ n - 1 - k = omega arith in omega arith)
    (λ more. let i : (n + 31 - k) % 32 ≡ n + 31 - k = omega arith in omega arith)
    (cases_lt k n)

module _ (es : List Entry) (n : ℕ) (x : Entry) (whole : length es ≡ 32) (h : n < 32) where
  shifted : (k : ℕ) (d : Entry) → k < 32 → get_or (backwards (set es n x) ((n + 1) % 32)) k d ≡ get_or (x ∷ take 31 (backwards es n)) k d
  shifted k d less =
      let start = aged (set es n x) ((n + 1) % 32) k d (length-set es n x ∙ whole) (omega arith) less in
      start ∙ at k less
    where
      at : (k : ℕ) → k < 32 → get_or (set es n x) (((n + 1) % 32 + 31 - k) % 32) d ≡ get_or (x ∷ take 31 (backwards es n)) k d
      at zero l = let i : ((n + 1) % 32 + 31 - 0) % 32 ≡ n = omega arith in ap (λ j. get_or (set es n x) j d) i ∙ get_or-set_same es n x d (omega arith)
      at (suc k) l =
          let i : ((n + 1) % 32 + 31 - suc k) % 32 ≡ (n + 31 - k) % 32 = omega arith in
          let apart : (n + 31 - k) % 32 ≢ n = elsewhere n k h (omega arith) in
          ap (λ j. get_or (set es n x) j d) i ∙ get_or-set_other es n _ x d apart ∙ sym (get_or-take 31 (backwards es n) k d (omega arith) ∙ aged es n k d whole h (omega arith))

  -- after one entry is written, it is the newest, and the oldest is gone
  pub turned : backwards (set es n x) ((n + 1) % 32) ≡ x ∷ take 31 (backwards es n)
  turned =
      let was = length_backwards es n whole h in
      let is = length_backwards (set es n x) ((n + 1) % 32) (length-set es n x ∙ whole) (omega arith) in
      same_lists _ _ (is ∙ sym (ap suc (length-take 31 (backwards es n) ∙ ap (min 31) was))) (λ k d l. shifted k d (omega arith))

module _ (f : Entry → ℕ) where
  -- a number that is in use
  pub read_aged : (es : List Entry) (n held age : ℕ) (d : Entry) → length es ≡ 32 → n < 32 → held ≤ 32 → age < held → slice_get (map f (take held (backwards es n))) age ≡ Some (f (get_or es ((n + 31 - age) % 32) d))
  read_aged es n held age d whole h most less =
      let was = length_backwards es n whole h in
      let long : length (take held (backwards es n)) ≡ held = length-take held (backwards es n) ∙ omega arith in
      let within : age < length (map f (take held (backwards es n))) = rw length-map (omega arith) in
      slice_get-get_or _ age (f d) within ∙ ap Some (get_or-map f _ age d (f d) (omega arith) ∙ ap f (get_or-take held (backwards es n) age d less ∙ aged es n age d whole h (omega arith)))

  -- the numbers in use after one more is remembered
  pub noted : (bs : List Entry) (x : Entry) (held m most : ℕ) → length bs ≡ 32 → held ≤ 32 → 1 ≤ most → most ≤ 32 → m ≡ min (held + 1) most → map f (take m (x ∷ take 31 bs)) ≡ take most (f x ∷ map f (take held bs))
  noted bs x held m zero long few least top e = absurd (omega arith)
  noted bs x held m (suc most) long few least top e = ⊎_elim
      (λ (less : held < most). let i : m ≡ suc held = omega arith in
      ap (λ k. map f (take k (x ∷ take 31 bs))) i
      ∙ ap (λ l. f x ∷ map f l) (take-take held 31 bs (omega arith))
      ∙ ap (λ l. f x ∷ l) (sym (take_all most (map f (take held bs)) (simp (length-map, length-take) (omega arith)))))
      (λ (more : most ≤ held). let i : m ≡ suc most = omega arith in
      ap (λ k. map f (take k (x ∷ take 31 bs))) i
      ∙ ap (λ l. f x ∷ map f l) (take-take most 31 bs (omega arith) ∙ sym (take-take most held bs more))
      ∙ ap (λ l. f x ∷ l) (sym (take-map f most (take held bs))))
      (cases_lt held most)

-- ---- the table

-- the number of a given age, where so many are in use
pub number_aged : (r : Recent) (age : ℕ) → age < r.held → slice_get (remembered r) age ≡ Some ((get_or r.entries ((r.next + 31 - age) % 32) (record { block = 0 })).block)
number_aged r age less = read_aged (λ (e : Entry). e.block) r.entries r.next r.held age (record { block = 0 }) r.whole r.turns r.most less
