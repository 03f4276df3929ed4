-- Histories with the same entries have the same lists, by their rows and levels. Assumes nothing.
use Rattle.std.proofs.Common.{◌≡◌, ℕ, suc, Bool, true, false, eqb, List, [], ◌∷◌, ◌++◌, map, length, take, drop, sym, refl, ap, ◌∙◌, arith}
use Rattle.std.proofs.lemmas.List.{map-append, take-map, drop-map, length_push, same_from_push}
use Rattle.std.proofs.lemmas.Bool.{cond-true, cond-false}
use Rattle.flexlist.specs.Edits.{Content, Item, Edit, base_of, first_changed, done, list_of}
use Rattle.flexlist.specs.Edits as edits
use Rattle.flexlist.specs.Chains.{chain_of, replayed}
use Rattle.flexlist.proofs.Chains.{chains_replayed}
use Rattle.journal.specs.Format.{Entry, insert, change, removal, entry_of, entries_of}
use Rattle.journal.specs.Writing.{Shown, shown}

module _ {R : Type 0} where
  abbrev one_shown : Item R → Shown R
  one_shown x = record { level = x.level; row = x.content.row }

  abbrev entry_base : Entry R → ℕ
  entry_base (insert base place level row) = base
  entry_base (change base place row) = base
  entry_base (removal base place) = base

  abbrev first_shown : List R → List (Shown R) → List (Shown R)
  first_shown row [] = []
  first_shown row (x ∷ xs) = record { level = x.level; row = row } ∷ xs

  -- an entry done on rows and levels
  abbrev entry_done : Entry R → List (Shown R) → List (Shown R)
  entry_done (insert base place level row) xs = take place xs ++ (record { level = level; row = row } ∷ drop place xs)
  entry_done (change base place row) xs = take place xs ++ first_shown row (drop place xs)
  entry_done (removal base place) xs = take place xs ++ drop (suc place) xs

  base_is : (e : Edit R) → base_of e ≡ entry_base (entry_of e)
  base_is (edits.Edit.insert base place level content) = refl
  base_is (edits.Edit.change base place content) = refl
  base_is (edits.Edit.removal base place) = refl

  front_shown : (p : ℕ) (xs ys : List (Item R)) (zs : List (Shown R)) → shown ys ≡ zs → shown (take p xs ++ ys) ≡ take p (shown xs) ++ zs
  front_shown p xs ys zs h =
      map-append one_shown (take p xs) ys ∙ (ap (λ l. l ++ map one_shown ys) (sym (take-map one_shown p xs)) ∙ ap (λ l. take p (map one_shown xs) ++ l) h)

  changed_shown : (n : ℕ) (c : Content R) (xs : List (Item R)) → shown (first_changed n c xs) ≡ first_shown c.row (shown xs)
  changed_shown n c [] = refl
  changed_shown n c (x ∷ xs) = refl

  done_shown : (n : ℕ) (e : Edit R) (xs : List (Item R)) → shown (done n e xs) ≡ entry_done (entry_of e) (shown xs)
  done_shown n (edits.Edit.insert base place level content) xs =
      front_shown place xs (record { identity = n; level = level; content = content } ∷ drop place xs) _ (ap (λ l. record { level = level; row = content.row } ∷ l) (sym (drop-map one_shown place xs)))
  done_shown n (edits.Edit.change base place content) xs =
      front_shown place xs (first_changed n content (drop place xs)) _ (changed_shown n content (drop place xs) ∙ ap (first_shown content.row) (sym (drop-map one_shown place xs)))
  done_shown n (edits.Edit.removal base place) xs = front_shown place xs (drop (suc place) xs) _ (sym (drop-map one_shown (suc place) xs))

  pub entries_length : (es : List (Edit R)) → length (entries_of es) ≡ length es
  entries_length [] = refl
  entries_length (e ∷ es) = let h = length_push (entries_of es) (entry_of e) in let i = entries_length es in omega arith

  chains_shown : (es fs : List (Edit R)) → entries_of es ≡ entries_of fs → (v : ℕ) → shown (replayed (chain_of es v)) ≡ shown (replayed (chain_of fs v))
  chains_shown [] [] h v = refl
  chains_shown [] (f ∷ fs) h v = let i = ap length h in let j = length_push (entries_of fs) (entry_of f) in absurd (omega arith)
  chains_shown (e ∷ es) [] h v = let i = ap length h in let j = length_push (entries_of es) (entry_of e) in absurd (omega arith)
  chains_shown (e ∷ es) (f ∷ fs) h v =
      let s = same_from_push (entries_of es) (entries_of fs) (entry_of e) (entry_of f) h in
      let n : length es ≡ length fs = sym (entries_length es) ∙ (ap length s.0 ∙ entries_length fs) in
      go (chains_shown es fs s.0) s.1 n (eqb v (suc (length es))) refl
    where
      go : ((w : ℕ) → shown (replayed (chain_of es w)) ≡ shown (replayed (chain_of fs w))) → entry_of e ≡ entry_of f → length es ≡ length fs → (b : Bool) → eqb v (suc (length es)) ≡ b
          → shown (replayed (chain_of (e ∷ es) v)) ≡ shown (replayed (chain_of (f ∷ fs) v))
      go older same n true q =
          let base : base_of e ≡ base_of f = base_is e ∙ (ap entry_base same ∙ sym (base_is f)) in
          let q' : eqb v (suc (length fs)) ≡ true = ap (λ m. eqb v (suc m)) (sym n) ∙ q in
          let new : shown (done (suc (length es)) e (replayed (chain_of es (base_of e)))) ≡ shown (done (suc (length fs)) f (replayed (chain_of fs (base_of f)))) =
          done_shown (suc (length es)) e (replayed (chain_of es (base_of e)))
          ∙ (ap (entry_done (entry_of e)) (older (base_of e) ∙ ap (λ w. shown (replayed (chain_of fs w))) base)
          ∙ (ap (λ x. entry_done x (shown (replayed (chain_of fs (base_of f))))) same ∙ sym (done_shown (suc (length fs)) f (replayed (chain_of fs (base_of f)))))) in
          ap (λ c. shown (replayed c)) (cond-true (eqb v (suc (length es))) ((suc (length es), e) ∷ chain_of es (base_of e)) (chain_of es v) q)
          ∙ (new ∙ ap (λ c. shown (replayed c)) (sym (cond-true (eqb v (suc (length fs))) ((suc (length fs), f) ∷ chain_of fs (base_of f)) (chain_of fs v) q')))
      go older same n false q =
          let q' : eqb v (suc (length fs)) ≡ false = ap (λ m. eqb v (suc m)) (sym n) ∙ q in
          ap (λ c. shown (replayed c)) (cond-false (eqb v (suc (length es))) ((suc (length es), e) ∷ chain_of es (base_of e)) (chain_of es v) q)
          ∙ (older v ∙ ap (λ c. shown (replayed c)) (sym (cond-false (eqb v (suc (length fs))) ((suc (length fs), f) ∷ chain_of fs (base_of f)) (chain_of fs v) q')))

  pub lists_shown : (es fs : List (Edit R)) → entries_of es ≡ entries_of fs → (v : ℕ) → shown (list_of es v) ≡ shown (list_of fs v)
  lists_shown es fs h v = ap shown (chains_replayed es v) ∙ (chains_shown es fs h v ∙ ap shown (sym (chains_replayed fs v)))
