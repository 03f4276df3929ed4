-- Parts of lists, cut and written. Assumes nothing.
use Rattle.std.proofs.Common.{◌≡◌, ℕ, ◌+◌, ◌-◌, ◌<◌, ◌≤◌, min, List, ◌++◌, length, take, drop, sym, ap, ◌∙◌, ap₂, ⊎_elim, append_assoc, append-nil, arith, length-drop, take_all, drop-drop, drop_of_length-le}
use lib.Seq.{paste, paste-zero, take-paste, drop-paste, take-append-le, drop-append-le, drop-append-add, take-append-add}
use Rattle.std.proofs.lemmas.Bool.{cases_lt}
use Rattle.questions.specs.Spans.{with_part}

module _ {A : Type 0} where
  pub part_none : (before : List A) (to : ℕ) (xs : List A) (a b : ℕ) → b ≤ a → before ≡ with_part before to xs a b
  part_none before to xs a b h =
      let none : b - a ≡ 0 = omega arith in
      paste-zero before to (drop a xs) ∙ ap (paste before to (drop a xs)) (sym none)

  -- a part beyond the list's end is one up to it
  pub part_clamped : (xs : List A) (a b from upto : ℕ) → from ≡ min a (length xs) → upto ≡ min b (length xs) → take (upto - from) (drop from xs) ≡ take (b - a) (drop a xs)
  part_clamped xs a b from upto f u =
      let within : a ≤ length xs → b ≤ length xs → take (upto - from) (drop from xs) ≡ take (b - a) (drop a xs) =
      λ g h. (let same : from ≡ a = omega arith in let end : upto ≡ b = omega arith in ap₂ (λ m n. take (n - m) (drop m xs)) same end) in
      let turned : length xs < a → b ≤ length xs → take (upto - from) (drop from xs) ≡ take (b - a) (drop a xs) =
      λ g h. (let none : upto - from ≡ 0 = omega arith in let none' : b - a ≡ 0 = omega arith in ap (λ n. take n (drop from xs)) none ∙ sym (ap (λ n. take n (drop a xs)) none')) in
      let past : length xs < b → take (upto - from) (drop from xs) ≡ take (b - a) (drop a xs) =
      λ h. (
      let start : drop from xs ≡ drop a xs =
      ⊎_elim
      (λ l. let same : from ≡ a = omega arith in ap (λ n. drop n xs) same)
      (λ g. drop_of_length-le xs {i = from} (omega arith) ∙ sym (drop_of_length-le xs {i = a} g))
      (cases_lt a (length xs)) in
      let all : length (drop from xs) ≤ upto - from = simp length-drop (omega arith) in
      let all' : length (drop a xs) ≤ b - a = simp length-drop (omega arith) in
      take_all (upto - from) (drop from xs) all ∙ start ∙ sym (take_all (b - a) (drop a xs) all')) in
      ⊎_elim (λ l. past l) (λ h. ⊎_elim (λ l. turned l h) (λ g. within g h) (cases_lt (length xs) a)) (cases_lt (length xs) b)

  -- ---- a part of two lists, one after the other, is a part of each

  module _ (xs ys : List A) (a b from upto : ℕ) (h : a ≤ b) (f : from ≡ min a (length xs)) (u : upto ≡ min b (length xs)) where
    abbrev Cut : Type 0
    Cut = take (upto - from) (drop from xs) ++ take (b - upto - (a - from)) (drop (a - from) ys) ≡ take (b - a) (drop a (xs ++ ys))

    in_second : length xs ≤ a → Cut
    in_second g =
        let none : upto - from ≡ 0 = omega arith in
        let rest : b - upto - (a - from) ≡ b - a = omega arith in
        let over : length xs + (a - from) ≡ a = omega arith in
        ap₂ (λ n m. take n (drop from xs) ++ take m (drop (a - from) ys)) none rest
        ∙ ap (take (b - a)) (sym (drop-append-add xs ys (a - from)) ∙ ap (λ n. drop n (xs ++ ys)) over)

    in_first : b ≤ length xs → Cut
    in_first g =
        let same : from ≡ a = omega arith in
        let whole : upto - from ≡ b - a = omega arith in
        let none : b - upto - (a - from) ≡ 0 = omega arith in
        let fits : b - a ≤ length (drop a xs) = simp length-drop (omega arith) in
        ap₂ (λ n m. take n (drop from xs) ++ take m (drop (a - from) ys)) whole none ∙ append-nil _ ∙ ap (λ n. take (b - a) (drop n xs)) same
        ∙ sym (ap (take (b - a)) (drop-append-le a xs ys (omega arith)) ∙ take-append-le (b - a) (drop a xs) ys fits)

    in_both : a < length xs → length xs < b → Cut
    in_both l g =
        let same : from ≡ a = omega arith in
        let start : a - from ≡ 0 = omega arith in
        let whole : length (drop a xs) ≤ upto - from = simp length-drop (omega arith) in
        let more : b - a ≡ length (drop a xs) + (b - upto - (a - from)) = simp length-drop (omega arith) in
        ap₂ (λ l n. l ++ take (b - upto - (a - from)) (drop n ys)) (ap (λ n. take (upto - from) (drop n xs)) same ∙ take_all (upto - from) (drop a xs) whole) start
        ∙ sym (ap₂ take more (drop-append-le a xs ys (omega arith)) ∙ take-append-add (drop a xs) ys (b - upto - (a - from)))

    pub cut_two : Cut
    cut_two = ⊎_elim (λ l. ⊎_elim (λ g. in_both l g) (λ k. in_first k) (cases_lt (length xs) b)) (λ g. in_second g) (cases_lt a (length xs))

  -- ---- one part written after another

  two_pasted : (d s u : List A) (k n m : ℕ) → k ≤ length d → n ≤ length s → paste (paste d k s n) (k + n) u m ≡ take k d ++ (take n s ++ take m u) ++ drop (k + n + m) d
  two_pasted d s u k n m h l =
      let far : drop (k + n + m) (paste d k s n) ≡ drop (k + n + m) d =
      sym (drop-drop m (k + n) (paste d k s n)) ∙ ap (drop m) (drop-paste d k s n h l) ∙ drop-drop m (k + n) d in
      ap₂ (λ p q. p ++ take m u ++ q) (take-paste d k s n h l) far ∙ ap (λ p. p ++ drop (k + n + m) d) (append_assoc (take k d) (take n s) (take m u))

  pub part_two : (before mid after xs ys zs : List A) (to next a b from upto : ℕ) → a ≤ b → from ≤ upto → upto ≤ length xs → upto ≤ b → from ≤ a → a - from ≤ b - upto → next ≡ to + (upto - from) → to ≤ length before
      → mid ≡ with_part before to xs from upto → after ≡ with_part mid next ys (a - from) (b - upto)
      → take (upto - from) (drop from xs) ++ take (b - upto - (a - from)) (drop (a - from) ys) ≡ take (b - a) (drop a zs) → after ≡ with_part before to zs a b
  part_two before mid after xs ys zs to next a b from upto h i j l m k g f p q e =
      let n : ℕ = upto - from in
      let o : ℕ = b - upto - (a - from) in
      let fits : n ≤ length (drop from xs) = simp length-drop (omega arith) in
      let end : to + n + o ≡ to + (b - a) = omega arith in
      q ∙ ap₂ (λ d k. paste d k (drop (a - from) ys) o) p g ∙ two_pasted before (drop from xs) (drop (a - from) ys) to n o f fits ∙ ap₂ (λ w k. take to before ++ w ++ drop k before) e end
