-- The reading that bytes stand for: of an encoded reading, that reading; of any other bytes, some reading. Assumes nothing.
use Rattle.std.specs.Prelude.{◌≡◌, ℕ, ◌+◌, ◌*◌, ◌%◌, ◌^◌, ◌<◌, Bool, true, false, cond, not, ◌||◌, List, [], ◌∷◌, pos, ◌==◌, refl}
use Rattle.std.proofs.Common.{ap, mod-lt, lit<}
use borrow.Author.Gap.{read_sfits}
use Rattle.std.specs.Int.{w16}
use Rattle.reading.specs.Kinds.{count_said}
use Rattle.reading.specs.Patterns.{not_a_number, quiet, canonical}
use Rattle.reading.specs.declared.count.Count.{Count}
use Rattle.reading.specs.declared.single.Single.{Single}

-- a count by its two bytes, and 0 for any other number of bytes
abbrev pub restored_count : List ℕ → Count
restored_count (a ∷ b ∷ []) = record { value = count_said a b; fits = (read_sfits w16 (a * 256 + b)).sfits }
restored_count [] = record { value = pos 0; fits = lit< tt }
restored_count (a ∷ []) = record { value = pos 0; fits = lit< tt }
restored_count (a ∷ b ∷ c ∷ l) = record { value = pos 0; fits = lit< tt }

-- a pattern that is held, and that it is one
pub record Held (n : ℕ) : Type 0 where
  pub small : n < 2 ^ 32
  pub held : canonical n ≡ true

pub held_as : (n : ℕ) (t : Bool) → n < 2 ^ 32 → not_a_number n ≡ t → Held (cond t quiet n)
held_as n true h e = record { small = lit< tt; held = refl }
held_as n false h e = record { small = h; held = ap (λ b. not b || n == quiet) e }

-- the reading of any pattern of 32 bits
abbrev pub single_from : ℕ → Single
single_from n =
    let h = held_as (n % 2 ^ 32) (not_a_number (n % 2 ^ 32)) (mod-lt n (lit< tt)) refl in
    record { bits = cond (not_a_number (n % 2 ^ 32)) quiet (n % 2 ^ 32); fits = h.small; one = h.held }

-- a float by its four bytes, and +0 for any other number of bytes
abbrev pub restored_single : List ℕ → Single
restored_single (a ∷ b ∷ c ∷ d ∷ []) = single_from (a * 16777216 + b * 65536 + c * 256 + d)
restored_single [] = single_from 0
restored_single (a ∷ []) = single_from 0
restored_single (a ∷ b ∷ []) = single_from 0
restored_single (a ∷ b ∷ c ∷ []) = single_from 0
restored_single (a ∷ b ∷ c ∷ d ∷ e ∷ l) = single_from 0
