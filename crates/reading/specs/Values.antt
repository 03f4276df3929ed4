-- What the patterns of floats come to, beside the standard's own fields, and some worked ranks. Assumes nothing.
use Rattle.std.specs.Prelude.{◌≡◌, ℕ, false, pos, neg_ℤ, to_bits}
use Rattle.std.specs.Float.{binary32, inf, fin}
use Rattle.std.specs.Float.Ieee.{nan_bits}
use Rattle.reading.specs.Kinds.{single_rank}
use Rattle.reading.specs.Patterns.{not_a_number}

-- the exponent's field is all ones, and the fraction's is not 0
abbrev pub NanByFields : Type 0
NanByFields = (b : ℕ) → not_a_number b ≡ nan_bits binary32 b

-- the pattern of 1, of −1 and of +infinity
abbrev pub one_bits : ℕ
one_bits = 0x3F80_0000

abbrev pub minus_one_bits : ℕ
minus_one_bits = 0xBF80_0000

abbrev pub infinity_bits : ℕ
infinity_bits = 0x7F80_0000

pub record RankValues : Type 0 where
  pub one_is : to_bits binary32 (fin false 1 (pos 0)) ≡ one_bits
  pub one : single_rank one_bits ≡ pos 1065353216
  pub minus_one : single_rank minus_one_bits ≡ neg_ℤ (pos 1065353216)
  pub infinity_is : to_bits binary32 (inf false) ≡ infinity_bits
  pub infinity : single_rank infinity_bits ≡ pos 2139095040
  pub present : not_a_number infinity_bits ≡ false
