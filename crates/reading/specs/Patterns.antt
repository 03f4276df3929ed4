-- The 32-bit patterns of single floats, as unsigned numbers. Assumes nothing.
use Rattle.std.specs.Prelude.{ℕ, ◌%◌, ◌^◌, Bool, not, ◌||◌, ◌==◌, nat_lt}

-- the pattern of +infinity; without the sign bit, what lies above it is not a number
abbrev pub infinity : ℕ
infinity = 0x7F80_0000

-- the one not-a-number pattern that is held and written
abbrev pub quiet : ℕ
quiet = 0x7FC0_0000

-- all exponent bits set and some fraction bit, whatever the sign
abbrev pub not_a_number : ℕ → Bool
not_a_number b = nat_lt infinity (b % 2 ^ 31)

-- a pattern that stands for a reading: a number, an infinity, or the one not-a-number
abbrev pub canonical : ℕ → Bool
canonical b = not (not_a_number b) || b == quiet
