-- The worked ranks, and that a pattern's fields say whether it is a number. Assumes nothing.
use Rattle.std.proofs.Common.{refl, arith}
use lib.Ieee.{to_bits, nan_bits}
use Rattle.std.proofs.lemmas.Bool.Decides.{nat_tests}
use Rattle.reading.specs.Values.{RankValues, NanByFields}

pub rank_values : RankValues
unfolding to_bits
rank_values = record { one_is = refl; one = refl; minus_one = refl; infinity_is = refl; infinity = refl; present = refl }

pub nan_by_fields : NanByFields
unfolding nan_bits
nan_by_fields b = grind (arith, nat_tests)
