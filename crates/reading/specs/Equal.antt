-- Two readings are one where what they hold is, since the facts beside it have one proof each; so their equality says whether they are one. Assumes nothing.
use Rattle.std.specs.Prelude.{◌≡◌, ◌==◌, ◌^◌, ◌<◌, true, Decides}
use Rattle.std.specs.Ordering.{int_eq}
use Rattle.std.specs.Cmp.{signed_Decides, unsigned_Decides}
use Rattle.std.proofs.Common.{ap}
use Rattle.std.proofs.Math.Bool.{Bool-set}
use mathlib.Core.HLevel.{is_prop→PathP}
use Rattle.std.proofs.Math.Bridge.{le_prop}
use Rattle.std.specs.Int.Signed.{mag}
use Rattle.reading.specs.Patterns.{canonical}
use Rattle.reading.specs.declared.count.Count.{Count}
use Rattle.reading.specs.declared.single.Single.{Single}

pub count_equal : (x y : Count) → x.value ≡ y.value → x ≡ y
count_equal x y e = λ i. record {
  value = e i;
  fits = is_prop→PathP (λ j. mag (e j) < 2 ^ 15) (λ j. le_prop) x.fits y.fits i;
}

pub single_equal : (x y : Single) → x.bits ≡ y.bits → x ≡ y
single_equal x y e = λ i. record {
  bits = e i;
  fits = is_prop→PathP (λ j. e j < 2 ^ 32) (λ j. le_prop) x.fits y.fits i;
  one = is_prop→PathP (λ j. canonical (e j) ≡ true) (λ j. Bool-set _ _) x.one y.one i;
}

pub count_same : (x y : Count) → Decides (int_eq x.value y.value) (x ≡ y)
count_same x y = let d = signed_Decides x.value y.value in (λ t. count_equal x y (d.0 t), λ e. d.1 (ap (λ z. z.value) e))

pub single_same : (x y : Single) → Decides (x.bits == y.bits) (x ≡ y)
single_same x y = let d = unsigned_Decides x.bits y.bits in (λ t. single_equal x y (d.0 t), λ e. d.1 (ap (λ z. z.bits) e))
