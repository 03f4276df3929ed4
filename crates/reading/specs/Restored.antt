-- What bytes stand for. Assumes nothing.
use Rattle.std.specs.Prelude.{◌≡◌, ℕ, ◌^◌, ◌<◌, Bool, true, false, cond, not, ◌||◌, ◌==◌, refl}
use Rattle.std.proofs.Common.{ap, sym, ◌∙◌, mod-eq_of_lt}
use Rattle.std.proofs.lemmas.Bool.{eqb-true}
use Rattle.reading.specs.Bytes.{four_bytes}
use Rattle.reading.specs.Patterns.{not_a_number, quiet}
use Rattle.reading.specs.Restoring.{restored_single, single_from}
use Rattle.reading.specs.declared.single.Single.{Single}
use Rattle.reading.specs.Digits.{four_back}
use Rattle.reading.specs.Equal.{single_equal}

-- a pattern that is held is what it stands for
same_held : (b : ℕ) (t : Bool) → (not t || b == quiet) ≡ true → cond t quiet b ≡ b
same_held b true h = sym (eqb-true b quiet h)
same_held b false h = refl

-- a float by its pattern
pub single_of : (x : Single) (n : ℕ) → x.bits ≡ cond (not_a_number n) quiet n → n < 2 ^ 32 → x ≡ single_from n
single_of x n e h = single_equal x (single_from n) (e ∙ ap (λ m. cond (not_a_number m) quiet m) (sym (mod-eq_of_lt h)))

pub single_back : (x : Single) → restored_single (four_bytes x.bits) ≡ x
single_back x =
    let kept = same_held x.bits (not_a_number x.bits) x.one in
    ap single_from (four_back x.bits x.fits) ∙ sym (single_of x x.bits (sym kept) x.fits)
