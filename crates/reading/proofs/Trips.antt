-- Where bytes tell readings apart, decoding and encoding undo each other. Assumes nothing.
use Rattle.std.proofs.Common.{◌≡◌, ℕ, List, Some, None, Option, refl, ap}
use Rattle.reading.specs.Kinds.{Decoded, RoundTrips}

module _ {R : Type 0} (bytes : R → List ℕ) (told : (x y : R) → bytes x ≡ bytes y → x ≡ y) where
  back : (x : R) (r : Option R) → Decoded bytes (bytes x) r → r ≡ Some x
  back x (Some y) e = ap Some (told y x e)
  back x None e = absurd (e x refl)

  pub trips : RoundTrips bytes
  trips = record { encoded_decodes = back; decoded_encodes = λ bs x e. e }
