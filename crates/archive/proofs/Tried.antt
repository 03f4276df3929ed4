-- What is known where nothing that is tried later refuses. Assumes nothing.
use Rattle.std.proofs.Common.{◌≡◌, ℕ, ◌≤◌, Bool, true, false, cond, Some, None, Option, refl, ltb-false}
use Rattle.std.proofs.lemmas.Bool.{or_parts}
use Rattle.archive.specs.declared.fault.EditFault.{EditFault}
use Rattle.archive.specs.Refusals.{first_of, early_fault, later_fault}
use Rattle.archive.proofs.Later.{some_none}

-- where a test chooses between a refusal and the rest, and the rest is left, the test failed
pub passed : (b : Bool) (f : EditFault) (o : Option EditFault) → cond b (Some f) o ≡ None → (b ≡ false) × (o ≡ None)
passed true f o e = absurd (some_none f e)
passed false f o e = (refl, e)

pub first_none : (o p : Option EditFault) → first_of o p ≡ None → (o ≡ None) × (p ≡ None)
first_none (Some f) p e = absurd (some_none f e)
first_none None p e = (refl, e)

pub record EarlyPassed (level len : ℕ) (crowded full : Bool) : Type 0 where
  pub flat : level ≤ 15
  pub some : 1 ≤ len
  pub most : len ≤ 1024
  pub roomy : crowded ≡ false
  pub open_table : full ≡ false

pub early_passed : (level len : ℕ) (crowded full : Bool) → early_fault level len crowded full ≡ None → EarlyPassed level len crowded full
early_passed level len crowded full e =
    let a = passed _ _ _ e in
    let b = passed _ _ _ a.1 in
    let c = passed _ _ _ b.1 in
    let d = passed _ _ _ c.1 in
    let g = or_parts _ _ b.0 in
    record { flat = ltb-false 15 level a.0; some = ltb-false len 1 g.0; most = ltb-false 1024 len g.1; roomy = c.0; open_table = d.0 }

pub record Passed (level len : ℕ) (crowded full : Bool) (free need : ℕ) : Type 0 where
  pub flat : level ≤ 15
  pub some : 1 ≤ len
  pub most : len ≤ 1024
  pub roomy : crowded ≡ false
  pub open_table : full ≡ false
  pub enough : need ≤ free

pub all_passed : (level len : ℕ) (crowded full : Bool) (free need : ℕ) → later_fault level len crowded full free need ≡ None → Passed level len crowded full free need
all_passed level len crowded full free need e =
    let n = first_none _ _ e in
    let p = early_passed level len crowded full n.0 in
    record { flat = p.flat; some = p.some; most = p.most; roomy = p.roomy; open_table = p.open_table; enough = ltb-false free need (passed _ _ _ n.1).0 }
