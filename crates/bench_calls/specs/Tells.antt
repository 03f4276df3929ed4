-- What a call tells a program that is not written in Rattle. Assumes nothing.
use Rattle.std.specs.Prelude.{ℕ, true, false, Ok, Err, Result}
use Rattle.std.specs.declared.alloc.AllocError.{AllocError}
use Rattle.bench_calls.specs.declared.told.Told.{Told}

abbrev pub told_of : Result ℕ AllocError → Told
told_of (Ok n) = record { done = true; number = n }
told_of (Err e) = record { done = false; number = 0 }
