-- Why a store refuses a row: the number of each cause, and the three that the stores here try, in their order. Assumes nothing.
use Rattle.std.specs.Prelude.{ℕ, cond, ◌||◌, Some, None, Option, nat_le, nat_lt}
use Rattle.store.specs.declared.cause.Cause.{Cause}
use Rattle.store.specs.declared.cause.Cause.TheVariants.{RowLength, BlocksFull, AreaFull, Other}

-- the number by which a refusal is told
abbrev pub cause_number : Cause → ℕ
cause_number RowLength = 1
cause_number BlocksFull = 2
cause_number AreaFull = 3
cause_number (Other n) = n

-- the first that holds: the row's length is outside 1 to 1,024; 1,000 blocks are held; less is free than the row needs
abbrev pub refusal : ℕ → ℕ → ℕ → ℕ → Option Cause
refusal len held free need = cond (nat_lt len 1 || nat_lt 1024 len) (Some RowLength) (cond (nat_le 1000 held) (Some BlocksFull) (cond (nat_lt free need) (Some AreaFull) None))
