-- The one number that is told of many replies: what each says, mixed in after what came before. Assumes nothing.
use Rattle.std.specs.Prelude.{ℕ, ◌+◌, ◌*◌, ◌%◌, ◌^◌, List, Some, None, Ok, Err, Option, Result, fold}
use Rattle.std.specs.Int.{w16, cast_unsigned}
use Rattle.reading.specs.declared.count.Count.{Count}
use Rattle.summary.specs.declared.peak.Highest.{Highest}
use Rattle.summary.specs.declared.peak.Peak.{Peak}
use Rattle.archive.specs.Refusals.{edit_number, read_number}
use Rattle.journal.specs.declared.fault.LoadFault.{LoadFault}
use Rattle.journal.specs.Faults.{fault_number}
use Rattle.runs.specs.declared.reply.Reply.{Reply}
use Rattle.runs.specs.declared.reply.Reply.TheVariants.{Edited, Read, Spanned, Summed}

-- a number after those before it, in 64 bits
abbrev pub mixed : ℕ → ℕ → ℕ
mixed sum n = (sum * 31 % 2 ^ 64 + n) % 2 ^ 64

-- a refusal by its number, past every number of 32 bits
abbrev pub refused : ℕ → ℕ
refused n = mixed 4294967296 n

abbrev pub count_number : Count → ℕ
count_number x = cast_unsigned w16 x.value

abbrev pub top_number : ℕ → Option (Highest Count) → ℕ
top_number length None = length
top_number length (Some top) = mixed (mixed length top.place.value) (count_number top.reading)

abbrev pub reply_number : Reply Count (Peak Count) → ℕ
reply_number (Edited (Ok x)) = mixed x.version x.written
reply_number (Edited (Err f)) = refused (edit_number f)
reply_number (Read (Ok x)) = mixed x.path (count_number x.reading)
reply_number (Read (Err f)) = refused (read_number f)
reply_number (Spanned (Ok n)) = n
reply_number (Spanned (Err f)) = refused (read_number f)
reply_number (Summed (Ok p)) = top_number p.length.value p.highest
reply_number (Summed (Err f)) = refused (read_number f)

-- how a load ended: the count of versions, or its fault
abbrev pub load_number : Result ℕ LoadFault → ℕ
load_number (Ok n) = n
load_number (Err f) = refused (fault_number f.fault)

abbrev pub replies_mixed : ℕ → List (Reply Count (Peak Count)) → ℕ
replies_mixed sum replies = fold (λ s reply. mixed s (reply_number reply)) sum replies

abbrev pub counts_mixed : ℕ → List Count → ℕ
counts_mixed sum counts = fold (λ s x. mixed s (count_number x)) sum counts
