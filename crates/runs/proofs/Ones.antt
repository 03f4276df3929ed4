-- One call of a list, by its own contract, whichever call has such an answer. Assumes nothing.
use Rattle.store.specs.Keeping.{Keeping}
use Rattle.std.proofs.Common.{ℕ, List, Result, refl}
use Rattle.summary.specs.Summing.{Summing}
use Rattle.questions.specs.declared.found.Answer.{Answer}
use Rattle.archive.specs.declared.fault.EditFault.{EditFault}
use Rattle.archive.specs.declared.fault.ReadFault.{ReadFault}
use Rattle.archive.specs.declared.table.Accepted.{Accepted}
use Rattle.archive.specs.Calling.{Archive}
use Rattle.runs.specs.declared.call.Call.{Call}
use Rattle.runs.specs.declared.call.Call.TheVariants as call
use Rattle.runs.specs.declared.reply.Reply.TheVariants.{Edited, Read, Spanned, Summed}
use Rattle.runs.specs.Calls.{edited, read, spanned, summed, Contract}
use Rattle.runs.specs.Lists.{request, SpanInto, CarriedOne}

module _ {R Q S : Type 0} (means : Summing R Q) (keeps : Keeping S R) (readings : List R) (s t : Archive Q S) (out : List R) where
  pub edited_one : (c : Call) (r : Result Accepted EditFault) → Contract means keeps s (request readings c out) (edited r) t → CarriedOne means keeps readings c (Edited r) s out t out
  edited_one c r k = record { outcome = edited r; replied = refl; contract = k; output = refl }

  pub read_one : (c : Call) (r : Result (Answer R) ReadFault) → Contract means keeps s (request readings c out) (read r) t → CarriedOne means keeps readings c (Read r) s out t out
  read_one c r k = record { outcome = read r; replied = refl; contract = k; output = refl }

  pub summed_one : (c : Call) (r : Result Q ReadFault) → Contract means keeps s (request readings c out) (summed r) t → CarriedOne means keeps readings c (Summed r) s out t out
  summed_one c r k = record { outcome = summed r; replied = refl; contract = k; output = refl }

  pub spanned_one : (v a b to : ℕ) (r : Result ℕ ReadFault) (last : List R) → SpanInto means keeps s v a b to out r last → CarriedOne means keeps readings (call.Span v a b to) (Spanned r) s out s last
  spanned_one v a b to r last i = record { outcome = spanned r i.after; replied = refl; contract = i.contract; output = i.output }

pub ruleset ones = (edited_one, read_one, spanned_one, summed_one)
