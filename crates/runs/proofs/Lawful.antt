-- Calls that do what their contracts say are a run. Assumes nothing.
use Rattle.store.specs.Keeping.{Keeping}
use Rattle.std.proofs.Common.{◌≡◌, List, [], ◌∷◌, Some, None, Ok, Err, Option, Result, sym, subst}
use Rattle.summary.specs.Summing.{Summing}
use Rattle.flexlist.specs.Edits.{Edit}
use Rattle.archive.specs.declared.fault.EditFault.{EditFault}
use Rattle.archive.specs.declared.table.Accepted.{Accepted}
use Rattle.archive.specs.Calling.{Archive, Asked, Answered, Standing, EditKept, EditAccepted, EditTold, RowRefused, asked_refusal}
use Rattle.runs.specs.Calls.{Request, edit, reading, span, summary, Outcome, edited, read, spanned, summed, Contract}
use Rattle.archive.specs.History.{History}
use Rattle.runs.specs.Runs.{Step, one_more, after, RunsLawful}

module _ {R Q S : Type 0} (means : Summing R Q) (keeps : Keeping S R) where
  told_stands : (es : List (Edit R)) (s : Archive Q S) (asked : Asked R) (t : Archive Q S) (o : Option EditFault) (r : Result Accepted EditFault) → EditKept means keeps s asked r t → Standing means keeps (Some es) s
      → Answered o r (λ x. EditAccepted means keeps es s asked x t) (RowRefused means keeps s.store asked)
      → Standing means keeps (Some (one_more means keeps es s asked r t)) t
  told_stands es s asked t o (Err f) kept st told = subst (Standing means keeps (Some es)) (sym kept.0) st
  told_stands es s asked t (Some f) (Ok x) kept st told = let w : ◌≡◌ {A = Result Accepted EditFault} (Ok x) (Err f) = told in cc
  told_stands es s asked t None (Ok x) kept st told = told.stands

  -- an edit that is refused leaves an archive without versions
  none_stands : (s : Archive Q S) (asked : Asked R) (r : Result Accepted EditFault) (t : Archive Q S) → EditKept means keeps s asked r t → Standing means keeps None s → EditTold means keeps None s asked r t → Standing means keeps None t
  none_stands s asked (Ok x) t kept st told = let w : ◌≡◌ {A = Result Accepted EditFault} (Ok x) (Err _) = told in cc
  none_stands s asked (Err f) t kept st told = subst (Standing means keeps None) (sym kept.0) st

  module _ (h : History R) (s : Archive Q S) (st : Standing means keeps h s) where
    step : (w : Request R) (o : Outcome R Q) (t : Archive Q S) → Contract means keeps s w o t → Step means keeps h s w o t
    step (edit asked) (edited r) t c = (c.0, c.1 h st)
    step (reading v position) (read r) t c = (c.0 h st, c.1)
    step (span v a b out) (spanned r rest) t c = let told = c.1 h st in (told.0, told.1, c.2)
    step (summary v a b) (summed r) t c = (c.0 h st, c.1)
    step w o t c = c

  stays : (h : History R) (s : Archive Q S) → Standing means keeps h s → (w : Request R) (o : Outcome R Q) (t : Archive Q S) → Contract means keeps s w o t → Standing means keeps (after means keeps h s w o t) t
  stays None s st (edit asked) (edited r) t c = none_stands s asked r t c.0 st (c.1 None st)
  stays (Some es) s st (edit asked) (edited r) t c = told_stands es s asked t (asked_refusal s.tables es asked) r c.0 st (c.1 (Some es) st)
  stays h s st (reading v position) (read r) t c = subst (Standing means keeps h) (sym c.1) st
  stays h s st (span v a b out) (spanned r rest) t c = subst (Standing means keeps h) (sym c.2) st
  stays h s st (summary v a b) (summed r) t c = subst (Standing means keeps h) (sym c.1) st
  stays h s st w o t c = absurd c

  pub runs_lawful : RunsLawful means keeps
  runs_lawful h s t [] [] st chain = (st, chain)
  runs_lawful h s t (w ∷ ws) (o ∷ os) st chain =
      (st, (chain.0, step h s st w o chain.0 chain.1, runs_lawful (after means keeps h s w o chain.0) chain.0 t ws os (stays h s st w o chain.0 chain.1) chain.2))
  runs_lawful h s t ws os st chain = chain
