-- The law over runs: what any calls answer and leave, one after another, by the replay of the edits accepted so far. Assumes nothing.
use Rattle.store.specs.Keeping.{Keeping}
use Rattle.std.specs.Prelude.{◌≡◌, List, [], ◌∷◌, length, Some, Ok, Err, Result}
use Rattle.summary.specs.Summing.{Summing}
use Rattle.flexlist.specs.Edits.{Edit}
use Rattle.archive.specs.declared.fault.EditFault.{EditFault}
use Rattle.archive.specs.declared.table.Accepted.{Accepted}
use Rattle.archive.specs.Calling.{Archive, Asked, Standing, EditKept, EditTold, number_in, edit_asked, reading_told, span_told, span_leaves, summary_told}
use Rattle.archive.specs.History.{History}
use Rattle.runs.specs.Calls.{Request, edit, reading, span, summary, Outcome, edited, read, spanned, summed, Chain}

module _ {R Q S : Type 0} (means : Summing R Q) (keeps : Keeping S R) where
  -- A call in a run: it is answered as by the replay, and leaves what it should. A question leaves the archive; a span changes its own output.
  abbrev pub Step : History R → Archive Q S → Request R → Outcome R Q → Archive Q S → Type 0
  Step h s (edit asked) (edited r) t =
      EditKept means keeps s asked r t × EditTold means keeps h s asked r t
  Step h s (reading v position) (read r) t = (r ≡ reading_told h v position) × (t ≡ s)
  Step h s (span v a b out) (spanned r after) t =
      (r ≡ span_told h v a b (length out)) × (after ≡ span_leaves h v a b out) × (t ≡ s)
  Step h s (summary v a b) (summed r) t = (r ≡ summary_told means h v a b) × (t ≡ s)
  Step h s request outcome t = ⊥

  -- the edits accepted after an edit's answer: one more where it was accepted, its row under the number that the new record has
  abbrev pub one_more : List (Edit R) → Archive Q S → Asked R → Result Accepted EditFault → Archive Q S → List (Edit R)
  one_more es s asked (Ok x) t = edit_asked es asked (number_in means keeps s t) ∷ es
  one_more es s asked (Err f) t = es

  -- the history after a call; a question leaves it
  abbrev pub after : History R → Archive Q S → Request R → Outcome R Q → Archive Q S → History R
  after (Some es) s (edit asked) (edited r) t = Some (one_more es s asked r t)
  after h s request outcome t = h

  -- A run: the archive stands for its history at the start and after each call, and each call is answered by the history so far.
  abbrev pub Run : History R → Archive Q S → List (Request R) → List (Outcome R Q) → Archive Q S → Type 0
  Run h s [] [] t = Standing means keeps h s × (t ≡ s)
  Run h s (request ∷ requests) (outcome ∷ outcomes) t =
      Standing means keeps h s ×
      ((u : Archive Q S) × Step h s request outcome u ×
      Run (after h s request outcome u) u requests outcomes t)
  Run h s requests outcomes t = ⊥

  -- Any calls that do what their contracts say, on an archive that stands for a history, are a run from that history.
  abbrev pub RunsLawful : Type 0
  RunsLawful =
      (h : History R) (s t : Archive Q S) (requests : List (Request R)) (outcomes : List (Outcome R Q)) →
      Standing means keeps h s → Chain means keeps s requests outcomes t →
      Run h s requests outcomes t
