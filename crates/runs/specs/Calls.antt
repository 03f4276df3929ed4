-- A call on an archive as it is asked, what comes of it, and what its contract says of the two. Assumes nothing.
use Rattle.store.specs.Keeping.{Keeping}
use Rattle.std.specs.Prelude.{◌≡◌, ℕ, ◌-◌, List, [], ◌∷◌, length, None, Option, Result}
use Rattle.summary.specs.Summing.{Summing}
use Rattle.questions.specs.declared.found.Answer.{Answer}
use Rattle.archive.specs.declared.fault.EditFault.{EditFault}
use Rattle.archive.specs.declared.fault.ReadFault.{ReadFault}
use Rattle.archive.specs.declared.table.Accepted.{Accepted}
use Rattle.archive.specs.declared.version.Version.{Version}
use Rattle.archive.specs.Asking.{answer_by, position_refusal, stretch_refusal, output_refusal, ReadingEnds, SummaryEnds, SpanLeft}
use Rattle.archive.specs.Looking.{in_use}
use Rattle.archive.specs.Calling.{Archive, Asked, EditKept, EditLaw, ReadingTold, SpanTold, SummaryTold}

-- An edit, or one of the three questions: version and position; version, a, b and the output that it is given; version, a and b.
pub data Request (R : Type 0) : Type 0 where
  edit : Asked R → Request R
  reading : ℕ → ℕ → Request R
  span : ℕ → ℕ → ℕ → List R → Request R
  summary : ℕ → ℕ → ℕ → Request R

-- Its answer, and of a span also what the output holds then.
pub data Outcome (R Q : Type 0) : Type 0 where
  edited : Result Accepted EditFault → Outcome R Q
  read : Result (Answer R) ReadFault → Outcome R Q
  spanned : Result ℕ ReadFault → List R → Outcome R Q
  summed : Result Q ReadFault → Outcome R Q

-- the record of a version that is in use
abbrev pub record_in : {Q S : Type 0} → Archive Q S → ℕ → Option Version
record_in s v = in_use s.tables.versions s.tables.count v

module _ {R Q S : Type 0} (means : Summing R Q) (keeps : Keeping S R) where
  -- What the contract of a call says of its outcome, and of the archive before and after it. A question leaves the archive; no call has the
  -- outcome of one of another sort.
  abbrev pub Contract : Archive Q S → Request R → Outcome R Q → Archive Q S → Type 0
  Contract s (edit asked) (edited r) t =
      EditKept means keeps s asked r t × EditLaw means keeps s asked r t
  Contract s (reading v position) (read r) t =
      ReadingTold means keeps s v position r × (t ≡ s) × ReadingEnds (position_refusal position (record_in s v)) r
  Contract s (span v a b out) (spanned r after) t =
      SpanLeft a b out r after × SpanTold means keeps s v a b out r after × (t ≡ s) ×
      (r ≡ answer_by (stretch_refusal a b (record_in s v) (output_refusal a b (length out))) (b - a))
  Contract s (summary v a b) (summed r) t =
      SummaryTold means keeps s v a b r × (t ≡ s) × SummaryEnds (stretch_refusal a b (record_in s v) None) r
  Contract s request outcome t = ⊥

  -- Calls one after another, each of which does what its contract says. Each span has an output of its own: one of 12 readings into an
  -- output of 10, which is refused, and then one into another output, of 20, are a chain.
  abbrev pub Chain : Archive Q S → List (Request R) → List (Outcome R Q) → Archive Q S → Type 0
  Chain s [] [] t = t ≡ s
  Chain s (request ∷ requests) (outcome ∷ outcomes) t =
      (u : Archive Q S) × Contract s request outcome u × Chain u requests outcomes t
  Chain s requests outcomes t = ⊥
