-- What the questions answer: one reading, readings a to b − 1, their summary. Assumes nothing.
use Rattle.std.specs.Prelude.{◌≡◌, ℕ, suc, ◌-◌, ◌≤◌, Bool, cond, ◌||◌, List, ◌++◌, map, length, take, drop, Some, None, Ok, Err, IsOk, Option, Result, nat_le, nat_lt}
use Rattle.std.specs.List.{slice_get}
use Rattle.summary.specs.Summing.{Summing, summary_of}
use Rattle.flexlist.specs.Edits.{Item, Edit, list_of}
use Rattle.flexlist.specs.Replay.{path}
use Rattle.nodes.specs.declared.node.Node.{Node}
use Rattle.questions.specs.declared.found.Answer.{Answer}
use Rattle.questions.specs.Readings.{in_order, row_with}
use Rattle.archive.specs.declared.version.Version.{Version}
use Rattle.archive.specs.declared.fault.ReadFault.{ReadFault}
use Rattle.archive.specs.declared.fault.ReadFault.TheVariants as unread
use Rattle.archive.specs.Stands.{Stands, tables_of}

-- does the stretch from a to b − 1 turn round, or pass the end of n readings?
abbrev pub outside : ℕ → ℕ → ℕ → Bool
outside n a b = nat_lt b a || nat_lt n b

module _ {R : Type 0} where
  -- the rows of a list of blocks
  abbrev pub rows_in : List (Item R) → List (List R)
  rows_in xs = map (λ x. x.content.row) xs

  -- its readings, in order
  abbrev pub all_readings : List (Item R) → List R
  all_readings xs = in_order (rows_in xs)

  -- its readings a to b − 1
  abbrev pub part : List (Item R) → ℕ → ℕ → List R
  part xs a b = take (b - a) (drop a (all_readings xs))

  -- what stands at a position, and how many nodes of the list's FlexList lead to the block that has it
  abbrev pub reading_found : List (Item R) → ℕ → Option R → Result (Answer R) ReadFault
  reading_found xs position None = Err unread.Position
  reading_found xs position (Some x) = Ok (record { reading = x; path = path xs (suc (row_with (rows_in xs) position)) })

  -- the answer to the question for one reading of version v
  abbrev pub reading_answer : List (Edit R) → ℕ → ℕ → Result (Answer R) ReadFault
  reading_answer es v position =
      cond (nat_le (suc (length es)) v) (Err unread.Version)
      (reading_found (list_of es v) position (slice_get (all_readings (list_of es v)) position))

  -- the first refusal of readings a to b − 1 of version v: the version, the stretch, what is tried after them
  abbrev pub refusal_then : List (Edit R) → ℕ → ℕ → ℕ → Option ReadFault → Option ReadFault
  refusal_then es v a b after =
      cond (nat_le (suc (length es)) v) (Some unread.Version)
      (cond (outside (length (all_readings (list_of es v))) a b) (Some unread.Position) after)

  -- of a summary
  abbrev pub part_refusal : List (Edit R) → ℕ → ℕ → ℕ → Option ReadFault
  part_refusal es v a b = refusal_then es v a b None

  -- of a span into an output of n readings
  abbrev pub span_refusal : List (Edit R) → ℕ → ℕ → ℕ → ℕ → Option ReadFault
  span_refusal es v a b n = refusal_then es v a b (cond (nat_lt n (b - a)) (Some unread.Output) None)

-- the answer, by the first refusal
abbrev pub answer_by : {A : Type 0} → Option ReadFault → A → Result A ReadFault
answer_by (Some f) x = Err f
answer_by None x = Ok x

-- what an output holds, by the first refusal: what it held, or what is written
abbrev pub output_by : {A : Type 0} → Option ReadFault → A → A → A
output_by (Some f) held written = held
output_by None held written = written

module _ {R : Type 0} where
  -- a span's answer, with an output of n readings: how many readings it writes
  abbrev pub span_answer : List (Edit R) → ℕ → ℕ → ℕ → ℕ → Result ℕ ReadFault
  span_answer es v a b n = answer_by (span_refusal es v a b n) (b - a)

  -- and its output: the readings at its start, the rest as it was
  abbrev pub span_output : List (Edit R) → ℕ → ℕ → ℕ → List R → List R
  span_output es v a b out = output_by (span_refusal es v a b (length out)) out (part (list_of es v) a b ++ drop (b - a) out)

  -- what a span leaves, whatever the tables hold: a refusal leaves the output as it was; else b − a readings were written, and the rest is as it was
  abbrev pub SpanLeft : ℕ → ℕ → List R → Result ℕ ReadFault → List R → Type 0
  SpanLeft a b out (Err f) after = after ≡ out
  SpanLeft a b out (Ok n) after = (n ≡ b - a) × (n ≤ length out) × (drop n after ≡ drop n out)

  abbrev pub summary_answer : {Q : Type 0} → Summing R Q → List (Edit R) → ℕ → ℕ → ℕ → Result Q ReadFault
  summary_answer means es v a b = answer_by (part_refusal es v a b) (summary_of means (part (list_of es v) a b))

-- The refusal of a question that the version's record decides, whatever nodes there are: the version; the position or the stretch; for a span the output.
abbrev pub position_refusal : ℕ → Option Version → Option ReadFault
position_refusal position None = Some unread.Version
position_refusal position (Some from) = cond (nat_le from.readings position) (Some unread.Position) None

abbrev pub stretch_refusal : ℕ → ℕ → Option Version → Option ReadFault → Option ReadFault
stretch_refusal a b None after = Some unread.Version
stretch_refusal a b (Some from) after = cond (outside from.readings a b) (Some unread.Position) after

-- what a reading answers then: that refusal; else a reading, or that no path leads to it, which is never so where tables stand
abbrev pub ReadingEnds : {R : Type 0} → Option ReadFault → Result (Answer R) ReadFault → Type 0
ReadingEnds (Some f) r = r ≡ Err f
ReadingEnds None (Ok x) = Unit {0}
ReadingEnds None (Err f) = f ≡ unread.Version

-- and a summary: that refusal, else some summary
abbrev pub SummaryEnds : {Q : Type 0} → Option ReadFault → Result Q ReadFault → Type 0
SummaryEnds (Some f) r = r ≡ Err f
SummaryEnds None r = IsOk r

-- a span that the output's length alone can still refuse
abbrev pub output_refusal : ℕ → ℕ → ℕ → Option ReadFault
output_refusal a b n = cond (nat_lt n (b - a)) (Some unread.Output) None

-- what the questions mean on tables and a store that stand for some edits
module _ {R Q S : Type 0} (means : Summing R Q) (rows : S → List (List R)) (nodes : List (Node Q)) (versions : List Version) (count : ℕ) (store : S) where
  abbrev pub ReadingLaw : ℕ → ℕ → Result (Answer R) ReadFault → Type 0
  ReadingLaw v position r =
      (es : List (Edit R)) (used : ℕ) → Stands means rows es (tables_of nodes used versions count) store →
      r ≡ reading_answer es v position

  abbrev pub SpanLaw : ℕ → ℕ → ℕ → List R → Result ℕ ReadFault → List R → Type 0
  SpanLaw v a b out r after =
      (es : List (Edit R)) (used : ℕ) → Stands means rows es (tables_of nodes used versions count) store →
      (r ≡ span_answer es v a b (length out)) × (after ≡ span_output es v a b out)

  abbrev pub SummaryLaw : ℕ → ℕ → ℕ → Result Q ReadFault → Type 0
  SummaryLaw v a b r =
      (es : List (Edit R)) (used : ℕ) → Stands means rows es (tables_of nodes used versions count) store →
      r ≡ summary_answer means es v a b
