-- What the questions for readings a to b − 1 answer on tables that stand. Assumes nothing.
use Rattle.std.proofs.Common.{ap₂, ◌&&◌, leb, le-leb, ◌≡◌, ℕ, ◌-◌, ◌<◌, ◌≤◌, Bool, true, false, cond, ltb, List, ◌++◌, length, take, drop, Some, None, Ok, Err, Option, sym, ap, ◌∙◌, append-nil, arith, drop_of_length-le, ltb-false, le-ltb, lt-ltb}
use Rattle.std.proofs.lemmas.Bool.{cond-true, cond-false, or_parts}
use Rattle.summary.specs.Summing.{Summing, summary_of}
use Rattle.flexlist.specs.Edits.{Edit, list_of, content_of}
use Rattle.questions.specs.Readings.{readings_of}
use Rattle.questions.specs.Spans.{Spanned}
use Rattle.questions.specs.Sums.{Summed}
use Rattle.archive.specs.declared.version.Version.{Version}
use Rattle.archive.specs.declared.fault.ReadFault.{ReadFault}
use Rattle.archive.specs.declared.fault.ReadFault.TheVariants as unread
use Rattle.archive.specs.Stands.{Tables, Stands}
use Rattle.archive.specs.Looking.{in_use}
use Rattle.archive.specs.Asking.{outside, all_readings, part, refusal_then, part_refusal, span_refusal, answer_by, output_by, span_answer, span_output, summary_answer}
use Rattle.archive.proofs.Asks.{base, long, version_known, walked}

pub stretch_within : (n a b : ℕ) → outside n a b ≡ false → (a ≤ b) × (b ≤ n)
stretch_within n a b e = let p = or_parts (ltb b a) (ltb n b) e in (ltb-false b a p.0, ltb-false n b p.1)

-- a refusal is answered, and leaves the output as it was
pub span_refused : {R : Type 0} (es : List (Edit R)) (v a b : ℕ) (out : List R) (f : ReadFault) → span_refusal es v a b (length out) ≡ Some f
    → (Err f ≡ span_answer es v a b (length out)) × (out ≡ span_output es v a b out)
span_refused es v a b out f e =
    (ap (λ o. answer_by o (b - a)) (sym e), ap (λ o. output_by o out (part (list_of es v) a b ++ drop (b - a) out)) (sym e))

pub summary_refused : {R Q : Type 0} (means : Summing R Q) (es : List (Edit R)) (v a b : ℕ) (f : ReadFault) → part_refusal es v a b ≡ Some f → Err f ≡ summary_answer means es v a b
summary_refused means es v a b f e = ap (λ o. answer_by o (summary_of means (part (list_of es v) a b))) (sym e)

module _ {R Q S : Type 0} (means : Summing R Q) (rows : S → List (List R)) (s : Tables Q) (store : S) (es : List (Edit R)) (st : Stands means rows es s store) (v a b : ℕ) where
  module _ (from : Version) (q : in_use s.versions s.count v ≡ Some from) where
    stretch_known : (after : Option ReadFault) (turned : Bool) → outside from.readings a b ≡ turned → refusal_then es v a b after ≡ cond turned (Some unread.Position) after
    stretch_known after turned e =
        version_known means rows s store es st v from q (Some unread.Version) (cond (outside (length (all_readings (list_of es v))) a b) (Some unread.Position) after)
        ∙ ap (λ n. cond (outside n a b) (Some unread.Position) after) (sym (long means rows s store es st v from q))
        ∙ ap (λ t. cond t (Some unread.Position) after) e

    pub stretch_outside : (after : Option ReadFault) → outside from.readings a b ≡ true → refusal_then es v a b after ≡ Some unread.Position
    stretch_outside after e = stretch_known after true e

    pub stretch_inside : (after : Option ReadFault) → outside from.readings a b ≡ false → refusal_then es v a b after ≡ after
    stretch_inside after e = stretch_known after false e

    -- where nothing refuses: the part lies within the readings
    pub inside : outside from.readings a b ≡ false → (a ≤ b) × (b ≤ length (all_readings (list_of es v)))
    inside e =
        let l = long means rows s store es st v from q in
        let w = stretch_within from.readings a b e in
        let order = w.0 in
        let end = w.1 in
        (order, omega arith)

    -- the readings that the walk over the version's tree writes to an output that is just long enough
    pub span_written : (before mid : List R) → outside from.readings a b ≡ false → length before ≡ b - a → Spanned means (rows store) s.nodes from.root a b before mid → mid ≡ part (list_of es v) a b
    span_written before mid e n p =
        let w = walked means rows s store es st v from q in
        let t = (base means rows s store es st v from q).tree in
        let i = inside e in
        let order = i.0 in
        let end = i.1 in
        let same : length (readings_of (content_of es) t) ≡ length (all_readings (list_of es v)) = ap length w.readings in
        let rs = readings_of (content_of es) t in
        let fits : (leb b (length rs) && leb (b - a) (length before)) ≡ true = ap₂ (λ x y. x && y) (le-leb b (length rs) (omega arith)) (le-leb (b - a) (length before) (omega arith)) in
        p (content_of es) t w.stands w.stored w.small
        ∙ cond-true (leb b (length rs) && leb (b - a) (length before)) (take (b - a) (drop a rs) ++ drop (b - a) before) before fits
        ∙ ap (λ l. take (b - a) (drop a (readings_of (content_of es) t)) ++ l) (drop_of_length-le before {i = b - a} (omega arith))
        ∙ append-nil (take (b - a) (drop a (readings_of (content_of es) t)))
        ∙ ap (λ l. take (b - a) (drop a l)) w.readings

    -- ---- the exits of a span

    pub span_short : (n : ℕ) → outside from.readings a b ≡ false → n < b - a → span_refusal es v a b n ≡ Some unread.Output
    span_short n e h = stretch_inside (cond (ltb n (b - a)) (Some unread.Output) None) e ∙ cond-true (ltb n (b - a)) (Some unread.Output) None (lt-ltb n (b - a) h)

    span_fine : (n : ℕ) → outside from.readings a b ≡ false → b - a ≤ n → span_refusal es v a b n ≡ None
    span_fine n e h = stretch_inside (cond (ltb n (b - a)) (Some unread.Output) None) e ∙ cond-false (ltb n (b - a)) (Some unread.Output) None (le-ltb n (b - a) h)

    pub span_there : (before mid out : List R) → outside from.readings a b ≡ false → b - a ≤ length out → length before ≡ b - a → Spanned means (rows store) s.nodes from.root a b before mid
        → (Ok (b - a) ≡ span_answer es v a b (length out)) × (mid ++ drop (b - a) out ≡ span_output es v a b out)
    span_there before mid out e h n p =
        let fine = span_fine (length out) e h in (
          ap (λ o. answer_by o (b - a)) (sym fine),
          ap (λ l. l ++ drop (b - a) out) (span_written before mid e n p) ∙ ap (λ o. output_by o out (part (list_of es v) a b ++ drop (b - a) out)) (sym fine),
        )

    -- ---- the exit of a summary

    pub summary_there : (r : Q) → outside from.readings a b ≡ false → Summed means (rows store) s.nodes from.root a b r → Ok r ≡ summary_answer means es v a b
    summary_there r e p =
        let w = walked means rows s store es st v from q in
        let t = (base means rows s store es st v from q).tree in
        let i = inside e in
        let order = i.0 in
        let end = i.1 in
        let same : length (readings_of (content_of es) t) ≡ length (all_readings (list_of es v)) = ap length w.readings in
        let whole : r ≡ summary_of means (part (list_of es v) a b) =
        p (content_of es) t w.stands w.stored w.small ∙ ap (λ l. summary_of means (take (b - a) (drop a l))) w.readings in
        ap Ok whole ∙ ap (λ o. answer_by o (summary_of means (part (list_of es v) a b))) (sym (stretch_inside None e))
