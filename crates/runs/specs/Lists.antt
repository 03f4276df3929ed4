-- Calls carried out from a list: each is a call on the archive, its row stands in readings beside the list, and all spans go to one output,
-- each to its part. So a list is one case of the law over runs, which speaks of calls with any outputs. Assumes nothing.
use Rattle.store.specs.Keeping.{Keeping}
use Rattle.std.specs.Prelude.{◌≡◌, ℕ, ◌+◌, min, cond, List, [], ◌∷◌, ◌++◌, map, length, take, drop, Result, nat_le}
use Rattle.summary.specs.Summing.{Summing}
use Rattle.nodes.specs.declared.node.Node.{Node}
use Rattle.archive.specs.declared.version.Version.{Version}
use Rattle.archive.specs.declared.begin.Begun.{Begun}
use Rattle.archive.specs.declared.fault.ReadFault.{ReadFault}
use Rattle.archive.specs.Stands.{tables_of}
use Rattle.archive.specs.Beginning.{Begin}
use Rattle.archive.specs.Calling.{Archive, insert, append, change, removal, Standing}
use Rattle.runs.specs.declared.call.Call.{Call}
use Rattle.runs.specs.declared.call.Call.TheVariants as call
use Rattle.runs.specs.declared.ran.Ran.{Ran}
use Rattle.runs.specs.declared.reply.Reply.{Reply}
use Rattle.runs.specs.declared.reply.Reply.TheVariants.{Edited, Read, Spanned, Summed}
use Rattle.runs.specs.Calls.{Request, edit, reading, span, summary, Outcome, edited, read, spanned, summed, Contract, Chain}
use Rattle.archive.specs.History.{History, begun_history}
use Rattle.runs.specs.Runs.{Run}

module _ {R : Type 0} where
  -- the row that a call names in the readings beside it; one that does not lie in them has no reading
  abbrev pub row_named : List R → ℕ → ℕ → List R
  row_named readings from len =
      cond (nat_le (from + len) (length readings)) (take len (drop from readings)) []

  -- What a listed call asks when the output holds `out`: a span is given the output from its place on.
  abbrev pub request : List R → Call → List R → Request R
  request readings (call.Insert base place level from len) out =
      edit (insert base place level (row_named readings from len))
  request readings (call.Append base from len) out = edit (append base (row_named readings from len))
  request readings (call.Change base place from len) out =
      edit (change base place (row_named readings from len))
  request readings (call.Remove base place) out = edit (removal base place)
  request readings (call.Reading version position) out = reading version position
  request readings (call.Span version a b to) out = span version a b (drop to out)
  request readings (call.Summary version a b) out = summary version a b

module _ {R Q : Type 0} where
  -- what is replied
  abbrev pub reply : Outcome R Q → Reply R Q
  reply (edited r) = Edited r
  reply (read r) = Read r
  reply (spanned r after) = Spanned r
  reply (summed r) = Summed r

  -- What the output holds after a listed call: before a span's place what stood there, from there on what the span left.
  abbrev pub output_after : Outcome R Q → Call → List R → List R
  output_after (spanned r after) (call.Span version a b to) out = take to out ++ after
  output_after o c out = out

  -- What the calls of a list ask one after another, by their outcomes: each finds the output as the one before it left it.
  abbrev pub requests : List R → List Call → List (Outcome R Q) → List R → List (Request R)
  requests readings [] outcomes out = []
  requests readings (c ∷ calls) [] out = request readings c out ∷ requests readings calls [] out
  requests readings (c ∷ calls) (o ∷ outcomes) out =
      request readings c out ∷ requests readings calls outcomes (output_after o c out)

  -- what the output holds after the last of them
  abbrev pub last_output : List Call → List (Outcome R Q) → List R → List R
  last_output (c ∷ calls) (o ∷ outcomes) out = last_output calls outcomes (output_after o c out)
  last_output calls outcomes out = out

abbrev pub archive_in : {Q S : Type 0} → List (Node Q) → ℕ → List Version → ℕ → S → Archive Q S
archive_in nodes used versions count store =
    record { tables = tables_of nodes used versions count; store = store }

module _ {R Q S : Type 0} (means : Summing R Q) (keeps : Keeping S R) where
  -- a span into an output from a place on: what stands before the place stays
  pub record SpanInto (s : Archive Q S) (v a b to : ℕ) (out : List R)
      (r : Result ℕ ReadFault) (out_after : List R) : Type 0 where
    pub after : List R
    pub contract : Contract means keeps s (span v a b (drop to out)) (spanned r after) s
    pub output : out_after ≡ take to out ++ after

  -- a listed call carried out on an archive, where the output held `out`
  pub record CarriedOne (readings : List R) (c : Call) (r : Reply R Q)
      (s : Archive Q S) (out : List R) (t : Archive Q S) (out_after : List R) : Type 0 where
    pub outcome : Outcome R Q
    pub replied : r ≡ reply outcome
    pub contract : Contract means keeps s (request readings c out) outcome t
    pub output : out_after ≡ output_after outcome c out

  -- A list of calls carried out on an archive, where the output held `out`. The replies are those of outcomes with which the calls of the
  -- list are a chain, and so, for every history that the archive stands for, a run from there; and the output is as the last of them left it.
  pub record CarriedOn (readings : List R) (calls : List Call) (replies : List (Reply R Q))
      (s : Archive Q S) (out : List R) (t : Archive Q S) (out_after : List R) : Type 0 where
    pub outcomes : List (Outcome R Q)
    pub replied : replies ≡ map reply outcomes
    pub chain : Chain means keeps s (requests readings calls outcomes out) outcomes t
    pub law : (h : History R) → Standing means keeps h s →
        Run means keeps h s (requests readings calls outcomes out) outcomes t
    pub output : out_after ≡ last_output calls outcomes out

  -- Calls carried out from begin on: begin wrote what it should, so that the archive, with the store as it was given, stands for the history
  -- of one that has just begun; on it as many calls were carried out as there were places for replies, a run from that history; and the
  -- places past the last reply are as they were.
  pub record Carried (nodes : List (Node Q)) (versions : List Version) (store : S)
      (readings : List R) (calls : List Call) (out : List R) (replies : List (Reply R Q)) (r : Ran)
      (nodes_after : List (Node Q)) (versions_after : List Version) (store_after : S)
      (out_after : List R) (replies_after : List (Reply R Q)) : Type 0 where
    pub begun : Begun
    pub begun_nodes : List (Node Q)
    pub begun_versions : List Version
    pub begins : Begin means nodes versions begun begun_nodes begun_versions
    pub stands : Standing means keeps (begun_history nodes versions)
        (archive_in begun_nodes begun.used begun_versions begun.count store)
    pub done : r.done ≡ min (length calls) (length replies)
    pub rest : drop r.done replies_after ≡ drop r.done replies
    pub carried : CarriedOn readings (take r.done calls) (take r.done replies_after)
        (archive_in begun_nodes begun.used begun_versions begun.count store) out
        (archive_in nodes_after r.used versions_after r.count store_after) out_after
