-- Calls carried out from begin on. Assumes nothing.
use Rattle.store.specs.Keeping.{Keeping}
use Rattle.std.proofs.Common.{◌≡◌, ℕ, min, List, length, take, drop, sym, ap, ◌∙◌, subst}
use Rattle.summary.specs.Summing.{Summing, Lawful}
use Rattle.nodes.specs.declared.node.Node.{Node}
use Rattle.archive.specs.declared.version.Version.{Version}
use Rattle.archive.specs.declared.begin.Begun.{Begun}
use Rattle.archive.specs.Beginning.{Begin}
use Rattle.archive.proofs.Begun.{begun_stands}
use Rattle.runs.specs.declared.call.Call.{Call}
use Rattle.runs.specs.declared.reply.Reply.{Reply}
use Rattle.runs.specs.Lists.{archive_in, CarriedOn, Carried}

-- calls carried on from begin on, where the caller finds the table that was left and its counts
pub carried : {R Q S : Type 0} (means : Summing R Q) (lawful : Lawful means) (keeps : Keeping S R) (nodes begun_nodes last_nodes : List (Node Q)) (versions begun_versions last_versions : List Version) (begun : Begun)
    (store last_store : S) (readings : List R) (calls : List Call) (out last_out : List R) (replies last_replies : List (Reply R Q)) (done used count last_used last_count : ℕ) (found : List (Node Q))
    → found ≡ last_nodes → used ≡ last_used → count ≡ last_count → Begin means nodes versions begun begun_nodes begun_versions → done ≡ min (length calls) (length replies) → drop done last_replies ≡ drop done replies
    → CarriedOn means keeps readings (take done calls) (take done last_replies) (archive_in begun_nodes begun.used begun_versions begun.count store) out (archive_in last_nodes last_used last_versions last_count last_store) last_out
    → Carried means keeps nodes versions store readings calls out replies (record { done = done; used = used; count = count }) found last_versions last_store last_out last_replies
carried means lawful keeps nodes begun_nodes last_nodes versions begun_versions last_versions begun store last_store readings calls out last_out replies last_replies done used count last_used last_count found back u k begins many rest on =
    let last : archive_in last_nodes last_used last_versions last_count last_store ≡ archive_in found used last_versions count last_store =
    ap (λ n. archive_in n last_used last_versions last_count last_store) (sym back) ∙ (ap (λ x. archive_in found x last_versions last_count last_store) (sym u) ∙ ap (λ x. archive_in found used last_versions x last_store) (sym k)) in
    record {
      begun = begun;
      begun_nodes = begun_nodes;
      begun_versions = begun_versions;
      begins = begins;
      stands = begun_stands means lawful keeps nodes begun_nodes versions begun_versions begun store begins;
      done = many;
      rest = rest;
      carried = subst (λ x. CarriedOn means keeps readings (take done calls) (take done last_replies) (archive_in begun_nodes begun.used begun_versions begun.count store) out x last_out) last on;
    }
