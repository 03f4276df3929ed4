-- One accepted edit, from what its walk and its writes leave. Assumes nothing.
use Rattle.std.proofs.Common.{◌≡◌, ℕ, suc, ◌+◌, ◌-◌, ◌<◌, ◌≤◌, eqb, List, ◌∷◌, length, set, Some, sym, refl, ap, ◌∙◌, subst, inr, arith, length-set, eq-eqb}
use Rattle.std.specs.List.{AllByRecursion}
use Rattle.std.proofs.lemmas.Bool.{cond-true}
use Rattle.std.proofs.ByRecursion.{All-weaker}
use Rattle.summary.specs.Summing.{Summing}
use Rattle.flexlist.specs.Building.{Plan, keep, new_last, new_leaf, new_fork, made}
use Rattle.flexlist.specs.Nodes.{Among}
use Rattle.flexlist.proofs.Lists.{among_left, among_right}
use Rattle.flexlist.specs.Laid.{Laid, leaf, fork, lay, Part, whole, in_rest, in_below, in_after, KeptParts}
use Rattle.flexlist.specs.Shared.{PlacedNode, placed_nodes, KeepsPlacedNodes}
use Rattle.flexlist.specs.Edits.{Edit, Known, base_of, brought, list_of, content_of}
use Rattle.flexlist.specs.Replay.{written_by, next_list}
use Rattle.flexlist.proofs.Sound.{known_later, version_sound}
use Rattle.nodes.specs.declared.node.Node.{Node}
use Rattle.nodes.specs.declared.node.Block.{Block}
use Rattle.nodes.specs.Holding.{WritesFreeOnly}
use Rattle.nodes.specs.Making.{LeafOf}
use Rattle.nodes.specs.Walking.{Ready, Room, LaidOut, CountedTo}
use Rattle.nodes.proofs.Tables.{nth_set_same, nth_set_other}
use Rattle.archive.specs.declared.version.Version.{Version}
use Rattle.archive.specs.Records.{edit_record}
use Rattle.archive.specs.Stands.{Tables, WithinLimits, TablesStand, node_limit, version_limit, tables_of}
use Rattle.archive.proofs.Moved.{holds_moved}
use Rattle.archive.proofs.Next.{agree_later, stands_next}
use Rattle.archive.proofs.Standing.{ready, lead_empty, leaves_are}
use Rattle.archive.proofs.Planned.{PlanFor, laid_shape, made_written, laid_shared}
use Rattle.archive.proofs.Looks.{BaseFound}

-- the nodes of a part are nodes of the whole, at their entries
part_placed : (t base : Laid) → Part t base → (x : PlacedNode) → Among x (placed_nodes t) → Among x (placed_nodes base)
part_placed t base whole x h = h
part_placed t (leaf e a s) (in_rest p) x h = inr (part_placed t s p x h)
part_placed t (fork e m s y) (in_below p) x h = inr (among_left x (placed_nodes s) (placed_nodes y) (part_placed t s p x h))
part_placed t (fork e m s y) (in_after p) x h = inr (among_right x (placed_nodes s) (placed_nodes y) (part_placed t y p x h))

pub kept_placed : (base : Laid) (plan : Plan Laid) → KeptParts base plan → KeepsPlacedNodes base plan
kept_placed base (keep t) k = part_placed t base k
kept_placed base (new_last a) k = tt
kept_placed base (new_leaf a x) k = kept_placed base x k
kept_placed base (new_fork m x y) k = (kept_placed base x k.0, kept_placed base y k.1)

module _ {R Q : Type 0} (means : Summing R Q) (s : Tables Q) (es : List (Edit R)) (st : TablesStand means es s) (e : Edit R) (from : Version) (b : BaseFound means s es st (base_of e) from) where
  known : AllByRecursion (Known (e ∷ es)) (list_of es (base_of e))
  known = All-weaker (Known es) (Known (e ∷ es)) (known_later e es) (list_of es (base_of e)) (version_sound es (base_of e)).known

  -- what the edit brings stands under its identity
  brought_is : content_of (e ∷ es) (suc (length es)) ≡ brought e
  brought_is = cond-true (eqb (suc (length es)) (suc (length es))) _ _ (eq-eqb _ _ refl)

  pub brought_leaf : (block : Block Q) → LeafOf means (brought e) block → LeafOf means (content_of (e ∷ es) (suc (length es))) block
  brought_leaf block = subst (λ c. LeafOf means c block) (sym brought_is)

  -- what the walk asks of the base's tree, with the new block among the contents
  pub base_ready : Ready means (content_of (e ∷ es)) s.nodes s.used from.root b.tree
  base_ready =
      let w = b.stands in
      let t = b.tree in
      let moved = holds_moved means (content_of es) (content_of (e ∷ es)) s.nodes s.nodes t (agree_later means e es (base_of e) t w.shaped) (λ x k. refl) w.holds in
      subst (λ r. Ready means (content_of (e ∷ es)) s.nodes s.used r t) (sym b.told_of.root_is)
      (ready (e ∷ es) (list_of es (base_of e)) t w.shaped known w.in_limits w.few means s.nodes s.used moved w.under)

  pub base_place : (place : ℕ) → place ≤ length (list_of es (base_of e)) → CountedTo (content_of (e ∷ es)) b.tree place place
  base_place place h =
      let w = b.stands in
      let n = leaves_are (e ∷ es) (list_of es (base_of e)) b.tree w.shaped known w.in_limits w.few in
      let own = lead_empty (e ∷ es) (list_of es (base_of e)) b.tree w.shaped known w.in_limits w.few in
      (omega arith, omega arith)

  module _ (plan : Plan Laid) (planned : PlanFor es e b.tree plan) where
    pub made_is : made plan ≡ written_by es e
    made_is = let w = b.stands in made_written es e b.tree plan s.used w.shaped w.own w.under planned

    -- there is room for what the edit may need
    pub has_room : (need : ℕ) → written_by es e ≤ need → need ≤ node_limit s - s.used → Room means (content_of (e ∷ es)) s.nodes s.used plan
    has_room need h k =
        let m = made_is in
        let fit = st.nodes_fit in
        record { fits = omega arith }

    -- the tables after the edit
    pub edit_stands : (after : List (Node Q)) (at next : ℕ) (v : Version) → LaidOut means (content_of (e ∷ es)) s.used plan after at next
        → WritesFreeOnly s.nodes s.used after next → length after ≡ length s.nodes → next ≤ node_limit s → s.count < version_limit s
        → v ≡ edit_record es e (next_list es e) at → AllByRecursion WithinLimits (next_list es e) → length (next_list es e) ≤ 500
        → TablesStand means (e ∷ es) (tables_of after next (set s.versions s.count v) (s.count + 1))
    edit_stands after at next v l g size fits room is in_limits few =
        let w = b.stands in
        let m = made_is in
        let up = l.used_up in
        let n = st.counted in
        let low = b.low in
        let long : length (set s.versions s.count v) ≡ length s.versions = length-set s.versions s.count v in
        stands_next means es s e b.tree (lay plan s.used) _ st b.at (record {
          base = omega arith;
          shaped = laid_shape es e b.tree plan s.used w.shaped w.own w.under planned;
          shared = laid_shared es e b.tree plan s.used w.shaped w.own w.under planned;
          holds = l.holds;
          free_only = g;
          used_up = omega arith;
          counted = omega arith;
          nodes_fit = omega arith;
          versions_fit = omega arith;
          versions_kept = λ k h. nth_set_other s.versions s.count k v (λ i. omega arith);
          version_new = nth_set_same s.versions s.count v (omega arith) ∙ ap Some (is ∙ ap (edit_record es e (next_list es e)) (sym l.here));
          in_limits = in_limits;
          few = few;
        })
