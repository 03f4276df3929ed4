-- The tables of an archive that has just begun. Assumes nothing.
use Rattle.std.proofs.Common.{◌≡◌, ℕ, zero, suc, ◌<◌, false, ◌||◌, eqb, List, [], ◌∷◌, length, set, Some, None, MatchBool, sym, refl, ap, ◌∙◌, subst, inl, inr, arith, length-set, ne_eqb}
use Rattle.std.specs.List.{slice_get}
use Rattle.summary.specs.Summing.{Summing}
use Rattle.flexlist.specs.Shape.{alone}
use Rattle.flexlist.specs.Nodes.{Among}
use Rattle.flexlist.specs.Laid.{Laid, last}
use Rattle.flexlist.specs.Shared.{PlacedNode, placed_nodes}
use Rattle.flexlist.specs.Edits.{lead, lists}
use Rattle.flexlist.specs.Replay.{node_count}
use Rattle.nodes.specs.declared.node.Node.{Node}
use Rattle.nodes.specs.Holding.{leaf_node, node_of}
use Rattle.nodes.proofs.Tables.{nth_set_same}
use Rattle.archive.specs.declared.version.Version.{Version}
use Rattle.archive.specs.Records.{begun_record}
use Rattle.archive.specs.Stands.{Tables, VersionStands, TablesStand, tables_of}
use Rattle.archive.specs.Beginning.{NotBegun, HasBegun, Begin}
use borrow.Author.Tests.{eqb-false}
use Rattle.std.proofs.lemmas.Bool.{or_parts}
use Rattle.archive.proofs.Later.{same_some}

some : (n : ℕ) → eqb n 0 ≡ false → 0 < n
some zero h = absurd (eqb-false 0 0 h refl)
some (suc n) h = omega arith

pub not_empty : (m n : ℕ) → (eqb m 0 || eqb n 0) ≡ false → (0 < m) × (0 < n)
not_empty m n h = (some m (or_parts (eqb m 0) (eqb n 0) h).0, some n (or_parts (eqb m 0) (eqb n 0) h).1)

module _ {R Q : Type 0} (means : Summing R Q) (nodes : List (Node Q)) (versions : List Version) (some_node : 0 < length nodes) (some_version : 0 < length versions) where
  begun : Tables Q
  begun = tables_of (set nodes 0 (leaf_node means lead None)) 1 (set versions 0 (begun_record 0)) 1

  first : VersionStands means [] begun 0 (last 0 0)
  unfolding begun lists node_of
  first = record {
    shaped = alone;
    holds = nth_set_same nodes 0 (leaf_node means lead None) some_node;
    own = λ x y h k e. only x y h k;
    under = λ x h. low x h;
    recorded = nth_set_same versions 0 (begun_record 0) some_version;
    in_limits = tt;
    few = omega arith;
  }
    where
      only : (x y : PlacedNode) → Among x (placed_nodes (last 0 0)) → Among y (placed_nodes (last 0 0)) → x ≡ y
      only x y (inl h) (inl k) = h ∙ sym k
      only x y (inl h) (inr k) = absurd k
      only x y (inr h) k = absurd h

      low : (x : PlacedNode) → Among x (placed_nodes (last 0 0)) → x.entry < 1
      low x (inl h) = let e = ap (λ z. z.entry) h in omega arith
      low x (inr h) = absurd h

  at_zero : (v : ℕ) (t : Laid) → slice_get (last 0 0 ∷ []) v ≡ Some t → VersionStands means [] begun v t
  at_zero zero t q = subst (VersionStands means [] begun 0) (same_some (last 0 0) t q) first
  at_zero (suc v) t q = let z : ◌≡◌ {A = ℕ} 0 1 = cc in absurd (omega arith)

  pub begun_stands : TablesStand means [] (tables_of (set nodes 0 (leaf_node means lead None)) 1 (set versions 0 (begun_record 0)) 1)
  unfolding begun node_count
  begun_stands =
      let a = length-set nodes 0 (leaf_node means lead None) in
      let b = length-set versions 0 (begun_record 0) in
      record {
        trees = last 0 0 ∷ [];
        as_many = refl;
        counted = refl;
        used_up = refl;
        nodes_fit = omega arith;
        versions_fit = omega arith;
        each = at_zero;
        older = λ v e q. let z : ◌≡◌ {A = ℕ} 0 1 = cc in absurd (omega arith);
        shared = λ v e t o q. let z : ◌≡◌ {A = ℕ} 0 1 = cc in absurd (omega arith);
      }

  pub begins : Begin means nodes versions (record { used = 1; count = 1 }) (set nodes 0 (leaf_node means lead None)) (set versions 0 (begun_record 0))
  begins =
      let a = ne_eqb (length nodes) 0 (λ h. omega arith) in
      let b = ne_eqb (length versions) 0 (λ h. omega arith) in
      let neither : (eqb (length nodes) 0 || eqb (length versions) 0) ≡ false = ap (λ t. t || eqb (length versions) 0) a ∙ b in
      let after = set nodes 0 (leaf_node means lead None) in
      let recorded = set versions 0 (begun_record 0) in
      subst (λ t. MatchBool t (NotBegun nodes versions (record { used = 1; count = 1 }) after recorded) (HasBegun means nodes versions (record { used = 1; count = 1 }) after recorded)) (sym neither)
      (record { used = refl; count = refl; node = refl; version = refl; stands = begun_stands })
