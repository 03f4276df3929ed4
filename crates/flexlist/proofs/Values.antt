-- The worked values, computed.
use Rattle.std.proofs.Common.{ℕ, List, [], ◌∷◌, length, ap, ap₂}
use Rattle.flexlist.specs.Shape.{Block, block, front, led, flexlist}
use Rattle.flexlist.specs.Nodes.{stretches, nodes, nodes_of_both, to_place, leaves}
use Rattle.flexlist.specs.Sharing.{written, missing}
use Rattle.flexlist.specs.Values.{Shaped, Writes, PathOf, PathsOf, blocks, ShapeValues}
use Rattle.flexlist.proofs.Shape.{flex_only}

shaped : (ks : List ℕ) → Shaped ks (flexlist 0 (blocks ks)) (length (stretches (flexlist 0 (blocks ks))))
shaped ks t f = (flex_only f, ap (λ x. length (stretches x)) (flex_only f))

writes : (xs ys : List Block) → Writes xs ys (written (flexlist 0 xs) (flexlist 0 ys))
writes xs ys base new f g = ap₂ written (flex_only f) (flex_only g)

path_of : (xs : List Block) (p : ℕ) → PathOf xs p (nodes (to_place (flexlist 0 xs) p))
path_of xs p t f = ap (λ x. nodes (to_place x p)) (flex_only f)

paths_of : (xs : List Block) (p q : ℕ) → PathsOf xs p q (nodes_of_both (to_place (flexlist 0 xs) p) (to_place (flexlist 0 xs) q))
paths_of xs p q t f = ap (λ x. nodes_of_both (to_place x p) (to_place x q)) (flex_only f)

pub shape_values : ShapeValues
unfolding front led flexlist written missing nodes nodes_of_both to_place leaves
shape_values =
    record {
      no_blocks = shaped [];
      levels_0 = shaped (0 ∷ []);
      levels_1 = shaped (1 ∷ []);
      levels_1_1 = shaped (1 ∷ 1 ∷ []);
      levels_0_1 = shaped (0 ∷ 1 ∷ []);
      levels_1_2 = shaped (1 ∷ 2 ∷ []);
      insert_level_2 = writes (blocks (0 ∷ [])) (block 2 2 ∷ blocks (0 ∷ []));
      insert_path = path_of (blocks (0 ∷ [])) 0;
      remove_level_3 = writes (blocks (3 ∷ [])) [];
      remove_level_0 = writes (blocks (0 ∷ [])) [];
      remove_paths = paths_of (blocks (0 ∷ [])) 0 1;
    }
