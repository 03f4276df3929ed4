-- The readings of a version's tree, in order. Assumes nothing.
use Rattle.std.specs.Prelude.{◌≡◌, ℕ, suc, ◌-◌, ◌^◌, ◌<◌, cond, List, [], ◌∷◌, ◌++◌, map, length, nat_lt}
use Rattle.flexlist.specs.Nodes.{identities, leaves}
use Rattle.summary.specs.Summing.{Summing}
use Rattle.nodes.specs.declared.node.Node.{Node}
use Rattle.flexlist.specs.Laid.{Laid, plain, root}
use Rattle.nodes.specs.Holding.{Content, Holds}

-- rows, one after another
abbrev pub in_order : {R : Type 0} → List (List R) → List R
in_order [] = []
in_order (row ∷ rows) = row ++ in_order rows

-- which row has a position: a row that ends before it is passed over
abbrev pub row_with : {R : Type 0} → List (List R) → ℕ → ℕ
row_with [] p = 0
row_with (row ∷ rows) p = cond (nat_lt p (length row)) 0 (suc (row_with rows (p - length row)))

-- the rows of a tree's blocks
abbrev pub rows_of : {R : Type 0} → (ℕ → Content R) → Laid → List (List R)
rows_of c t = map (λ a. (c a).row) (identities (plain t))

unfoldable pub readings_of : {R : Type 0} → (ℕ → Content R) → Laid → List R
readings_of c t = in_order (rows_of c t)

-- the table holds the tree t, whose root is the entry `at`
pub record Stands {R Q : Type 0} (s : Summing R Q) (c : ℕ → Content R) (table : List (Node Q)) (at : ℕ) (t : Laid) : Type 0 where
  pub holds : Holds s c table t
  pub here : root t ≡ at

-- there are so few leaves and readings that 32 bits count them
pub record Small {R : Type 0} (c : ℕ → Content R) (t : Laid) : Type 0 where
  pub few : leaves (plain t) < 2 ^ 32
  pub short : length (readings_of c t) < 2 ^ 32
