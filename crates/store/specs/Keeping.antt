-- What a store keeps, as one thing: its list of rows, which causes refuse which row now, and how long its area is. Assumes nothing.
use Rattle.std.specs.Prelude.{ℕ, List, Ok}
use Rattle.store.specs.Interface.{Taken}
use Rattle.store.specs.declared.BlockStore.{Ghosts}
use Rattle.store.specs.declared.row.RowStore.{RowStore}
use Rattle.store.specs.RowStores.{row_rows, row_refuses, row_long, RowPut}

-- the ghost members of the trait, of stores S of readings R
abbrev pub Keeping : Type 0 → Type 0 → Type 1
Keeping S R = Ghosts S R

module _ {S R : Type 0} (keeps : Keeping S R) where
  -- A row was put, once, and taken under the number n: the store's own put did that, and so the store is what the laws of every store say.
  pub record PutOnce (s : S) (row : List R) (n : ℕ) (t : S) : Type 0 where
    pub did : keeps.puts s row (Ok n) t
    pub taken : Taken keeps.rows keeps.refuses keeps.area_long s row n t

-- what a row store keeps
abbrev pub row_keeping : {R : Type 0} → Keeping (RowStore R) R
row_keeping = record { rows = row_rows; refuses = row_refuses; area_long = row_long; puts = RowPut }
