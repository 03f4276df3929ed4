-- What the directories of the two stores say of their rows, over the stores alone. Assumes nothing.
use Rattle.std.proofs.Common.{◌≡◌, ℕ, ◌+◌, ◌-◌, Some, None, Option, List, length, sym, ap, ◌∙◌, arith}
use Rattle.std.specs.List.{between, slice_get}
use Rattle.std.specs.Option.{option_map, option_and_then}
use Rattle.std.proofs.lemmas.List.Edits.{length-between}
use Rattle.store.specs.Directories.{spans, span_len, span_place, span_part}
use Rattle.store.specs.FlashStores.{flash_area, flash_rows, cell, cells}
use Rattle.store.specs.Interface.{size, reading_at, copied}
use Rattle.store.specs.RowStores.{row_area, row_rows}
use Rattle.store.specs.declared.flash.FlashStore.{FlashStore}
use Rattle.store.specs.declared.row.RowStore.{RowStore}
use Rattle.store.proofs.Cells.{length_cells, nth_cells, cells_part}
use Rattle.store.proofs.Cutting.{size_is, reading_is, nth_between, filled, between_part, copied_is}

module _ {R : Type 0} (s : RowStore R) (block : ℕ) where
  pub row_size : size (slice_get (row_rows s) block) ≡ option_map span_len (slice_get (spans s.directory) block)
  row_size = sym (size_is (λ a b. between a b (row_area s)) s.directory (λ at h. length-between (row_area s) at.from at.to (omega (arith, h.within, s.within))) block)

  row_found : (place : ℕ) → option_and_then (slice_get (row_area s)) (option_and_then (span_place place) (slice_get (spans s.directory) block)) ≡ reading_at (slice_get (row_rows s) block) place
  row_found place = reading_is (λ a b. between a b (row_area s)) s.directory (λ at h. length-between (row_area s) at.from at.to (omega (arith, h.within, s.within))) block
      (slice_get (row_area s)) place (λ at h. nth_between at.from at.to (row_area s) place h)

  -- the reading at a place is read from where the directory says
  pub row_reading : (place : ℕ) (at : Option ℕ) → at ≡ option_and_then (span_place place) (slice_get (spans s.directory) block) → reading_at (slice_get (row_rows s) block) place ≡ option_and_then (slice_get (row_area s)) at
  row_reading place at is = sym (ap (option_and_then (slice_get (row_area s))) is ∙ row_found place)

  -- a part is copied from where the directory says
  pub row_copied : (from : ℕ) (before : List R) (at : Option ℕ) → at ≡ option_and_then (span_part from (length before)) (slice_get (spans s.directory) block)
      → copied (slice_get (row_rows s) block) from before ≡ filled (λ k. between k (k + length before) (row_area s)) before at
  row_copied from before = copied_is (λ a b. between a b (row_area s)) s.directory (λ at h. length-between (row_area s) at.from at.to (omega (arith, h.within, s.within))) block from before
      (λ k. between k (k + length before) (row_area s)) (λ at h. between_part at.from at.to (row_area s) from (length before) h)

module _ {R : Type 0} (wide : ℕ) (restored : List ℕ → R) (s : FlashStore R) (block : ℕ) where
  pub flash_size : size (slice_get (flash_rows wide restored s) block) ≡ option_map span_len (slice_get (spans s.directory) block)
  flash_size = sym (size_is (λ a b. cells wide restored (flash_area s) a (b - a)) s.directory (λ at h. length_cells wide restored (flash_area s) at.from (at.to - at.from)) block)

  flash_found : (place : ℕ) → option_and_then (λ k. Some (cell wide restored (flash_area s) k)) (option_and_then (span_place place) (slice_get (spans s.directory) block)) ≡ reading_at (slice_get (flash_rows wide restored s) block) place
  flash_found place = reading_is (λ a b. cells wide restored (flash_area s) a (b - a)) s.directory (λ at h. length_cells wide restored (flash_area s) at.from (at.to - at.from)) block
      (λ k. Some (cell wide restored (flash_area s) k)) place (λ at h. nth_cells wide restored (flash_area s) at.from (at.to - at.from) place h)

  -- the reading at a place is read from the cell that the directory says
  pub flash_reading : (place : ℕ) (at : Option ℕ) → at ≡ option_and_then (span_place place) (slice_get (spans s.directory) block) → reading_at (slice_get (flash_rows wide restored s) block) place ≡ option_map (cell wide restored (flash_area s)) at
  flash_reading place None is = sym (ap (option_and_then (λ k. Some (cell wide restored (flash_area s) k))) is ∙ flash_found place)
  flash_reading place (Some k) is = sym (ap (option_and_then (λ k. Some (cell wide restored (flash_area s) k))) is ∙ flash_found place)

  -- a part is read from the cells that the directory says
  pub flash_copied : (from : ℕ) (before : List R) (at : Option ℕ) → at ≡ option_and_then (span_part from (length before)) (slice_get (spans s.directory) block)
      → copied (slice_get (flash_rows wide restored s) block) from before ≡ filled (λ k. cells wide restored (flash_area s) k (length before)) before at
  flash_copied from before = copied_is (λ a b. cells wide restored (flash_area s) a (b - a)) s.directory (λ at h. length_cells wide restored (flash_area s) at.from (at.to - at.from)) block from before
      (λ k. cells wide restored (flash_area s) k (length before)) (λ at h. cells_part wide restored (flash_area s) at.from (at.to - at.from) from (length before) h)
