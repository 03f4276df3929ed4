-- What a row store answers and leaves is one thing: two with the same rows over areas of one length answer a put alike, and are alike then.
-- Assumes nothing.
use Rattle.std.proofs.Common.{◌≡◌, ℕ, ◌+◌, ◌-◌, List, ◌∷◌, [], ◌++◌, length, Some, None, Ok, Err, Option, Result, refl, sym, ap, ap₂, ◌∙◌, subst, arith}
use Rattle.store.specs.declared.cause.Cause.{Cause}
use Rattle.store.specs.declared.row.RowStore.{RowStore}
use Rattle.store.specs.Causes.{refusal}
use Rattle.store.specs.Directories.{used}
use Rattle.store.specs.RowStores.{row_rows, row_kept, row_long, row_refusal, RowPut}
use Rattle.store.specs.Stores.{Exact, Added, Empty}

module _ {R : Type 0} where
  -- the same rows, as much of the area in use, and areas of one length
  pub record Alike (s t : RowStore R) : Type 0 where
    pub rows : row_rows s ≡ row_rows t
    pub used : used s.directory ≡ used t.directory
    pub long : row_long s ≡ row_long t

  -- two with no block
  pub empty_alike : (a b : List R) (s t : RowStore R) → length a ≡ length b → Empty row_kept a s → Empty row_kept b t → Alike s t
  empty_alike a b s t same e f = record { rows = e.rows ∙ sym f.rows; used = e.used ∙ sym f.used; long = ap length e.area ∙ (same ∙ ap length (sym f.area)) }

  pub refusal_same : (s t : RowStore R) → Alike s t → (len : ℕ) → row_refusal s len ≡ row_refusal t len
  refusal_same s t a len =
      ap₂ (λ held free. refusal len held free len) (ap length a.rows) (ap₂ (λ long used. long - used) a.long a.used)

  -- a row that was added to both
  added_same : (s t u v : RowStore R) (row : List R) (at to m n : ℕ) → Alike s t → Added row_kept s row at row m u → Added row_kept t row to row n v → (m ≡ n) × Alike u v
  added_same s t u v row at to m n a x y = (
    x.number ∙ (ap length a.rows ∙ sym y.number),
    record {
      rows = x.rows ∙ (ap (λ l. l ++ (row ∷ [])) a.rows ∙ sym y.rows);
      used = x.used ∙ (ap (λ k. k + length row) a.used ∙ sym y.used);
      long = x.same_area ∙ (a.long ∙ sym y.same_area);
    },
  )

  exact_same : (s t u v : RowStore R) (row : List R) (at to : ℕ) (o p : Option Cause) (q r : Result ℕ Cause) → Alike s t → o ≡ p
      → Exact row_kept s row at row o q u → Exact row_kept t row to row p r v → (q ≡ r) × Alike u v
  exact_same s t u v row at to (Some c) (Some d) q r a e x y =
      let same : c ≡ d = cc in
      (x.0 ∙ (ap Err same ∙ sym y.0), subst (λ w. Alike w v) (sym x.1) (subst (Alike s) (sym y.1) a))
  exact_same s t u v row at to (Some c) None q r a e x y = let z : ◌≡◌ {A = ℕ} 0 1 = cc in absurd (omega arith)
  exact_same s t u v row at to None (Some d) q r a e x y = let z : ◌≡◌ {A = ℕ} 0 1 = cc in absurd (omega arith)
  exact_same s t u v row at to None None (Err c) r a e x y = absurd x
  exact_same s t u v row at to None None (Ok m) (Err c) a e x y = absurd y
  exact_same s t u v row at to None None (Ok m) (Ok n) a e x y = let b = added_same s t u v row at to m n a x y in (ap Ok b.0, b.1)

  -- one answer, and again alike
  pub put_same : (s t u v : RowStore R) (row : List R) (q r : Result ℕ Cause) → Alike s t → RowPut s row q u → RowPut t row r v → (q ≡ r) × Alike u v
  put_same s t u v row q r a x y =
      exact_same s t u v row (used s.directory) (used t.directory) (row_refusal s (length row)) (row_refusal t (length row)) q r a (refusal_same s t a (length row)) x.exact y.exact

  -- what is taken is refused by no cause
  pub taken_allowed : (s u : RowStore R) (row : List R) (n : ℕ) → RowPut s row (Ok n) u → row_refusal s (length row) ≡ None
  taken_allowed s u row n put = go (row_refusal s (length row)) put.exact
    where
      go : (o : Option Cause) → Exact row_kept s row (used s.directory) row o (Ok n) u → o ≡ None
      go (Some c) x = let w : ◌≡◌ {A = Result ℕ Cause} (Ok n) (Err c) = x.0 in let z : ◌≡◌ {A = ℕ} 0 1 = cc in absurd (omega arith)
      go None x = refl
