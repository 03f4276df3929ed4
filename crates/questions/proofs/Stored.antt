-- A reading that was found, read from the store. Assumes nothing.
use Rattle.std.proofs.Common.{◌≡◌, ℕ, zero, suc, ◌+◌, ◌-◌, ◌<◌, List, Some, None, sym, ◌∙◌, subst, ⊎_elim, arith}
use Rattle.std.specs.List.{slice_get}
use Rattle.std.proofs.lemmas.Bool.{cases_lt}
use Rattle.flexlist.specs.Nodes.{leaves}
use Rattle.store.specs.Interface.{reading_at}
use Rattle.summary.specs.Summing.{Summing}
use Rattle.nodes.specs.declared.node.Node.{Node}
use Rattle.flexlist.specs.Laid.{Laid, last, leaf, fork, plain}
use Rattle.nodes.specs.Holding.{Content}
use Rattle.questions.specs.Storing.{Stored, AllStored}
use Rattle.questions.proofs.Rows.{stored_at, nth_there}
use Rattle.questions.specs.declared.found.Found.{Found}
use Rattle.questions.specs.Readings.{row_with, rows_of}
use Rattle.questions.specs.Finding.{block_at, Finds, Reads}
use Rattle.questions.proofs.Finds.{block_below, block_after}

module _ {R : Type 0} (rows : List (List R)) (c : ℕ → Content R) where
  -- every block of a tree is stored
  pub block_stored : (t : Laid) (k : ℕ) → AllStored rows c t → k < leaves (plain t) → Stored rows (block_at c t k)
  unfolding leaves
  block_stored (last e a) zero st h = st
  block_stored (last e a) (suc k) st h = absurd (omega arith)
  block_stored (leaf e a t) zero st h = st.0
  block_stored (leaf e a t) (suc k) st h = block_stored t k st.1 (omega arith)
  block_stored (fork e m x y) k st h =
      ⊎_elim
      (λ l. subst (Stored rows) (sym (block_below c e m x y k l)) (block_stored x k st.0 l))
      (λ g. let over : leaves (plain x) + (k - leaves (plain x)) ≡ k = omega arith in
      subst (λ n. Stored rows (block_at c (fork e m x y) n)) over
      (subst (Stored rows) (sym (block_after c e m x y (k - leaves (plain x)))) (block_stored y (k - leaves (plain x)) st.1 (omega arith))))
      (cases_lt k (leaves (plain x)))

module _ {R Q : Type 0} (s : Summing R Q) (rows : List (List R)) (table : List (Node Q)) (at position : ℕ) where
  pub read_lost : (f : Found) → Finds s table at position (Some f) → None ≡ reading_at (slice_get rows f.block) f.place → Reads s rows table at position None
  read_lost f w e c t h st k =
      let found = w c t h k in
      let here = stored_at rows (block_at c t (row_with (rows_of c t) position)) f.block f.place (block_stored rows c t _ st found.there) found.block found.within in
      absurd (nth_there (block_at c t (row_with (rows_of c t) position)).row f.place found.within (sym here ∙ sym e))

  pub read_some : (f : Found) (x : R) → Finds s table at position (Some f) → Some x ≡ reading_at (slice_get rows f.block) f.place → Reads s rows table at position (Some (record { reading = x; path = f.path }))
  read_some f x w e c t h st k =
      let found = w c t h k in
      let here = stored_at rows (block_at c t (row_with (rows_of c t) position)) f.block f.place (block_stored rows c t _ st found.there) found.block found.within in
      (sym found.same ∙ sym here ∙ sym e, found.path)
