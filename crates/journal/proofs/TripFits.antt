-- Every edit of an archive that stands can be held by its record. Assumes nothing.
use Rattle.std.proofs.Common.{◌≡◌, ℕ, suc, ◌^◌, ◌<◌, ◌≤◌, Bool, true, false, eqb, List, [], ◌∷◌, ◌++◌, length, take, drop, Some, sym, refl, ap, ◌∙◌, subst, arith}
use Rattle.std.specs.List.{AllByRecursion}
use Rattle.std.proofs.lemmas.Bool.{eqb-true, cond-true, cond-false}
use Rattle.summary.specs.Summing.{Summing}
use Rattle.flexlist.specs.Edits.{Content, Item, Edit, base_of, first_changed, done, list_of}
use Rattle.flexlist.specs.Edits as edits
use Rattle.flexlist.specs.Replay.{InPlace}
use Rattle.flexlist.proofs.EditBounds.{first_of}
use Rattle.archive.specs.Records.{edit_of, edits_before}
use Rattle.archive.specs.Stands.{Tables, WithinLimits, TablesStand}
use Rattle.archive.specs.Calling.{EachInPlace}
use Rattle.archive.proofs.Later.{list_later, list_new, edit_later, edit_new, edit_past, same_some, some_none}
use Rattle.archive.proofs.Looks.{nth_some}
use Rattle.journal.specs.Format.{entry_of, entries_of, RowFits, Fits}

module _ {X : Type 0} (P : X → Type 0) where
  pub all_both : (xs ys : List X) → AllByRecursion P xs → AllByRecursion P ys → AllByRecursion P (xs ++ ys)
  all_both [] ys as' bs = bs
  all_both (x ∷ xs) ys as' bs = (as'.0, all_both xs ys as'.1 bs)

  all_end : (xs ys : List X) → AllByRecursion P (xs ++ ys) → AllByRecursion P ys
  all_end [] ys as' = as'
  all_end (x ∷ xs) ys as' = all_end xs ys as'.1

module _ {R : Type 0} where
  -- the edit that gave a version: the lists of older versions are those before it, and the version's own is the edit done on its base's
  pub record Gave (es : List (Edit R)) (v : ℕ) (e : Edit R) : Type 0 where
    pub same : (w : ℕ) → w < v → list_of es w ≡ list_of (edits_before es v) w
    pub list : list_of es v ≡ done v e (list_of (edits_before es v) (base_of e))

  pub gave : (es : List (Edit R)) (v : ℕ) (e : Edit R) → edit_of es v ≡ Some e → Gave es v e
  gave [] v e h = absurd (some_none e (sym h))
  gave (f ∷ es) v e h = go (gave es v e) (eqb v (suc (length es))) refl
    where
      go : (edit_of es v ≡ Some e → Gave es v e) → (b : Bool) → eqb v (suc (length es)) ≡ b → Gave (f ∷ es) v e
      go before true q =
          let at : v ≡ suc (length es) = eqb-true v (suc (length es)) q in
          let is : f ≡ e = same_some f e (sym (cond-true (eqb v (suc (length es))) (Some f) (edit_of es v) q) ∙ h) in
          let cut : edits_before (f ∷ es) v ≡ es = cond-true (eqb v (suc (length es))) es (edits_before es v) q in
          record {
            same = λ w l. list_later f es w (omega arith) ∙ ap (λ x. list_of x w) (sym cut);
            list = ap (list_of (f ∷ es)) at ∙ (list_new f es ∙ (ap (λ n. done n f (list_of es (base_of f))) (sym at)
                ∙ (ap (λ x. done v x (list_of es (base_of x))) is ∙ ap (λ x. done v e (list_of x (base_of e))) (sym cut))));
          }
      go before false q =
          let was : edit_of es v ≡ Some e = sym (cond-false (eqb v (suc (length es))) (Some f) (edit_of es v) q) ∙ h in
          let past = edit_past es v e was in
          let g = before was in
          let cut : edits_before (f ∷ es) v ≡ edits_before es v = cond-false (eqb v (suc (length es))) es (edits_before es v) q in
          record {
            same = λ w l. list_later f es w (omega arith) ∙ (g.same w l ∙ ap (λ x. list_of x w) (sym cut));
            list = list_later f es v past ∙ (g.list ∙ ap (λ x. done v e (list_of x (base_of e))) (sym cut));
          }

  -- the block that an edit makes stands in its list
  changed_fair : (n : ℕ) (c : Content R) (xs : List (Item R)) (x : Item R) (ys : List (Item R)) → xs ≡ x ∷ ys → AllByRecursion WithinLimits (first_changed n c xs) → RowFits c.row
  changed_fair n c [] x ys h all = let z : ◌≡◌ {A = ℕ} 0 1 = cc in absurd (omega arith)
  changed_fair n c (w ∷ xs) x ys h all = record { some = all.0.some; most = all.0.most }

  -- an edit whose numbers are small and whose list is within the limits fits
  fits_by : (v : ℕ) (e : Edit R) (before : List (Edit R)) → base_of e < 4096 → InPlace before e → length (list_of before (base_of e)) ≤ 500 → AllByRecursion WithinLimits (done v e (list_of before (base_of e))) → Fits (entry_of e)
  fits_by v (edits.Edit.insert base place level content) before hb hp few in_limits =
      let own = (all_end WithinLimits (take place (list_of before base)) (record { identity = v; level = level; content = content } ∷ drop place (list_of before base)) in_limits).0 in
      let flat = own.level in
      let b : base < 2 ^ 16 = omega arith in
      let p : place < 2 ^ 16 = omega arith in
      let l : level < 256 = omega arith in
      (b, p, l, record { some = own.some; most = own.most })
  fits_by v (edits.Edit.change base place content) before hb hp few in_limits =
      let first = first_of place (list_of before base) hp in
      let own = changed_fair v content (drop place (list_of before base)) first.0 first.1 first.2 (all_end WithinLimits (take place (list_of before base)) (first_changed v content (drop place (list_of before base))) in_limits) in
      let b : base < 2 ^ 16 = omega arith in
      let p : place < 2 ^ 16 = omega arith in
      (b, p, own)
  fits_by v (edits.Edit.removal base place) before hb hp few in_limits =
      let b : base < 2 ^ 16 = omega arith in
      let p : place < 2 ^ 16 = omega arith in
      (b, p)

  -- what holds of every edit's entry holds of all entries
  pub all_entries : (es : List (Edit R)) → ((v : ℕ) (e : Edit R) → edit_of es v ≡ Some e → Fits (entry_of e)) → AllByRecursion Fits (entries_of es)
  all_entries [] each = tt
  all_entries (e ∷ es) each =
      all_both Fits (entries_of es) (entry_of e ∷ [])
      (all_entries es (λ v f h. each v f (edit_later e es v (edit_past es v f h) ∙ h)))
      (each (suc (length es)) e (edit_new e es), tt)

module _ {R Q : Type 0} (means : Summing R Q) (es : List (Edit R)) (s : Tables Q) (stands : TablesStand means es s) (placed : EachInPlace es) where
  version : (v : ℕ) → v ≤ length es → (AllByRecursion WithinLimits (list_of es v)) × (length (list_of es v) ≤ 500)
  version v h =
      let many = stands.as_many in
      let t = nth_some stands.trees v (omega arith) in
      let w = stands.each v t.0 t.1 in
      (w.in_limits, w.few)

  edit_fits : (v : ℕ) (e : Edit R) → edit_of es v ≡ Some e → Fits (entry_of e)
  edit_fits v e h =
      let past = edit_past es v e h in
      let older = stands.older v e h in
      let g = gave es v e h in
      let counted = stands.counted in
      let few : s.count ≤ 4096 = omega (arith, stands.versions_fit) in
      fits_by v e (edits_before es v) (omega arith) (placed v e h) (subst (λ l. length l ≤ 500) (g.same (base_of e) older) (version (base_of e) (omega arith)).1) (subst (AllByRecursion WithinLimits) g.list (version v past).0)

  pub entries_fit : AllByRecursion Fits (entries_of es)
  entries_fit = all_entries es edit_fits
