-- A part of an output from a place on, and that part put back. Assumes nothing.
use Rattle.store.specs.Keeping.{Keeping}
use Rattle.std.proofs.Common.{◌≡◌, ℕ, ◌-◌, min, List, ◌++◌, length, take, drop, Result, refl, ap, ◌∙◌, subst, append-nil, arith, length-drop, drop_of_length-le, take_all}
use Rattle.std.proofs.lemmas.List.{drop_min, take_min}
use borrow.Rule.Slice.PartMut.{put_mid}
use Rattle.summary.specs.Summing.{Summing}
use Rattle.archive.specs.declared.fault.ReadFault.{ReadFault}
use Rattle.archive.specs.Asking.{answer_by, stretch_refusal, output_refusal, SpanLeft}
use Rattle.archive.specs.Calling.{Archive, SpanTold}
use Rattle.runs.specs.Calls.{record_in}
use Rattle.runs.specs.Lists.{SpanInto}

module _ {A : Type 0} (to at : ℕ) (out : List A) (is : at ≡ min to (length out)) where
  drop_cut : drop at out ≡ drop to out
  drop_cut = ap (λ k. drop k out) is ∙ drop_min to out

  take_cut : take at out ≡ take to out
  take_cut = ap (λ k. take k out) is ∙ take_min to out

  -- the part that is lent
  pub lent_part : take (length out - at) (drop at out) ≡ drop to out
  lent_part = let l = length-drop at out in take_all (length out - at) (drop at out) (omega arith) ∙ drop_cut

  -- and put back
  pub part_back : (ys : List A) → put_mid at (length out - at) out ys ≡ take to out ++ ys
  part_back ys =
      let l = length-drop at out in
      ap (λ z. take at out ++ (ys ++ z)) (drop_of_length-le (drop at out) {i = length out - at} (omega arith)) ∙ (ap (λ z. take at out ++ z) (append-nil ys) ∙ ap (λ z. z ++ ys) take_cut)

module _ {R Q S : Type 0} (means : Summing R Q) (keeps : Keeping S R) (s : Archive Q S) (v a b to at : ℕ) (out rest : List R) (r : Result ℕ ReadFault) (is : at ≡ min to (length out)) where
  pub spanned : r ≡ answer_by (stretch_refusal a b (record_in s v) (output_refusal a b (length (take (length out - at) (drop at out))))) (b - a)
      → SpanLeft a b (take (length out - at) (drop at out)) r rest → SpanTold means keeps s v a b (take (length out - at) (drop at out)) r rest
      → SpanInto means keeps s v a b to out r (put_mid at (length out - at) out rest)
  spanned ends left law =
      let part = lent_part to at out is in
      record {
        after = rest;
        contract = (subst (λ l. SpanLeft a b l r rest) part left, subst (λ l. SpanTold means keeps s v a b l r rest) part law, refl, subst (λ l. r ≡ answer_by (stretch_refusal a b (record_in s v) (output_refusal a b (length l))) (b - a)) part ends);
        output = part_back to at out is rest;
      }
