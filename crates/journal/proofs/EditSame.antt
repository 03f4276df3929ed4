-- What an edit answers and leaves over a row store is one thing: archives of one history, with tables of the same lengths over row stores that are alike,
-- accept it both or refuse it both, for one reason; what is accepted is one edit, and they are alike then. Assumes nothing.
use Rattle.std.proofs.Common.{◌≡◌, ℕ, ◌+◌, List, ◌∷◌, length, Some, None, Ok, Err, Option, Result, sym, refl, ap, ◌∙◌, subst, length-set}
use Rattle.summary.specs.Summing.{Summing}
use Rattle.store.specs.declared.cause.Cause.{Cause}
use Rattle.store.specs.declared.row.RowStore.{RowStore}
use Rattle.store.specs.Keeping.{row_keeping}
use Rattle.store.proofs.Same.{Alike, refusal_same, put_same, taken_allowed}
use Rattle.flexlist.specs.Edits.{Edit}
use Rattle.archive.specs.declared.fault.EditFault.{EditFault}
use Rattle.archive.specs.declared.fault.EditFault.TheVariants as fault
use Rattle.archive.specs.declared.table.Accepted.{Accepted}
use Rattle.archive.specs.Stands.{Tables}
use Rattle.archive.specs.Calling.{Archive, Asked, insert, append, change, removal, Answered, RowPut, RowRefused, EditDone, EditAccepted, EditTold, asked_refusal, edit_asked, number_in}
use Rattle.archive.proofs.Later.{same_some, some_none}
use Rattle.archive.specs.History.{History}
use Rattle.journal.specs.Format.{Entry, asked_of}
use Rattle.journal.specs.Loading.{Took}
use Rattle.journal.proofs.LoadSame.{EditsSame}

-- tables of the same lengths with as many versions, and row stores that are alike
pub record AlikeArchives {R Q : Type 0} (s t : Archive Q (RowStore R)) : Type 0 where
  pub nodes : length s.tables.nodes ≡ length t.tables.nodes
  pub versions : length s.tables.versions ≡ length t.tables.versions
  pub count : s.tables.count ≡ t.tables.count
  pub store : Alike s.store t.store

pub alike_back : {R Q : Type 0} (s t : Archive Q (RowStore R)) → AlikeArchives s t → AlikeArchives t s
alike_back s t a = record { nodes = sym a.nodes; versions = sym a.versions; count = sym a.count; store = record { rows = sym a.store.rows; used = sym a.store.used; long = sym a.store.long } }

-- the replay's refusals hang on the lengths of the tables alone
asked_same : {R Q : Type 0} (es : List (Edit R)) (a : Asked R) (s t : Tables Q) → length s.nodes ≡ length t.nodes → length s.versions ≡ length t.versions → asked_refusal s es a ≡ asked_refusal t es a
asked_same es (insert base place level row) s t n v = rw (n, v) refl
asked_same es (append base row) s t n v = rw (n, v) refl
asked_same es (change base place row) s t n v = rw (n, v) refl
asked_same es (removal base place) s t n v = rw (n, v) refl

module _ {R Q : Type 0} (means : Summing R Q) where
  -- a row that was put to both
  module _ (s t u v : RowStore R) (m n : ℕ) (a : Alike s t) where
    number_same : (row : List R) → row_keeping.puts s row (Ok m) u → row_keeping.puts t row (Ok n) v → (m ≡ n) × Alike u v
    number_same row x y =
        let b = put_same s t u v row (Ok m) (Ok n) a x y in
        let w : ◌≡◌ {A = Result ℕ Cause} (Ok m) (Ok n) = b.0 in
        let same : m ≡ n = cc in
        (same, b.1)

    row_put_same : (es : List (Edit R)) (asked : Asked R) → RowPut means row_keeping s asked m u → RowPut means row_keeping t asked n v → (edit_asked es asked m ≡ edit_asked es asked n) × Alike u v
    row_put_same es (insert base place level row) x y = let b = number_same row x.did y.did in (ap (edit_asked es (insert base place level row)) b.0, b.1)
    row_put_same es (append base row) x y = let b = number_same row x.did y.did in (ap (edit_asked es (append base row)) b.0, b.1)
    row_put_same es (change base place row) x y = let b = number_same row x.did y.did in (ap (edit_asked es (change base place row)) b.0, b.1)
    row_put_same es (removal base place) x y = (refl, subst (λ w. Alike w v) (sym x.1) (subst (Alike s) (sym y.1) a))

  -- a row that both refuse
  row_refused_same : (s t : RowStore R) (c d : Cause) → Alike s t → (asked : Asked R) → RowRefused means row_keeping s asked c → RowRefused means row_keeping t asked d → c ≡ d
  row_refused_same s t c d a (insert base place level row) x y = same_some c d (sym x.cause ∙ (refusal_same s t a (length row) ∙ y.cause))
  row_refused_same s t c d a (append base row) x y = same_some c d (sym x.cause ∙ (refusal_same s t a (length row) ∙ y.cause))
  row_refused_same s t c d a (change base place row) x y = same_some c d (sym x.cause ∙ (refusal_same s t a (length row) ∙ y.cause))
  row_refused_same s t c d a (removal base place) x y = absurd x

  -- no row is taken by one and refused by the other
  row_either : (s t u : RowStore R) (n : ℕ) (c : Cause) → Alike s t → (asked : Asked R) → RowPut means row_keeping s asked n u → RowRefused means row_keeping t asked c → ⊥
  row_either s t u n c a (insert base place level row) x y = some_none c (sym y.cause ∙ (sym (refusal_same s t a (length row)) ∙ taken_allowed s u row n x.did))
  row_either s t u n c a (append base row) x y = some_none c (sym y.cause ∙ (sym (refusal_same s t a (length row)) ∙ taken_allowed s u row n x.did))
  row_either s t u n c a (change base place row) x y = some_none c (sym y.cause ∙ (sym (refusal_same s t a (length row)) ∙ taken_allowed s u row n x.did))
  row_either s t u n c a (removal base place) x y = y

  module _ (s t : Archive Q (RowStore R)) (alike : AlikeArchives s t) (asked : Asked R) where
    -- an edit that both accept
    accepted_same : (es : List (Edit R)) (u v : Archive Q (RowStore R)) (x y : Accepted) → EditAccepted means row_keeping es s asked x u → EditDone means row_keeping s asked x u
        → EditAccepted means row_keeping es t asked y v → EditDone means row_keeping t asked y v → (edit_asked es asked (number_in means row_keeping s u) ≡ edit_asked es asked (number_in means row_keeping t v)) × AlikeArchives u v
    accepted_same es u v x y a done b done' =
        let put = row_put_same s.store t.store u.store v.store (number_in means row_keeping s u) (number_in means row_keeping t v) alike.store es asked a.put b.put in (
          put.0,
          record {
            nodes = done.sized ∙ (alike.nodes ∙ sym done'.sized);
            versions =
                ap length done.recorded ∙ (length-set s.tables.versions s.tables.count done.noted ∙ (alike.versions
                ∙ (sym (length-set t.tables.versions t.tables.count done'.noted) ∙ sym (ap length done'.recorded))));
            count = done.counted ∙ (ap (λ n. n + 1) alike.count ∙ sym done'.counted);
            store = put.1;
          },
        )

    -- one that one accepts and the other refuses
    either_same : (es : List (Edit R)) (u : Archive Q (RowStore R)) (x : Accepted) (f : EditFault) → asked_refusal s.tables es asked ≡ None → EditAccepted means row_keeping es s asked x u
        → EditTold means row_keeping (Some es) t asked (Err f) t → ⊥
    either_same es u x f none a told =
        go (subst (λ o. Answered {A = Accepted} o (Err f) (λ z. EditAccepted means row_keeping es t asked z t) (RowRefused means row_keeping t.store asked)) (sym (asked_same es asked s.tables t.tables alike.nodes alike.versions) ∙ none) told)
      where
        go : (c : Cause) × (f ≡ fault.Store c) × RowRefused means row_keeping t.store asked c → ⊥
        go r = row_either s.store t.store u.store (number_in means row_keeping s u) r.0 alike.store asked a.put r.2

    -- one that both refuse
    refused_same : (h : Option (List (Edit R))) (f g : EditFault) → EditTold means row_keeping h s asked (Err f) s → EditTold means row_keeping h t asked (Err g) t → f ≡ g
    refused_same None f g x y = let w : ◌≡◌ {A = Result Accepted EditFault} (Err f) (Err g) = x ∙ sym y in cc
    refused_same (Some es) f g x y = go (asked_refusal s.tables es asked) (asked_refusal t.tables es asked) (asked_same es asked s.tables t.tables alike.nodes alike.versions) x y
      where
        go : (o p : Option EditFault) → o ≡ p → Answered {A = Accepted} o (Err f) (λ z. EditAccepted means row_keeping es s asked z s) (RowRefused means row_keeping s.store asked)
            → Answered {A = Accepted} p (Err g) (λ z. EditAccepted means row_keeping es t asked z t) (RowRefused means row_keeping t.store asked) → f ≡ g
        go (Some c) (Some d) e x y =
            let one : c ≡ d = cc in
            let w : ◌≡◌ {A = Result Accepted EditFault} (Err f) (Err g) = x ∙ (ap Err one ∙ sym y) in
            cc
        go (Some c) None e x y = absurd (some_none c e)
        go None (Some d) e x y = absurd (some_none d (sym e))
        go None None e x y = x.1 ∙ (ap fault.Store (row_refused_same s.store t.store x.0 y.0 alike.store asked x.2 y.2) ∙ sym y.1)

  -- entries of a journal that both take
  took_same : (h i k : History R) (s t u v : Archive Q (RowStore R)) (e : Entry R) → AlikeArchives s t → Took means row_keeping h s e i u → Took means row_keeping h t e k v → (i ≡ k) × AlikeArchives u v
  took_same h i k s t u v e a x y =
      let asked = asked_of e in
      let same : x.before ≡ y.before = same_some x.before y.before (sym x.was ∙ y.was) in
      let accepted = subst (λ es. EditAccepted means row_keeping es t asked y.answer v) (sym same) y.accepted in
      let b = accepted_same s t a asked x.before u v x.answer y.answer x.accepted x.kept accepted y.kept in
      (x.after ∙ (ap (λ z. Some (z ∷ x.before)) b.0 ∙ (ap (λ es. Some (edit_asked es asked (number_in means row_keeping t v) ∷ es)) same ∙ sym y.after)), b.1)

  took_either : (h i : History R) (s t u : Archive Q (RowStore R)) (e : Entry R) (f : EditFault) → AlikeArchives s t → Took means row_keeping h s e i u → EditTold means row_keeping h t (asked_of e) (Err f) t → ⊥
  took_either h i s t u e f a x told =
      either_same s t a (asked_of e) x.before u x.answer f x.no_refusal x.accepted (subst (λ j. EditTold means row_keeping j t (asked_of e) (Err f) t) x.was told)

  pub edits_same : EditsSame means row_keeping AlikeArchives
  edits_same = record {
    back = alike_back;
    count = λ s t a. a.count;
    accepted = took_same;
    either = took_either;
    refused = λ h s t e f g a x y. refused_same s t a (asked_of e) h f g x y;
  }
