-- What loading answers and leaves is one thing: two loadings of the same bytes, where alike archives answer an edit alike, take the same entries, come to
-- the same history and answer the same. Assumes nothing.
use Rattle.store.specs.Keeping.{Keeping}
use Rattle.std.proofs.Common.{◌≡◌, ℕ, ◌+◌, ◌≤◌, List, [], ◌∷◌, ◌++◌, length, take, Ok, Err, Result, sym, refl, ap, ap₂, ◌∙◌, subst, append_assoc, arith}
use Rattle.std.specs.List.{AllByRecursion}
use Rattle.summary.specs.Summing.{Summing}
use Rattle.archive.specs.declared.fault.EditFault.{EditFault}
use Rattle.archive.specs.Calling.{Archive, Standing, EditTold}
use Rattle.archive.specs.History.{History}
use Rattle.journal.specs.declared.fault.JournalFault.TheVariants as fault
use Rattle.journal.specs.declared.fault.LoadFault.{LoadFault}
use Rattle.journal.specs.Format.{Coding, Entry, row_of, asked_of, head_bytes, entry_bytes, entries_bytes, Fits}
use Rattle.journal.specs.Loading.{Took, TookAll, Ended, TookIn, Loads}
use Rattle.journal.specs.Loading as loads
use Rattle.journal.proofs.Codes.{cut_same, entry_some, entries_same}
use Rattle.journal.proofs.TripDue.{edit_none}
use Rattle.journal.proofs.DueSame.{entry_due, fault_same}

module _ {R Q S : Type 0} (means : Summing R Q) (keeps : Keeping S R) where
  -- Archives that are alike, as far as edits tell, in a way that edits keep: an edit is accepted by both or by none, is one edit of the history then, and
  -- is refused for one reason.
  pub record EditsSame (alike : Archive Q S → Archive Q S → Type 0) : Type 0 where
    pub back : (s t : Archive Q S) → alike s t → alike t s
    pub count : (s t : Archive Q S) → alike s t → s.tables.count ≡ t.tables.count
    pub accepted : (h i k : History R) (s t u v : Archive Q S) (e : Entry R) → alike s t → Took means keeps h s e i u → Took means keeps h t e k v → (i ≡ k) × alike u v
    pub either : (h i : History R) (s t u : Archive Q S) (e : Entry R) (f : EditFault) → alike s t → Took means keeps h s e i u → EditTold means keeps h t (asked_of e) (Err f) t → ⊥
    pub refused : (h : History R) (s t : Archive Q S) (e : Entry R) (f g : EditFault) → alike s t → EditTold means keeps h s (asked_of e) (Err f) s → EditTold means keeps h t (asked_of e) (Err g) t → f ≡ g

  -- what both answer, and a history that both stand for then
  pub record SameLoads (q r : Result ℕ LoadFault) (u v : Archive Q S) : Type 0 where
    pub answer : q ≡ r
    pub history : History R
    pub stands : Standing means keeps history u
    pub other : Standing means keeps history v

module _ {R : Type 0} (coding : Coding R) (measured : (x : R) → length (coding.bytes x) ≡ coding.wide) (told : (x y : R) → coding.bytes x ≡ coding.bytes y → x ≡ y) where
  module _ {Q S : Type 0} (means : Summing R Q) (keeps : Keeping S R) (alike : Archive Q S → Archive Q S → Type 0) (same : EditsSame means keeps alike) (room : ℕ) where
    abbrev Roomy : List (Entry R) → Type 0
    Roomy es = AllByRecursion (λ e. length (row_of e) ≤ room) es

    -- where loading ended no entry is taken
    not_ended : (h i : History R) (s t u : Archive Q S) (e : Entry R) (place : ℕ) (more bytes : List ℕ) (passed : List (List R)) (r : Result ℕ LoadFault) → alike s t → Fits e → length (row_of e) ≤ room → bytes ≡ entry_bytes coding e ++ more
        → Took means keeps h t e i u → Ended means keeps coding room place h s bytes passed r → ⊥
    not_ended h i s t u e place more bytes passed r a fit roomy is took (loads.Ended.whole none p q) = entry_some coding e more (sym is ∙ none)
    not_ended h i s t u e place more bytes passed r a fit roomy is took (loads.Ended.stopped row f far bad p q) = entry_due coding measured told room e more bytes row f far fit roomy is bad
    not_ended h i s t u e place more bytes passed r a fit roomy is took (loads.Ended.refused x rest f fits short there refusal p q) =
        let one = (entries_same coding measured told x e rest more fits fit (sym there ∙ is)).0 in
        same.either h i t s u e f (same.back s t a) took (subst (λ y. EditTold means keeps h s (asked_of y) (Err f) s) one refusal)

    -- the entries that were taken, and what they led to
    record SameTaken (es fs : List (Entry R)) (i k : History R) (u v : Archive Q S) (rest more : List ℕ) : Type 0 where
      taken : es ≡ fs
      history : i ≡ k
      left : alike u v
      rests : rest ≡ more

    taken_same : (es fs : List (Entry R)) (h i k : History R) (s t u v : Archive Q S) (rest more : List ℕ) (at to : ℕ) (passed others : List (List R)) (q r : Result ℕ LoadFault) → alike s t
        → AllByRecursion Fits es → AllByRecursion Fits fs → Roomy es → Roomy fs → entries_bytes coding es ++ rest ≡ entries_bytes coding fs ++ more
        → TookAll means keeps h s es i u → TookAll means keeps h t fs k v → Ended means keeps coding room at i u rest passed q → Ended means keeps coding room to k v more others r
        → SameTaken es fs i k u v rest more
    taken_same [] [] h i k s t u v rest more at to passed others q r a fit fits short shorts is took tooks end ends =
        record { taken = refl; history = took.0 ∙ sym tooks.0; left = subst (λ x. alike x v) (sym took.1) (subst (alike s) (sym tooks.1) a); rests = is }
    taken_same [] (f ∷ fs) h i k s t u v rest more at to passed others q r a fit fits short shorts is took tooks end ends =
        let here = subst (λ x. Took means keeps x t f tooks.0 tooks.1) (sym took.0) tooks.2 in
        absurd (not_ended i tooks.0 u t tooks.1 f at (entries_bytes coding fs ++ more) rest passed q (subst (λ x. alike x t) (sym took.1) a) fits.0 shorts.0
        (is ∙ append_assoc (entry_bytes coding f) (entries_bytes coding fs) more) here end)
    taken_same (e ∷ es) [] h i k s t u v rest more at to passed others q r a fit fits short shorts is took tooks end ends =
        let here = subst (λ x. Took means keeps x s e took.0 took.1) (sym tooks.0) took.2 in
        absurd (not_ended k took.0 v s took.1 e to (entries_bytes coding es ++ rest) more others r (subst (λ x. alike x s) (sym tooks.1) (same.back s t a)) fit.0 short.0
        (sym is ∙ append_assoc (entry_bytes coding e) (entries_bytes coding es) rest) here ends)
    taken_same (e ∷ es) (f ∷ fs) h i k s t u v rest more at to passed others q r a fit fits short shorts is took tooks end ends =
        let one = entries_same coding measured told e f (entries_bytes coding es ++ rest) (entries_bytes coding fs ++ more) fit.0 fits.0
        (sym (append_assoc (entry_bytes coding e) (entries_bytes coding es) rest) ∙ (is ∙ append_assoc (entry_bytes coding f) (entries_bytes coding fs) more)) in
        let first = one.0 in
        let step = same.accepted h took.0 tooks.0 s t took.1 tooks.1 e a took.2 (subst (λ x. Took means keeps h t x tooks.0 tooks.1) (sym first) tooks.2) in
        let go = taken_same es fs took.0 i k took.1 tooks.1 u v rest more at to passed others q r step.1 fit.1 fits.1 short.1 shorts.1 one.1 took.3
        (subst (λ x. TookAll means keeps x tooks.1 fs k v) (sym step.0) tooks.3) end ends in
        let tail = go.taken in
        let all : e ∷ es ≡ f ∷ fs = cc in
        record { taken = all; history = go.history; left = go.left; rests = go.rests }

    -- how loading ended
    ended_same : (at : ℕ) (h : History R) (s t : Archive Q S) (bytes : List ℕ) (passed others : List (List R)) (q r : Result ℕ LoadFault) → alike s t
        → Ended means keeps coding room at h s bytes passed q → Ended means keeps coding room at h t bytes others r → q ≡ r
    ended_same at h s t bytes passed others q r a (loads.Ended.whole none p x) (loads.Ended.whole none' p' y) = x ∙ (ap Ok (same.count s t a) ∙ sym y)
    ended_same at h s t bytes passed others q r a (loads.Ended.whole none p x) (loads.Ended.stopped row f far bad p' y) = absurd (edit_none coding room bytes row f far none bad)
    ended_same at h s t bytes passed others q r a (loads.Ended.whole none p x) (loads.Ended.refused e more f fit short is refusal p' y) = absurd (entry_some coding e more (sym is ∙ none))
    ended_same at h s t bytes passed others q r a (loads.Ended.stopped row f far bad p x) (loads.Ended.whole none p' y) = absurd (edit_none coding room bytes row f far none bad)
    ended_same at h s t bytes passed others q r a (loads.Ended.stopped row f far bad p x) (loads.Ended.stopped row' g off bad' p' y) =
        let d = fault_same coding measured told room bytes row f far row' g off bad bad' in
        x ∙ (ap₂ (λ l n. Err (record { fault = l; place = at + n })) d.fault d.place ∙ sym y)
    ended_same at h s t bytes passed others q r a (loads.Ended.stopped row f far bad p x) (loads.Ended.refused e more g fit short is refusal p' y) =
        absurd (entry_due coding measured told room e more bytes row f far fit short is bad)
    ended_same at h s t bytes passed others q r a (loads.Ended.refused e more f fit short is refusal p x) (loads.Ended.whole none p' y) = absurd (entry_some coding e more (sym is ∙ none))
    ended_same at h s t bytes passed others q r a (loads.Ended.refused e more f fit short is refusal p x) (loads.Ended.stopped row g far bad p' y) =
        absurd (entry_due coding measured told room e more bytes row g far fit short is bad)
    ended_same at h s t bytes passed others q r a (loads.Ended.refused e more f fit short is refusal p x) (loads.Ended.refused e' more' g fit' short' is' refusal' p' y) =
        let one = (entries_same coding measured told e' e more' more fit' fit (sym is' ∙ is)).0 in
        let d = same.refused h s t e f g a refusal (subst (λ z. EditTold means keeps h t (asked_of z) (Err g) t) one refusal') in
        x ∙ (ap (λ l. Err (record { fault = fault.Edit l; place = at })) d ∙ sym y)

  module _ {Q S : Type 0} (means : Summing R Q) (keeps : Keeping S R) (alike : Archive Q S → Archive Q S → Type 0) (same : EditsSame means keeps alike) where
    took_in_same : (h : History R) (s t u v : Archive Q S) (area others after left : List R) (bytes : List ℕ) (q r : Result ℕ LoadFault) → alike s t → length area ≡ length others
        → TookIn means keeps coding h s area bytes q u after → TookIn means keeps coding h t others bytes r v left → SameLoads means keeps q r u v
    took_in_same h s t u v area others after left bytes q r a long x y =
        let room = length area in
        let past = (cut_same (head_bytes coding) (head_bytes coding) (entries_bytes coding x.taken ++ x.rest) (entries_bytes coding y.taken ++ y.rest) refl (sym x.split ∙ y.split)).1 in
        let shorts = subst (λ n. AllByRecursion (λ e. length (row_of e) ≤ n) y.taken) (sym long) y.roomy in
        let ends = subst (λ n. Ended means keeps coding n (3 + length (entries_bytes coding y.taken)) y.history v y.rest y.passed r) (sym long) y.ended in
        let d = taken_same means keeps alike same room x.taken y.taken h x.history y.history s t u v x.rest y.rest (3 + length (entries_bytes coding x.taken)) (3 + length (entries_bytes coding y.taken)) x.passed y.passed q r
        a x.fit y.fit x.roomy shorts past x.took y.took x.ended ends in
        let there = subst (λ n. Ended means keeps coding room n y.history v y.rest y.passed r) (ap (λ l. 3 + length (entries_bytes coding l)) (sym d.taken)) ends in
        let then = subst (λ l. Ended means keeps coding room (3 + length (entries_bytes coding x.taken)) y.history v l y.passed r) (sym d.rests) there in
        let end = subst (λ k. Ended means keeps coding room (3 + length (entries_bytes coding x.taken)) k v x.rest y.passed r) (sym d.history) then in
        record {
          answer = ended_same means keeps alike same room (3 + length (entries_bytes coding x.taken)) x.history u v x.rest x.passed y.passed q r d.left x.ended end;
          history = x.history;
          stands = x.stands;
          other = subst (λ k. Standing means keeps k v) (sym d.history) y.stands;
        }

    -- bytes with the head
    headed : (h : History R) (s t : Archive Q S) (area after : List R) (bytes : List ℕ) (r : Result ℕ LoadFault) → TookIn means keeps coding h s area bytes r t after → (3 ≤ length bytes) × (take 3 bytes ≡ head_bytes coding)
    headed h s t area after bytes r x = let l = ap length x.split in (omega arith, ap (take 3) x.split)

    pub loads_same : (h : History R) (s t u v : Archive Q S) (area others after left : List R) (bytes : List ℕ) (q r : Result ℕ LoadFault) → alike s t → length area ≡ length others
        → Standing means keeps h s → Standing means keeps h t → Loads means keeps coding h s area bytes q u after → Loads means keeps coding h t others bytes r v left → SameLoads means keeps q r u v
    loads_same h s t u v area others after left bytes q r a long st sd (loads.Loads.short few e kept w) (loads.Loads.short few' e' kept' w') =
        record { answer = e ∙ sym e'; history = h; stands = subst (Standing means keeps h) (sym kept) st; other = subst (Standing means keeps h) (sym kept') sd }
    loads_same h s t u v area others after left bytes q r a long st sd (loads.Loads.short few e kept w) (loads.Loads.no_head many other e' kept' w') = absurd (omega arith)
    loads_same h s t u v area others after left bytes q r a long st sd (loads.Loads.short few e kept w) (loads.Loads.read y) =
        let many = (headed h t v others left bytes r y).0 in absurd (omega arith)
    loads_same h s t u v area others after left bytes q r a long st sd (loads.Loads.no_head many other e kept w) (loads.Loads.short few e' kept' w') = absurd (omega arith)
    loads_same h s t u v area others after left bytes q r a long st sd (loads.Loads.no_head many other e kept w) (loads.Loads.no_head many' no' e' kept' w') =
        record { answer = e ∙ sym e'; history = h; stands = subst (Standing means keeps h) (sym kept) st; other = subst (Standing means keeps h) (sym kept') sd }
    loads_same h s t u v area others after left bytes q r a long st sd (loads.Loads.no_head many other e kept w) (loads.Loads.read y) = absurd (other (headed h t v others left bytes r y).1)
    loads_same h s t u v area others after left bytes q r a long st sd (loads.Loads.read x) (loads.Loads.short few e kept w) =
        let many = (headed h s u area after bytes q x).0 in absurd (omega arith)
    loads_same h s t u v area others after left bytes q r a long st sd (loads.Loads.read x) (loads.Loads.no_head many other e kept w) = absurd (other (headed h s u area after bytes q x).1)
    loads_same h s t u v area others after left bytes q r a long st sd (loads.Loads.read x) (loads.Loads.read y) = took_in_same h s t u v area others after left bytes q r a long x y
