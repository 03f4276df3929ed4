-- A journal taken in, entry by entry. Assumes nothing.
use Rattle.store.specs.Keeping.{Keeping}
use Rattle.std.proofs.Common.{◌≡◌, ℕ, ◌+◌, ◌-◌, ◌≤◌, List, [], ◌∷◌, ◌++◌, map, length, drop, Some, None, Ok, Err, Option, Result, sym, refl, ap, ◌∙◌, subst, append_assoc, append-nil, arith, length-append, length-drop}
use Rattle.std.specs.List.{AllByRecursion}
use Rattle.std.proofs.lemmas.List.{drop_all, map_push}
use Rattle.std.proofs.ByRecursion.{All-push}
use Rattle.summary.specs.Summing.{Summing}
use Rattle.flexlist.specs.Edits.{Edit}
use Rattle.archive.specs.declared.fault.EditFault.{EditFault}
use Rattle.archive.specs.declared.table.Accepted.{Accepted}
use Rattle.archive.specs.Calling.{Archive, Answered, Standing, EditKept, EditAccepted, RowRefused, asked_refusal, number_in, edit_asked}
use Rattle.archive.specs.History.{History}
use Rattle.journal.specs.declared.fault.JournalFault.TheVariants as fault
use Rattle.journal.specs.declared.fault.LoadFault.{LoadFault}
use Rattle.journal.specs.Format.{Coding, Entry, row_of, asked_of, head_bytes, entry_bytes, entries_bytes, Fits}
use Rattle.journal.specs.Faults.{NoEdit}
use Rattle.journal.specs.Loading.{rows_over, Took, TookAll, Ended, Loads}
use Rattle.journal.specs.Loading as loads
use Rattle.journal.specs.Taking.{Sent, EntryTaken, EntryStopped}
use Rattle.journal.specs.Taking as taking

-- one row more over the others
rows_over_push : {R : Type 0} (area : List R) (rs : List (List R)) (r : List R) → rows_over area (rs ++ (r ∷ [])) ≡ r ++ drop (length r) (rows_over area rs)
rows_over_push area [] r = refl
rows_over_push area (q ∷ rs) r = rows_over_push (q ++ drop (length q) area) rs r

module _ {R : Type 0} (k : Coding R) where
  entries_bytes_push : (es : List (Entry R)) (e : Entry R) → entries_bytes k (es ++ (e ∷ [])) ≡ entries_bytes k es ++ entry_bytes k e
  entries_bytes_push [] e = append-nil (entry_bytes k e)
  entries_bytes_push (d ∷ es) e = ap (λ l. entry_bytes k d ++ l) (entries_bytes_push es e) ∙ sym (append_assoc (entry_bytes k d) (entries_bytes k es) (entry_bytes k e))

module _ {R Q S : Type 0} (means : Summing R Q) (keeps : Keeping S R) where
  -- entries that the archive accepted, by the contracts of the calls
  abbrev SentAll : Archive Q S → List (Entry R) → Archive Q S → Type 0
  SentAll s [] t = t ≡ s
  SentAll s (e ∷ es) t = (u : Archive Q S) × Sent means keeps s e u × SentAll u es t

  sent_more : (s t u : Archive Q S) (es : List (Entry R)) (e : Entry R) → SentAll s es t → Sent means keeps t e u → SentAll s (es ++ (e ∷ [])) u
  sent_more s t u [] e all one = (u, subst (λ x. Sent means keeps x e u) all one, refl)
  sent_more s t u (d ∷ es) e all one = (all.0, all.1, sent_more all.0 t u es e all.2 one)

  -- on an archive that stands
  record TookOn (h : History R) (s : Archive Q S) (e : Entry R) (t : Archive Q S) : Type 0 where
    history : History R
    took : Took means keeps h s e history t
    stands : Standing means keeps history t

  never : {P : Type 0} (x : Accepted) (f : EditFault) → ◌≡◌ {A = Result Accepted EditFault} (Ok x) (Err f) → P
  never x f q = let z : ◌≡◌ {A = ℕ} 0 1 = cc in absurd (omega arith)

  took_told : (es : List (Edit R)) (s : Archive Q S) (e : Entry R) (t : Archive Q S) (x : Accepted) → EditKept means keeps s (asked_of e) (Ok x) t → (o : Option EditFault) → asked_refusal s.tables es (asked_of e) ≡ o
      → Answered o (Ok x) (λ y. EditAccepted means keeps es s (asked_of e) y t) (RowRefused means keeps s.store (asked_of e)) → TookOn (Some es) s e t
  took_told es s e t x kept (Some f) is told = never x f told
  took_told es s e t x kept None is told =
      record {
        history = Some (edit_asked es (asked_of e) (number_in means keeps s t) ∷ es);
        took = record { before = es; was = refl; no_refusal = is; answer = x; accepted = told; kept = kept; after = refl };
        stands = told.stands;
      }

  took_one : (h : History R) (s : Archive Q S) (e : Entry R) (t : Archive Q S) → Standing means keeps h s → Sent means keeps s e t → TookOn h s e t
  took_one None s e t st sent = never sent.answer _ (sent.law None st)
  took_one (Some es) s e t st sent = took_told es s e t sent.answer sent.kept (asked_refusal s.tables es (asked_of e)) refl (sent.law (Some es) st)

  record TookAllOn (h : History R) (s : Archive Q S) (es : List (Entry R)) (t : Archive Q S) : Type 0 where
    history : History R
    took : TookAll means keeps h s es history t
    stands : Standing means keeps history t

  took_all : (h : History R) (s : Archive Q S) (es : List (Entry R)) (t : Archive Q S) → Standing means keeps h s → SentAll s es t → TookAllOn h s es t
  took_all h s [] t st all = record { history = h; took = (refl, all); stands = subst (Standing means keeps h) (sym all) st }
  took_all h s (e ∷ es) t st all =
      let one = took_one h s e all.0 st all.1 in
      let rest = took_all one.history all.0 es t one.stands all.2 in
      record { history = rest.history; took = (one.history, all.0, one.took, rest.took); stands = rest.stands }

  module _ (k : Coding R) where
    -- what stands before the record at a place
    pub record SoFar (s t : Archive Q S) (area now : List R) (bytes : List ℕ) (at : ℕ) : Type 0 where
      pub taken : List (Entry R)
      pub fit : AllByRecursion Fits taken
      pub roomy : AllByRecursion (λ e. length (row_of e) ≤ length area) taken
      pub split : bytes ≡ head_bytes k ++ (entries_bytes k taken ++ drop at bytes)
      pub place : at ≡ 3 + length (entries_bytes k taken)
      pub sent : SentAll s taken t
      pub long : length now ≡ length area
      pub row_area : now ≡ rows_over area (map row_of taken)

    pub so_far_more : (s t u : Archive Q S) (area now after : List R) (bytes : List ℕ) (at next : ℕ) → SoFar s t area now bytes at → EntryTaken means keeps k t now bytes at next u after → SoFar s u area after bytes next
    so_far_more s t u area now after bytes at next so one =
        let e = one.entry in
        let es = so.taken in
        let pushed = entries_bytes_push k es e in
        record {
          taken = es ++ (e ∷ []);
          fit = All-push Fits es e so.fit one.fit;
          roomy = All-push (λ x. length (row_of x) ≤ length area) es e so.roomy (subst (λ n. length (row_of e) ≤ n) so.long one.roomy);
          split =
              so.split ∙ ap (λ l. head_bytes k ++ l) (ap (λ l. entries_bytes k es ++ l) one.there ∙ (sym (append_assoc (entries_bytes k es) (entry_bytes k e) (drop next bytes)) ∙ ap (λ l. l ++ drop next bytes) (sym pushed)));
          place =
              let longer : length (entries_bytes k (es ++ (e ∷ []))) ≡ length (entries_bytes k es) + length (entry_bytes k e) = ap length pushed ∙ length-append (entries_bytes k es) (entry_bytes k e) in
              let a = so.place in let b = one.next_is in omega arith;
          sent = sent_more s t u es e so.sent one.sent;
          long =
              let l : length after ≡ length (row_of e) + (length now - length (row_of e)) = ap length one.put ∙ (length-append (row_of e) (drop (length (row_of e)) now) ∙ ap (λ n. length (row_of e) + n) (length-drop (length (row_of e)) now)) in
              let a = so.long in let b = one.roomy in omega arith;
          row_area =
              one.put ∙ (ap (λ l. row_of e ++ drop (length (row_of e)) l) so.row_area ∙ (sym (rows_over_push area (map row_of es) (row_of e)) ∙ ap (rows_over area) (sym (map_push row_of es e))));
        }

    module _ (s t : Archive Q S) (area now : List R) (bytes : List ℕ) (at : ℕ) (so : SoFar s t area now bytes at) (h : History R) (st : Standing means keeps h s) where
      on : TookAllOn h s so.taken t
      on = took_all h s so.taken t st so.sent

      pub so_far_whole : (n : ℕ) → length bytes ≤ at → n ≡ t.tables.count → Loads means keeps k h s area bytes (Ok n) t now
      so_far_whole n end count =
          loads.Loads.read (record {
            taken = so.taken;
            fit = so.fit;
            roomy = so.roomy;
            rest = drop at bytes;
            split = so.split;
            history = on.history;
            took = on.took;
            stands = on.stands;
            passed = [];
            ended = loads.Ended.whole (drop_all at bytes end) refl (ap Ok count);
            row_area = so.row_area ∙ ap (rows_over area) (sym (append-nil (map row_of so.taken)));
          })

      -- the same with a row, or a part of one, put to the row area past the entries
      stopped_with : (r : Result ℕ LoadFault) (row after : List R) → Ended means keeps k (length area) (3 + length (entries_bytes k so.taken)) on.history t (drop at bytes) (row ∷ []) r
          → after ≡ row ++ drop (length row) now → Loads means keeps k h s area bytes r t after
      stopped_with r row after ended put =
          loads.Loads.read (record {
            taken = so.taken;
            fit = so.fit;
            roomy = so.roomy;
            rest = drop at bytes;
            split = so.split;
            history = on.history;
            took = on.took;
            stands = on.stands;
            passed = row ∷ [];
            ended = ended;
            row_area = put ∙ (ap (λ l. row ++ drop (length row) l) so.row_area ∙ sym (rows_over_push area (map row_of so.taken) row));
          })

      pub so_far_stopped : (f : LoadFault) (u : Archive Q S) (after : List R) → EntryStopped means keeps k t now bytes at f u after → Loads means keeps k h s area bytes (Err f) u after
      so_far_stopped f u after (taking.EntryStopped.bad row far none place same put) =
          let there : f.place ≡ 3 + length (entries_bytes k so.taken) + far = let a = so.place in omega arith in
          subst (λ x. Loads means keeps k h s area bytes (Err f) x after) (sym same)
          (stopped_with (Err f) row after (loads.Ended.stopped row f.fault far (subst (λ n. NoEdit k n (drop at bytes) row f.fault far) so.long none) refl (ap (λ p. Err (record { fault = f.fault; place = p })) there)) put)
      so_far_stopped f u after (taking.EntryStopped.refused e more x fit roomy there law is same put) =
          subst (λ x. Loads means keeps k h s area bytes (Err f) x after) (sym same)
          (stopped_with (Err f) (row_of e) after (loads.Ended.refused e more x fit (subst (λ n. length (row_of e) ≤ n) so.long roomy) there (law on.history on.stands) refl (ap Err is ∙ ap (λ p. Err (record { fault = fault.Edit x; place = p })) so.place)) put)
