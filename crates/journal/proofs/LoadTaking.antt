-- An edit of a journal that was taken in, or why none was. Assumes nothing.
use Rattle.store.specs.Keeping.{Keeping}
use Rattle.std.proofs.Common.{◌≡◌, ℕ, ◌+◌, ◌<◌, ◌≤◌, List, [], ◌++◌, length, take, drop, Ok, Err, Result, sym, refl, ap, ◌∙◌, subst, append_assoc, append-nil, add-zero, arith, length-append}
use Rattle.std.proofs.lemmas.List.{take_at, nil_from_length}
use Rattle.summary.specs.Summing.{Summing}
use Rattle.archive.specs.declared.fault.EditFault.{EditFault}
use Rattle.archive.specs.declared.table.Accepted.{Accepted}
use Rattle.archive.specs.Calling.{Archive, EditKept, EditLaw}
use Rattle.journal.specs.declared.fault.JournalFault.{JournalFault}
use Rattle.journal.specs.declared.fault.JournalFault.TheVariants as fault
use Rattle.journal.specs.declared.fault.LoadFault.{LoadFault}
use Rattle.journal.specs.declared.loading.opening.Step.{Step}
use Rattle.journal.specs.declared.loading.opening.Step.TheVariants.{Insert, Change, Removal}
use Rattle.journal.specs.declared.loading.opening.Opening.{Opening}
use Rattle.journal.specs.Format.{Coding, Entry, row_of, asked_of, row_bytes, entry_bytes, Fits}
use Rattle.journal.specs.Faults.{Opens, NoRecord}
use Rattle.journal.specs.Faults as faults
use Rattle.journal.specs.Reads.{RowThere, RowStopped}
use Rattle.journal.specs.Records.{entry_with, record_bytes, StepFits, RecordThere}
use Rattle.journal.specs.Taking.{ended, EntryTaken, EntryStopped, bad, refused, OneTaken}

-- a record with a row that has readings opens an insert or a change
pub record RowOpens (front : List ℕ) (n size : ℕ) (more : List ℕ) : Type 0 where
  pub opens : Opens front n size more
  pub some : 1 ≤ n
  pub most : n ≤ 1024

row_opens : (step : Step) (n : ℕ) (front more : List ℕ) → front ≡ record_bytes step n ++ more → StepFits step n → 0 < n → RowOpens front n (length (record_bytes step n)) more
row_opens (Insert base place level) n front more there fits some =
    record { opens = faults.Opens.insert base place level fits.0 fits.1 fits.2 (omega (arith, fits.4)) there refl; some = fits.3; most = fits.4 }
row_opens (Change base place) n front more there fits some =
    record { opens = faults.Opens.change base place fits.0 fits.1 (omega (arith, fits.3)) there refl; some = fits.2; most = fits.3 }
row_opens (Removal base place) n front more there fits some = let z = fits.2 in absurd (omega arith)

module _ {R : Type 0} (k : Coding R) where
  -- an edit's record and its readings are the bytes of an entry
  record EntryWith (step : Step) (n : ℕ) (row : List R) : Type 0 where
    fit : Fits (entry_with step row)
    row_is : row_of (entry_with step row) ≡ row
    bytes_are : entry_bytes k (entry_with step row) ≡ record_bytes step n ++ row_bytes k row

  entry_made : (step : Step) (n : ℕ) (row : List R) → length row ≡ n → StepFits step n → EntryWith step n row
  entry_made (Insert base place level) n row long fits =
      record {
        fit = (fits.0, fits.1, fits.2, record { some = rw long fits.3; most = rw long fits.4 });
        row_is = refl;
        bytes_are = ap (λ m. record_bytes (Insert base place level) m ++ row_bytes k row) long;
      }
  entry_made (Change base place) n row long fits =
      record {
        fit = (fits.0, fits.1, record { some = rw long fits.2; most = rw long fits.3 });
        row_is = refl;
        bytes_are = ap (λ m. record_bytes (Change base place) m ++ row_bytes k row) long;
      }
  entry_made (Removal base place) n row long fits =
      let none : row ≡ [] = nil_from_length row (long ∙ fits.2) in
      record {
        fit = (fits.0, fits.1);
        row_is = sym none;
        bytes_are = sym (append-nil (record_bytes (Removal base place) n)) ∙ ap (λ l. record_bytes (Removal base place) n ++ row_bytes k l) (sym none);
      }

module _ {R Q S : Type 0} (means : Summing R Q) (keeps : Keeping S R) (k : Coding R) (s : Archive Q S) (area : List R) (bytes : List ℕ) (at : ℕ) where
  pub record_stops : (f : JournalFault) → NoRecord (length area) (drop at bytes) f → EntryStopped means keeps k s area bytes at (record { fault = f; place = at }) s area
  record_stops f n = bad [] 0 (faults.NoEdit.record_bad n refl refl) (sym (add-zero at)) refl refl

  module _ (o : Opening) (r : RecordThere bytes at (length area) o) (after : List R) where
    pub row_stops : (f : LoadFault) → RowStopped k bytes o.next o.count area f after → EntryStopped means keeps k s area bytes at f s after
    row_stops f stop =
        let size : ℕ = length (record_bytes o.step o.count) in
        let open_row = row_opens o.step o.count (drop at bytes) (drop o.next bytes) r.there r.fits (let h = stop.short in omega arith) in
        let place : f.place ≡ at + (size + length (row_bytes k stop.passed)) = let a = stop.place in let b = r.next_is in omega arith in
        bad stop.passed (size + length (row_bytes k stop.passed))
        (faults.NoEdit.row_bad (record {
          count = o.count;
          size = size;
          more = drop o.next bytes;
          opens = open_row.opens;
          some = open_row.some;
          most = open_row.most;
          roomy = r.roomy;
          tail = stop.tail;
          split = stop.there;
          short = stop.short;
          broken = stop.broken;
          place = refl;
        })) place refl stop.put

    module _ (end : ℕ) (there : RowThere k bytes o.next o.count area end after) (given : List R) (given_is : given ≡ take o.count after) (t : Archive Q S) where
      row_given : given ≡ there.row
      row_given =
          given_is ∙ (ap (take o.count) there.put ∙ take_at there.row (drop o.count area) o.count there.long)

      made : EntryWith k o.step o.count there.row
      made = entry_made k o.step o.count there.row there.long r.fits

      e : Entry R
      e = entry_with o.step there.row

      bytes_there : drop at bytes ≡ entry_bytes k e ++ drop end bytes
      unfolding e
      bytes_there =
          r.there ∙ (ap (λ l. record_bytes o.step o.count ++ l) there.there ∙ (sym (append_assoc (record_bytes o.step o.count) (row_bytes k there.row) (drop end bytes)) ∙ ap (λ l. l ++ drop end bytes) (sym made.bytes_are)))

      end_is : end ≡ at + length (entry_bytes k e)
      unfolding e
      end_is =
          let l : length (entry_bytes k (entry_with o.step there.row)) ≡ length (record_bytes o.step o.count) + length (row_bytes k there.row) = ap length made.bytes_are ∙ length-append (record_bytes o.step o.count) (row_bytes k there.row) in
          let a = there.next_is in let b = r.next_is in omega arith

      room_is : length (row_of e) ≤ length area
      unfolding e
      room_is = let l : length (row_of (entry_with o.step there.row)) ≡ o.count = ap length made.row_is ∙ there.long in let h = r.roomy in omega arith

      put_is : after ≡ row_of e ++ drop (length (row_of e)) area
      unfolding e
      put_is = there.put ∙ (ap (λ n. there.row ++ drop n area) (sym there.long) ∙ ap (λ (l : List R). l ++ drop (length l) area) (sym made.row_is))

      fits_is : Fits e
      unfolding e
      fits_is = made.fit

      entry_taken : (x : Accepted) → EditKept means keeps s (asked_of (entry_with o.step given)) (Ok x) t → EditLaw means keeps s (asked_of (entry_with o.step given)) (Ok x) t
          → EntryTaken means keeps k s area bytes at end t after
      unfolding e
      entry_taken x kept law =
          record {
            entry = e;
            fit = fits_is;
            roomy = room_is;
            there = bytes_there;
            next_is = end_is;
            within = there.within;
            sent =
                record {
                  answer = x;
                  kept = subst (λ l. EditKept means keeps s (asked_of (entry_with o.step l)) (Ok x) t) row_given kept;
                  law = subst (λ l. EditLaw means keeps s (asked_of (entry_with o.step l)) (Ok x) t) row_given law;
                };
            put = put_is;
          }

      entry_refused : (x : EditFault) → EditKept means keeps s (asked_of (entry_with o.step given)) (Err x) t → EditLaw means keeps s (asked_of (entry_with o.step given)) (Err x) t
          → EntryStopped means keeps k s area bytes at (record { fault = fault.Edit x; place = at }) t after
      unfolding e
      entry_refused x kept law =
          refused e (drop end bytes) x fits_is room_is bytes_there (subst (λ u. EditLaw means keeps s (asked_of e) (Err x) u) kept.0 (subst (λ l. EditLaw means keeps s (asked_of (entry_with o.step l)) (Err x) t) row_given law))
          refl kept.0 put_is

      -- whatever the archive answers
      pub entry_sent : (r : Result Accepted EditFault) → EditKept means keeps s (asked_of (entry_with o.step given)) r t → EditLaw means keeps s (asked_of (entry_with o.step given)) r t
          → OneTaken means keeps k s area bytes at (ended r at end) t after
      entry_sent (Ok x) kept law = entry_taken x kept law
      entry_sent (Err x) kept law = entry_refused x kept law
