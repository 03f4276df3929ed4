-- What an edit leaves, whatever the tables hold, from what its look, its put, its walk and its record leave. Assumes nothing.
use Rattle.store.specs.Keeping.{Keeping}
use Rattle.std.proofs.Common.{◌≡◌, ℕ, ◌-◌, ◌<◌, ◌≤◌, inl, inr, max, Bool, false, leb, List, length, set, Some, None, Ok, Err, Option, Result, sym, refl, ap, ◌∙◌, subst, arith}
use Rattle.summary.specs.Summing.{Summing}
use Rattle.store.specs.declared.cause.Cause.{Cause}
use Rattle.nodes.specs.declared.node.Node.{Node}
use Rattle.nodes.specs.declared.walks.Built.{Built}
use Rattle.nodes.specs.Holding.{WritesFreeOnly, capacity}
use Rattle.archive.specs.declared.version.Version.{Version}
use Rattle.archive.specs.declared.fault.EditFault.{EditFault}
use Rattle.archive.specs.declared.fault.EditFault.TheVariants as fault
use Rattle.archive.specs.Stands.{Tables, node_limit, version_limit}
use Rattle.archive.specs.Refusals.{insert_early, change_early}
use Rattle.archive.specs.Records.{block_at}
use Rattle.archive.specs.Looking.{in_use, LookEnds, LookBy}
use Rattle.archive.specs.Editing.{archive_in, EditLeft}
use Rattle.archive.specs.Calling.{Archive, Asked, asked_base, asked_place, asked_level, asked_kind, AskedSized, record_refusal, early_refusal, RowPut, RowRefused, no_path, few_nodes, no_fit, RefusedBy}
use Rattle.archive.proofs.Tried.{passed, early_passed, EarlyPassed}
use Rattle.archive.proofs.Inserts.{block_new}

-- a look that answers the base's record found no early refusal; one that refuses says the first
pub ends_none : (o : Option EditFault) (from v : Version) → LookEnds o from (Ok v) → (o ≡ None) × (v ≡ from)
ends_none (Some f) from v h = let w : ◌≡◌ {A = Result Version EditFault} (Ok v) (Err f) = h in cc
ends_none None from v h = (refl, h)

pub look_found : (early : Version → Option EditFault) (o : Option Version) (v : Version) → LookBy early o (Ok v) → (o ≡ Some v) × (early v ≡ None)
look_found early None v h = let w : ◌≡◌ {A = Result Version EditFault} (Ok v) (Err fault.Version) = h in cc
look_found early (Some from) v h = let e = ends_none (early from) from v h in (ap Some (sym e.1), ap early e.1 ∙ e.0)

module _ {R Q S : Type 0} (means : Summing R Q) (keeps : Keeping S R) (s : Archive Q S) (asked : Asked R) where
  ends_refused : (o : Option EditFault) (from : Version) (f : EditFault) → LookEnds o from (Err f) → RefusedBy means keeps o s asked f
  ends_refused (Some g) from f h = let w : ◌≡◌ {A = Result Version EditFault} (Err f) (Err g) = h in cc
  ends_refused None from f (inl e) = no_path e
  ends_refused None from f (inr e) = few_nodes e

  -- an edit that was refused at its look
  pub look_refused : (early : Version → Option EditFault) (o : Option Version) (f : EditFault) → LookBy early o (Err f) → (p : Option EditFault)
      → (o ≡ None → p ≡ Some fault.Version) → ((from : Version) → o ≡ Some from → p ≡ early from) → RefusedBy means keeps p s asked f
  look_refused early None f h p none some =
      let w : ◌≡◌ {A = Result Version EditFault} (Err f) (Err fault.Version) = h in
      let same : f ≡ fault.Version = cc in
      subst (λ x. RefusedBy means keeps x s asked f) (sym (none refl)) same
  look_refused early (Some from) f h p none some = subst (λ x. RefusedBy means keeps x s asked f) (sym (some from refl)) (ends_refused (early from) from f h)

  -- an edit whose row the store refused
  pub store_refused : (c : Cause) → early_refusal s.tables asked ≡ None → RowRefused means keeps s.store asked c → RefusedBy means keeps (early_refusal s.tables asked) s asked (fault.Store c)
  store_refused c e r = subst (λ x. RefusedBy means keeps x s asked (fault.Store c)) (sym e) (no_fit c refl r)

-- what no early refusal says of level and row
pub insert_passed : (full : Bool) (place level len : ℕ) (from : Version) → insert_early full place level len from ≡ None → EarlyPassed level len (leb 500 from.blocks) full
insert_passed full place level len from e = early_passed level len _ _ (passed _ _ _ e).1

pub change_passed : (full : Bool) (place len : ℕ) (from : Version) → change_early full place len from ≡ None → EarlyPassed 0 len false full
change_passed full place len from e = early_passed 0 len _ _ (passed _ _ _ e).1

module _ {R Q S : Type 0} (means : Summing R Q) (keeps : Keeping S R) (t : Tables Q) (store after : S) (asked : Asked R) where
  -- where the base's record is found, and does not refuse, nothing does early
  pub early_none : (early : Version → Option EditFault) (from : Version) → LookBy early (in_use t.versions t.count (asked_base asked)) (Ok from)
      → record_refusal (leb (version_limit t) t.count) asked (Some from) ≡ early from → early_refusal t asked ≡ None
  early_none early from look same =
      let f = look_found early (in_use t.versions t.count (asked_base asked)) from look in
      ap (record_refusal (leb (version_limit t) t.count) asked) f.0 ∙ same ∙ f.1

  -- an edit whose row the store refused
  pub left_unfit : (c : Cause) → early_refusal t asked ≡ None → RowRefused means keeps store asked c → after ≡ store → EditLeft means keeps t store asked (Err (fault.Store c)) t.nodes t.versions after
  left_unfit c none r same = (ap (archive_in t) same, store_refused means keeps (archive_in t store) asked c none r)

  -- an edit that was accepted
  pub edit_done : (from noted : Version) (b : Built) (nodes : List (Node Q)) (versions : List Version) (number : ℕ)
      → in_use t.versions t.count (asked_base asked) ≡ Some from → early_refusal t asked ≡ None → asked_level asked ≤ 15 → AskedSized asked
      → t.count < length t.versions → t.count < 4096 → t.used ≤ node_limit t → b.used ≤ max t.used (capacity t.nodes) → length nodes ≡ length t.nodes → WritesFreeOnly t.nodes t.used nodes b.used
      → versions ≡ set t.versions t.count noted → noted.parent ≡ asked_base asked → noted.edit ≡ asked_kind asked → noted.place ≡ asked_place asked from
      → noted.level ≡ asked_level asked → noted.written ≡ b.used - t.used → noted.block ≡ number → RowPut means keeps store asked number after
      → EditLeft means keeps t store asked (Ok b) nodes versions after
  edit_done from noted b nodes versions number q early flat sized low few fits within size free_only is parent kind place level written block put =
      let more = free_only.more in
      record {
        early = early;
        level = flat;
        row = sized;
        version = refl;
        below = omega arith;
        counted = refl;
        growth = omega arith;
        within = omega arith;
        sized = size;
        free_only = free_only;
        noted = noted;
        recorded = is;
        says = record { from = from; based = q; parent = parent; kind_is = kind; place = place; level = level; written = written };
        put = subst (λ n. RowPut means keeps store asked n after) (sym (ap (λ v. block_at v t.count) is ∙ block_new t.versions t.count noted low ∙ block)) put;
      }

  module _ (from : Version) (b : Built) (nodes : List (Node Q)) (versions : List Version) (low : t.count < length t.versions) (few : t.count < 4096) (fits : t.used ≤ node_limit t)
      (within : b.used ≤ max t.used (capacity t.nodes)) (size : length nodes ≡ length t.nodes) (free_only : WritesFreeOnly t.nodes t.used nodes b.used) where
    pub done_by : (early : Version → Option EditFault) → LookBy early (in_use t.versions t.count (asked_base asked)) (Ok from)
        → record_refusal (leb (version_limit t) t.count) asked (Some from) ≡ early from → (early from ≡ None → (asked_level asked ≤ 15) × AskedSized asked)
        → (noted : Version) (number : ℕ) → versions ≡ set t.versions t.count noted → noted.parent ≡ asked_base asked → noted.edit ≡ asked_kind asked → noted.place ≡ asked_place asked from
        → noted.level ≡ asked_level asked → noted.written ≡ b.used - t.used → noted.block ≡ number → RowPut means keeps store asked number after
        → EditLeft means keeps t store asked (Ok b) nodes versions after
    done_by early look same limits noted number is parent kind place level written block put =
        let f = look_found early (in_use t.versions t.count (asked_base asked)) from look in
        let l = limits f.1 in
        let none = early_none early from look same in
        edit_done from noted b nodes versions number f.0 none l.0 l.1 low few fits within size free_only is parent kind place level written block put
