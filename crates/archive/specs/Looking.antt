-- What a call learns of its base before it changes anything. Assumes nothing.
use Rattle.std.specs.Prelude.{◌≡◌, ◌⊎◌, ℕ, cond, List, Some, None, Ok, Err, Option, Result, nat_le}
use Rattle.std.specs.List.{slice_get}
use Rattle.summary.specs.Summing.{Summing}
use Rattle.flexlist.specs.Edits.{Edit}
use Rattle.archive.specs.declared.version.Version.{Version}
use Rattle.archive.specs.declared.fault.EditFault.{EditFault}
use Rattle.archive.specs.declared.fault.EditFault.TheVariants as fault
use Rattle.archive.specs.Stands.{Tables, TablesStand}

-- the record of a version in use
abbrev pub in_use : List Version → ℕ → ℕ → Option Version
in_use versions count v = cond (nat_le count v) None (slice_get versions v)

-- the first refusal, or, where there is none, the base's record
abbrev pub RefusedOr : Option EditFault → Option Version → Result Version EditFault → Type 0
RefusedOr (Some f) v r = r ≡ Err f
RefusedOr None (Some v) r = r ≡ Ok v
RefusedOr None None r = ⊥

-- a look at tables that stand for some edits answers the replay's refusal or the base's record
abbrev pub Looked : {R Q : Type 0} → Summing R Q → Tables Q → (Tables Q → List (Edit R) → Option EditFault) → ℕ → Result Version EditFault → Type 0
Looked {R} means s refusal base r = (es : List (Edit R)) → TablesStand means es s → RefusedOr (refusal s es) (slice_get s.versions base) r

-- What a look answers whatever the tables hold: the version where the base is not in use; the refusal that its record decides, if any; else the record, or
-- that there is no path to the place or too few nodes are free.
abbrev pub LookEnds : Option EditFault → Version → Result Version EditFault → Type 0
LookEnds (Some g) from r = r ≡ Err g
LookEnds None from (Ok v) = v ≡ from
LookEnds None from (Err f) = (f ≡ fault.Version) ⊎ (f ≡ fault.Nodes)

abbrev pub LookBy : (Version → Option EditFault) → Option Version → Result Version EditFault → Type 0
LookBy early None r = r ≡ Err fault.Version
LookBy early (Some from) r = LookEnds (early from) from r
