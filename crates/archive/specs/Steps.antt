-- What an accepted edit owes, so that the tables stand for one edit more. Assumes nothing.
use Rattle.std.specs.Prelude.{◌≡◌, ℕ, suc, ◌+◌, ◌<◌, ◌≤◌, List, ◌∷◌, length, Some}
use Rattle.std.specs.List.{slice_get, AllByRecursion}
use Rattle.summary.specs.Summing.{Summing}
use Rattle.flexlist.specs.Shape.{FlexList}
use Rattle.flexlist.specs.Laid.{Laid, plain, root}
use Rattle.flexlist.specs.Shared.{Shared}
use Rattle.flexlist.specs.Edits.{Edit, base_of, blocks_of, content_of}
use Rattle.flexlist.specs.Replay.{written_by, next_list}
use Rattle.nodes.specs.Holding.{Holds, WritesFreeOnly}
use Rattle.archive.specs.Records.{edit_record}
use Rattle.archive.specs.Stands.{Tables, node_limit, version_limit, WithinLimits, TablesStand}

module _ {R Q : Type 0} (means : Summing R Q) where
  -- what an accepted edit e has made of the state s, where b is its base's tree and t the new one
  pub record MadeNext (es : List (Edit R)) (s : Tables Q) (e : Edit R) (b t : Laid) (next : Tables Q) : Type 0 where
    pub base : base_of e < s.count
    pub shaped : FlexList 0 (blocks_of (next_list es e)) (plain t)
    pub shared : Shared b t s.used (s.used + written_by es e)
    pub holds : Holds means (content_of (e ∷ es)) next.nodes t
    pub free_only : WritesFreeOnly s.nodes s.used next.nodes next.used
    pub used_up : next.used ≡ s.used + written_by es e
    pub counted : next.count ≡ suc s.count
    pub nodes_fit : next.used ≤ node_limit next
    pub versions_fit : next.count ≤ version_limit next
    pub versions_kept : (k : ℕ) → k < s.count → slice_get next.versions k ≡ slice_get s.versions k
    pub version_new : slice_get next.versions s.count ≡ Some (edit_record es e (next_list es e) (root t))
    pub in_limits : AllByRecursion WithinLimits (next_list es e)
    pub few : length (next_list es e) ≤ 500

  -- Tables that stand for some edits, and of which an accepted edit made what it owes, stand for these edits and that one.
  abbrev pub StepsStand : Type 0
  StepsStand =
      (es : List (Edit R)) (s : Tables Q) (e : Edit R) (b t : Laid) (next : Tables Q) → (st : TablesStand means es s) → slice_get st.trees (base_of e) ≡ Some b →
      MadeNext es s e b t next → TablesStand means (e ∷ es) next
