use Rattle.std.proofs.Common.{◌≡◌, ◌-◌, length}
use Rattle.archive.specs.Calling.{archive_of}
use Rattle.journal.specs.Format.{coding}
use Rattle.journal.proofs.LoadAll.{SoFar}
use Rattle.journal.proofs.loading.taking.take_in_all.Given as goal

abbrev pub invariant-loop-at : goal.invariant-loop-at
invariant-loop-at g l =
    SoFar g.Q.Summary.means g.S.BlockStore (coding g.S.Reading.Reading)
    (archive_of l.initial.table l.initial.versions l.initial.store) (archive_of l.table l.versions l.store) l.initial.area l.area l.bytes l.at
    × (l.table.nodes.ghost_name ≡ l.initial.table.nodes.ghost_name)

abbrev pub decreases-loop-at : goal.decreases-loop-at
decreases-loop-at g l = length l.bytes - l.at
