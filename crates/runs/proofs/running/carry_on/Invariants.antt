use Rattle.std.proofs.Common.{◌≡◌, take}
use Rattle.archive.specs.Calling.{archive_of}
use Rattle.runs.specs.Lists.{CarriedOn}
use Rattle.runs.proofs.running.carry_on.Given as goal

abbrev pub invariant-loop-i : goal.invariant-loop-i
invariant-loop-i g l = record {
  carried : CarriedOn g.Q.Summary.means g.S.BlockStore l.readings (take l.i l.calls) (take l.i l.reply-items) (archive_of l.initial.table l.initial.versions l.initial.store) l.initial.out
      (archive_of l.table l.versions l.store) l.out;
  same_slice : l.table.nodes.ghost_name ≡ l.initial.table.nodes.ghost_name;
}
