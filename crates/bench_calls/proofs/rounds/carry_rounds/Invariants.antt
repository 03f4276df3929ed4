use Rattle.std.proofs.Common.{◌≡◌, length}
use Rattle.archive.specs.Calling.{archive_of}
use Rattle.bench_calls.specs.Timed.{Rounds}
use Rattle.bench_calls.proofs.rounds.carry_rounds.Given as goal

abbrev pub invariant-loop : goal.invariant-loop
invariant-loop g l = record {
  told : Rounds g.S.BlockStore l.readings l.calls (archive_of l.initial.table l.initial.versions l.initial.store) l.initial.out l.counter l.sum (archive_of l.table l.versions l.store) l.out;
  long : length l.replies ≡ length l.calls;
  same_slice : l.table.nodes.ghost_name ≡ l.initial.table.nodes.ghost_name;
}
