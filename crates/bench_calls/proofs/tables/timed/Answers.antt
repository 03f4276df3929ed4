use Rattle.std.proofs.Common.{refl}
use Rattle.bench_calls.proofs.Tabled.{tabled}
use Rattle.bench_calls.proofs.tables.timed.Goals as goal

pub returns : goal.returns
returns c =
    tabled _ _ _ _ _ c.new.result c.args.journal.now c.args.calls.now c.args.rounds c.timed_over.result refl refl refl refl refl c.new.ensures.empty c.timed_over.ensures
