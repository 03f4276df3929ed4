use Rattle.std.proofs.Common.{ap, ◌∙◌}
use Rattle.archive.specs.Calling.{archive_of}
use Rattle.bench_calls.specs.Digests.{mixed, counts_mixed}
use Rattle.bench_calls.proofs.tables.timed_over.Goals as goal

pub returns : goal.returns
returns g c =
    let went = c.carry_rounds-sum in
    record {
      answer = c.load-table.result.answer;
      archive = archive_of c.load-table.result.table c.load-table.new.versions c.load-table.new.store;
      area_after = c.load-table.new.area;
      loaded = c.load-table.ensures.loaded;
      sum = went.result;
      end = archive_of went.new.table went.new.versions went.new.store;
      out_after = went.new.out;
      went = went.ensures.told;
      tells = c.counts_mixed.ensures ∙ ap (λ s. counts_mixed s went.new.out) (c.mixed.ensures ∙ ap (mixed went.result) c.load_number.ensures);
    }
