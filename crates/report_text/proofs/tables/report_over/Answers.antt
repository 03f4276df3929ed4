use Rattle.std.proofs.Common.{string_bytes}
use Rattle.archive.specs.Calling.{archive_of}
use Rattle.report_text.proofs.Told.{all_shown}
use Rattle.report_text.proofs.tables.report_over.Goals as goal

pub returns : goal.returns
returns g c =
    let s = archive_of c.load-table.result.table c.load-table.new.versions c.load-table.new.store in
    record {
      answer = c.load-table.result.answer;
      archive = s;
      area_after = c.load-table.new.area;
      loaded = c.load-table.ensures.loaded;
      shown =
          all_shown g.S.BlockStore s (string_bytes c.in_ok-text.text) (string_bytes c.version_lines.new.text) (string_bytes c.fault_line.new.text)
          c.load-table.result.answer c.in_ok-text.ensures.ok c.in_ok-version_lines.ensures c.in_ok-fault_line.ensures;
    }
