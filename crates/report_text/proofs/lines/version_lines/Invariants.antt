use Rattle.std.proofs.Common.{string_bytes}
use Rattle.archive.specs.Calling.{archive_of}
use Rattle.report_text.specs.Report.{LinesTold}
use Rattle.report_text.proofs.lines.version_lines.Given as goal

abbrev pub invariant-loop-v : goal.invariant-loop-v
invariant-loop-v g l = LinesTold g.S.BlockStore (archive_of l.table l.versions l.store) l.v (string_bytes l.initial.text) (string_bytes l.text)
