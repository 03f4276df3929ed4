use Rattle.std.proofs.Common.{Some, string_bytes, sym, refl}
use Rattle.archive.specs.Calling.{archive_of}
use Rattle.std.proofs.lemmas.Result.{on_ok_weaker}
use Rattle.store.proofs.Cutting.{item_nth}
use Rattle.report_text.proofs.Told.{line_there}
use Rattle.report_text.proofs.lines.version_line.Goals as goal

pub returns : goal.returns
returns g c =
    let s = archive_of c.args.table.now c.args.versions.now c.args.store.now in
    let record_there = c.in-Some.field-0.now in
    on_ok_weaker c.write.result
    (line_there g.S.BlockStore s c.args.v record_there c.peak_of.result.highest (string_bytes c.args.text.now) (string_bytes c.write.new.self)
    (sym (item_nth c.args.versions.now c.args.v (Some c.in-Some.field-0) (Some record_there) c.in-Some.ensures.lookup refl)) c.peak_of.ensures) c.write.ensures.bytes
