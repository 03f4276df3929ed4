use Rattle.std.proofs.Common.{sym, subst}
use Rattle.archive.specs.Calling.{archive_of}
use Rattle.report_text.specs.Report.{TopTold}
use Rattle.report_text.proofs.Told.{top_there}
use Rattle.report_text.proofs.lines.peak_of.Goals as goal

pub returns : goal.returns
returns g c =
    let s = archive_of c.args.table.now c.args.versions.now c.args.store.now in
    subst (λ p. TopTold g.S.BlockStore s c.args.v c.args.readings p.highest) (sym c.unwrap_or.ensures)
    (top_there g.S.BlockStore s c.args.v c.args.readings c.summary.result c.nothing.result c.summary.ensures.law)
