use Rattle.std.proofs.Common.{string_bytes, refl}
use Rattle.std.proofs.lemmas.Result.{IfOk-weaker}
use Rattle.report_text.specs.Report.{ReportedFirst}
use Rattle.report_text.proofs.Told.{first_reported}
use Rattle.report_text.proofs.tables.report_first.Goals as goal

pub returns : goal.returns
returns c =
    IfOk-weaker c.report_over.result _ (λ s. ReportedFirst c.args.most c.args.bytes.now (string_bytes s))
    (λ s o. first_reported c.args.most c.min-few.result c.args.bytes.now _ _ _ _ c.new.result (string_bytes s) refl refl refl refl c.new.ensures.empty c.min-few.ensures o)
    c.report_over.ensures
