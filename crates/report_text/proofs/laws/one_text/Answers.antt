use Rattle.report_text.proofs.OneText.{one_text}
use Rattle.report_text.proofs.laws.one_text.Goals as goal

pub returns : goal.returns
returns c = one_text
