use Rattle.survey.proofs.OneText.{one_text}
use Rattle.survey.proofs.laws.one_text.Goals as goal

pub returns : goal.returns
returns c = one_text
