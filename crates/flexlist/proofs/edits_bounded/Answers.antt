use Rattle.flexlist.proofs.EditBounds.{edits_bounded}
use Rattle.flexlist.proofs.edits_bounded.Goals as goal

pub returns : goal.returns
returns g c = edits_bounded
