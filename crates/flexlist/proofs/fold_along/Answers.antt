use Rattle.flexlist.proofs.Folding.{folding}
use Rattle.flexlist.proofs.fold_along.Goals as goal

pub returns : goal.returns
returns g c = folding _
