use Rattle.flexlist.proofs.Shape.{exactly_one}
use Rattle.flexlist.proofs.exactly_one.Goals as goal

pub returns : goal.returns
returns c = exactly_one
