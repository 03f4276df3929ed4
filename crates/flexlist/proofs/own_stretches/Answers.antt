use Rattle.flexlist.proofs.Paths.{own_stretches}
use Rattle.flexlist.proofs.own_stretches.Goals as goal

pub returns : goal.returns
returns c = own_stretches
