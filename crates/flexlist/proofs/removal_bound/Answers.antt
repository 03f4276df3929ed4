use Rattle.flexlist.proofs.Bounds.{removal_bound}
use Rattle.flexlist.proofs.removal_bound.Goals as goal

pub returns : goal.returns
returns c = removal_bound
