use Rattle.flexlist.proofs.Exact.{change_bound}
use Rattle.flexlist.proofs.change_bound.Goals as goal

pub returns : goal.returns
returns c = change_bound
