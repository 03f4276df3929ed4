use Rattle.flexlist.proofs.Bounds.{insert_bound}
use Rattle.flexlist.proofs.insert_bound.Goals as goal

pub returns : goal.returns
returns c = insert_bound
