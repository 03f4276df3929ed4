use Rattle.flexlist.proofs.Values.{shape_values}
use Rattle.flexlist.proofs.shape_values.Goals as goal

pub returns : goal.returns
returns c = shape_values
