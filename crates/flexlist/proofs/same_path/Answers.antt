use Rattle.flexlist.proofs.Paths.{same_path}
use Rattle.flexlist.proofs.same_path.Goals as goal

pub returns : goal.returns
returns c = same_path
