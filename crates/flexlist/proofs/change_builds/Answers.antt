use Rattle.flexlist.proofs.Exact.{change_builds}
use Rattle.flexlist.proofs.change_builds.Goals as goal

pub returns : goal.returns
returns c = change_builds
