use Rattle.flexlist.proofs.Exact.{removal_builds}
use Rattle.flexlist.proofs.removal_builds.Goals as goal

pub returns : goal.returns
returns c = removal_builds
