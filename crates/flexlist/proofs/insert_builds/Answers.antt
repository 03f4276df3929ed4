use Rattle.flexlist.proofs.Exact.{insert_builds}
use Rattle.flexlist.proofs.insert_builds.Goals as goal

pub returns : goal.returns
returns c = insert_builds
