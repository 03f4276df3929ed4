use Rattle.archive.proofs.Next.{steps_stand}
use Rattle.archive.proofs.steps.steps_stand.Goals as goal

pub returns : goal.returns
returns g c = steps_stand g.Q.Summary.means
