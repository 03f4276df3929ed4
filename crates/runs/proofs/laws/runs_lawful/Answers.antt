use Rattle.runs.proofs.Lawful.{runs_lawful}
use Rattle.runs.proofs.laws.runs_lawful.Goals as goal

pub returns : goal.returns
returns g c = runs_lawful g.Q.Summary.means g.S.BlockStore
