use Rattle.archive.proofs.Holding.{nodes_hold}
use Rattle.archive.proofs.steps.nodes_hold.Goals as goal

pub returns : goal.returns
returns g c = nodes_hold g.Q.Summary.means g.met.Q.Summary.lawful
