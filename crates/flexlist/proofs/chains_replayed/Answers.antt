use Rattle.flexlist.proofs.Chains.{chains_replayed}
use Rattle.flexlist.proofs.chains_replayed.Goals as goal

pub returns : goal.returns
returns g c = chains_replayed
