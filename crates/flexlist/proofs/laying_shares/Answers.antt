use Rattle.flexlist.proofs.Laying.{laying_shares}
use Rattle.flexlist.proofs.laying_shares.Goals as goal

pub returns : goal.returns
returns c = laying_shares
