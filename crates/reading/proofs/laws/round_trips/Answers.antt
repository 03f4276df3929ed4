use Rattle.reading.proofs.Trips.{trips}
use Rattle.reading.proofs.laws.round_trips.Goals as goal

pub returns : goal.returns
returns g c = trips g.R.Reading.bytes g.met.R.Reading.told
