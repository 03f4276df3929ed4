use Rattle.journal.specs.Format.{coding}
use Rattle.journal.proofs.TripHistory.{comes_back}
use Rattle.journal.proofs.trips.comes_back.Goals as goal

pub returns : goal.returns
returns g c = comes_back g.Q.Summary.means g.S.BlockStore (coding g.S.Reading.Reading)
