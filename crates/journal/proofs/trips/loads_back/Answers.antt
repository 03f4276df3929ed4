use Rattle.journal.specs.Format.{coding}
use Rattle.journal.proofs.TripBack.{loads_back}
use Rattle.journal.proofs.trips.loads_back.Goals as goal

pub returns : goal.returns
returns g c =
    loads_back (coding g.T.Reading.Reading) g.met.T.Reading.Reading.measured g.met.T.Reading.Reading.told g.P.Summary.means g.T.BlockStore g.Q.Summary.means g.S.BlockStore
