use Rattle.flexlist.proofs.Places.{places}
use Rattle.flexlist.proofs.places_and_paths.Goals as goal

pub returns : goal.returns
returns c = places
