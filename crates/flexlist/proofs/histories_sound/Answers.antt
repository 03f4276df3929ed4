use Rattle.flexlist.proofs.Sound.{histories_sound}
use Rattle.flexlist.proofs.histories_sound.Goals as goal

pub returns : goal.returns
returns g c = histories_sound
