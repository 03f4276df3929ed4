use Rattle.sharing.proofs.Depth.{piled}
use Rattle.sharing.proofs.piles.pile_meaning.Goals as goal

pub returns : goal.returns
returns g c = piled g.S.BlockStore.rows g.S.BlockStore.refuses g.S.BlockStore.puts g.S.BlockStore.area_long
