use Rattle.std.proofs.Common.{ℕ, drop, Option}
use Rattle.sharing.specs.Remembering.{First, remembered}
use Rattle.sharing.proofs.sharing.layer.find.Given as goal

abbrev pub invariant-loop-age : goal.invariant-loop-age
invariant-loop-age g l = (r : Option ℕ) → First (g.S.BlockStore.rows l.store) l.row (drop l.age (remembered l.recent)) r → First (g.S.BlockStore.rows l.store) l.row (remembered l.recent) r
