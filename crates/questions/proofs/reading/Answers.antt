use Rattle.questions.proofs.Ends.{read_past}
use Rattle.questions.proofs.Stored.{read_lost, read_some}
use Rattle.questions.proofs.reading.Goals as goal

pub returns-then-readings_in-position-clause-read : goal.returns-then-readings_in-position-clause-read
returns-then-readings_in-position-clause-read g c = read_past g.Q.Summary.means (g.S.BlockStore.rows c.args.store.now) c.args.nodes.now c.args.at c.args.position (rw (← c.readings_in.ensures) c.if-readings_in-position.true)

pub returns-in_err-reading-clause-read : goal.returns-in_err-reading-clause-read
returns-in_err-reading-clause-read g c = rw c.from_residual-in_err-reading.ensures (read_lost _ _ _ _ _ _ c.in_ok-found.ensures c.in_err-reading.ensures)

pub returns-clause-read : goal.returns-clause-read
returns-clause-read g c = read_some _ _ _ _ _ _ _ c.in_ok-found.ensures c.in_ok-reading.ensures
