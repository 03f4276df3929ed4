use Rattle.questions.proofs.Ends.{path_further, path_within}
use Rattle.questions.proofs.path.Goals as goal

pub returns-then-root-upto-clause-counted : goal.returns-then-root-upto-clause-counted
returns-then-root-upto-clause-counted g c = path_further g.Q.Summary.means c.args.nodes.now c.args.at c.args.upto (rw (← c.entry.ensures, c.in_ok-root.was) c.if-root-upto.true)

pub returns-clause-absent : goal.returns-clause-absent
returns-clause-absent g c = path_within g.Q.Summary.means c.args.nodes.now c.args.at c.args.upto _ (rw (← c.entry.ensures, c.in_ok-root.was) c.if-root-upto.false)
