use Rattle.questions.proofs.Finds.{CameTo}
use Rattle.questions.proofs.finding.find.Given as goal

abbrev pub invariant-loop-shape : goal.invariant-loop-shape
invariant-loop-shape g l = CameTo g.Q.Summary.means l.nodes l.at l.position l.here l.place l.path

abbrev pub decreases-loop-shape : goal.decreases-loop-shape
decreases-loop-shape g l = l.here
