use Rattle.questions.specs.Paths.{PathCounted}
use Rattle.questions.proofs.Ways.{Came}
use Rattle.questions.proofs.counting.path_walk.Given as goal

abbrev pub invariant-loop-shape : goal.invariant-loop-shape
invariant-loop-shape g l = Came (PathCounted g.Q.Summary.means l.nodes l.at l.upto) (PathCounted g.Q.Summary.means l.nodes l.here l.rest) l.count

abbrev pub decreases-loop-shape : goal.decreases-loop-shape
decreases-loop-shape g l = l.here
