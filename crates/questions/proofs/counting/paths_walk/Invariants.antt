use Rattle.questions.specs.Paths.{PathsCounted, PathsFirst}
use Rattle.questions.proofs.Ways.{Came}
use Rattle.questions.proofs.counting.paths_walk.Given as goal

abbrev pub invariant-loop-shape : goal.invariant-loop-shape
invariant-loop-shape g l =
    Came (PathsCounted g.Q.Summary.means l.nodes l.at l.upto) (PathsCounted g.Q.Summary.means l.nodes l.here l.rest) l.count
    × Came (PathsFirst g.Q.Summary.means l.nodes l.at l.upto) (PathsFirst g.Q.Summary.means l.nodes l.here l.rest) l.count

abbrev pub decreases-loop-shape : goal.decreases-loop-shape
decreases-loop-shape g l = l.here
