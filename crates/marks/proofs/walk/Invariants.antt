-- The loop walks: it has come to p by so many links, with turns left for every free place (`Going`).
use Rattle.marks.proofs.Walks.{frees, Going}
use Rattle.marks.proofs.walk.Given as goal

abbrev pub invariant-loop-marks : goal.invariant-loop-marks
invariant-loop-marks l = Going l.s l.initial.marks l.first l.marks l.p l.links

abbrev pub decreases-loop-marks : goal.decreases-loop-marks
decreases-loop-marks l = frees l.marks
