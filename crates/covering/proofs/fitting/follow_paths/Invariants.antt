-- The loop follows the paths of the links in turn: those of the cells before i fit, are marked, and their links are counted (`Fitting`).
use Rattle.shape.specs.Shape.{Shape}
use Rattle.covering.specs.Marks.{Linking}
use Rattle.covering.proofs.Links.{Fitting}
use Rattle.covering.proofs.fitting.follow_paths.Given as goal

abbrev pub invariant-loop-i : goal.invariant-loop-i
invariant-loop-i l =
    (member covered : Shape) (k : Linking member covered l.cert l.first l.count l.images l.initial.marks l.s)
    → Fitting member covered l.cert l.first l.count l.images l.initial.marks l.s k l.marks l.i l.links
