-- The loop looks at the links in turn: the paths of those of the cells before i end where they should (`Passing`).
use Rattle.lists.proofs.Lowest.{Passing}
use Rattle.shape.specs.Shape.{Shape}
use Rattle.cover.specs.Test.{link_meets}
use Rattle.coverreader.specs.Images.{images_in}
use Rattle.covering.specs.Marks.{Linking}
use Rattle.covering.proofs.rules.link_misses.Given as goal

abbrev pub invariant-loop-i : goal.invariant-loop-i
invariant-loop-i l =
    (member covered : Shape) → Linking member covered l.cert l.first l.count l.images l.marks l.s
    → Passing (link_meets member covered (images_in l.count l.images)) l.count l.i
