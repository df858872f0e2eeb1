-- The loop looks at the cells in turn: no other cell has the image of one before i (`Passing`).
use Rattle.lists.proofs.Lowest.{Passing}
use Rattle.coverreader.specs.Images.{images_in}
use Rattle.covering.specs.Images.{once_at}
use Rattle.covering.proofs.rules.image_twice.Given as goal

abbrev pub invariant-loop-i : goal.invariant-loop-i
invariant-loop-i l = Passing (once_at (images_in l.count l.images)) l.count l.i
