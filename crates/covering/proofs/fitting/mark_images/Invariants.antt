-- The loop marks the images in turn: those before i are marked, and it is known whether they differ (`Marked`).
use lib.ListN.{take}
use Rattle.coverreader.specs.Images.{images_in}
use Rattle.covering.proofs.Marking.{Marked}
use Rattle.covering.proofs.fitting.mark_images.Given as goal

abbrev pub invariant-loop-i : goal.invariant-loop-i
invariant-loop-i l = Marked (take l.i (images_in l.count l.images)) l.marks l.apart
