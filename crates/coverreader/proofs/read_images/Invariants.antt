-- The loop reads the images in turn: those before i are in the array (`Reading`).
use Rattle.coverreader.proofs.ReadImages.{Reading}
use Rattle.coverreader.proofs.read_images.Given as goal

abbrev pub invariant-loop-i : goal.invariant-loop-i
invariant-loop-i l = Reading l.cert l.first l.n l.count l.images l.at l.i
