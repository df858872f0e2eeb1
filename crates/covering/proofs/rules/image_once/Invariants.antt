-- The loop compares the image of cell i with the others in turn: those before j differ (`Differing`).
use Prim.Native.Nat.{◌<◌}
use Rattle.coverreader.specs.Images.{ImageCodes}
use Rattle.covering.proofs.Twice.{Differing}
use Rattle.covering.proofs.rules.image_once.Given as goal

abbrev pub invariant-loop-j : goal.invariant-loop-j
invariant-loop-j l = (m : ImageCodes l.count 25 l.images) (b : l.i < l.count) → Differing l.count l.images m l.i b l.j
