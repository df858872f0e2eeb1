-- By the place: one that the array has, or one that the member lacks.
use mathlib.Core.Path.{sym}
use native.Mathlib.Omega.{arith}
use Rattle.covering.proofs.Images.{image_read, image_past}
use Rattle.covering.proofs.fitting.image_of.Goals as goal

pub returns-then-p-lt15 : goal.returns-then-p-lt15
returns-then-p-lt15 c = let a = c.args in sym (image_read a.images.now a.p (omega arith))

pub returns : goal.returns
returns c = let a = c.args in sym (image_past a.images.now a.p (omega arith))
