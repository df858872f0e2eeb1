-- The rows of equal of the two, and their own bits.
use mathlib.Core.Path.{refl}
use Rattle.factrows.specs.Rows.{class_of}
use Rattle.factrows.proofs.class_of.Goals as goal

pub returns : goal.returns
unfolding class_of
returns c = rw (c.bit.ensures, c.bit-2.ensures) refl
