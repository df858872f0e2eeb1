-- The bit is put on, then turned.
use mathlib.Core.Path.{refl}
use Rattle.factrows.specs.Rows.{off_row}
use Rattle.factrows.proofs.off.Goals as goal

pub returns : goal.returns
unfolding off_row
returns c = rw c.bit-b.ensures refl
