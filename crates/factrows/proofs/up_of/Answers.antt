-- The two rows of the cell.
use mathlib.Core.Path.{refl}
use Rattle.factrows.specs.Rows.{up_of}
use Rattle.factrows.proofs.up_of.Goals as goal

pub returns : goal.returns
unfolding up_of
returns c = refl
