-- The rows of below of the two.
use mathlib.Core.Path.{refl}
use Rattle.factrows.specs.Rows.{over_of}
use Rattle.factrows.proofs.over_of.Goals as goal

pub returns : goal.returns
unfolding over_of
returns c = refl
