-- The shifted row is odd.
use mathlib.Core.Path.{refl}
use Rattle.factrows.specs.Rows.{digit}
use Rattle.factrows.proofs.is_on.Goals as goal

pub returns : goal.returns
unfolding digit
returns c = refl
