-- The loop: the divisor stays the same, and the second number falls.
use mathlib.Core.Path.{◌∙◌}
use native.Mathlib.Omega.{arith}
use Rattle.sheet.proofs.Divisors.{gcd_none, gcd_turn}
use Rattle.sheet.proofs.greatest.Goals as goal

pub loop-y-preserved : goal.loop-y-preserved
loop-y-preserved c = gcd_turn _ _ ∙ c.loop-y.invariant

pub returns : goal.returns
returns c = gcd_none _ _ (omega arith) ∙ c.loop-y.invariant
