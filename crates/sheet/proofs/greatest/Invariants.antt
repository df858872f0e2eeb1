-- The loop: the divisor stays the same, and the second number falls.
use mathlib.Core.Path.{◌≡◌}
use Rattle.sheet.specs.Lowest.{gcd}
use Rattle.sheet.proofs.greatest.Given as goal

abbrev pub invariant-loop-y : goal.invariant-loop-y
invariant-loop-y l = gcd l.x l.y ≡ gcd l.a l.b

abbrev pub decreases-loop-y : goal.decreases-loop-y
decreases-loop-y l = l.y
