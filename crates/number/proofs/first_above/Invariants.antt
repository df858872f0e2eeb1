-- The loop: no number before the i-th is above 65,535.
use Prim.Native.Nat.{◌+◌}
use mathlib.Core.Path.{◌≡◌}
use lib.ListN.{length, drop}
use Rattle.number.specs.NumberList.{first_above}
use Rattle.number.proofs.first_above.Given as goal

abbrev pub invariant-loop-i : goal.invariant-loop-i
invariant-loop-i l = first_above l.numbers ≡ l.i + first_above (drop l.i l.numbers)
