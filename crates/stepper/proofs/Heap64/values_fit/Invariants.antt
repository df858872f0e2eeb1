-- The loop: whether the codes so far fit, with what is left to test, decides.
use Prim.Native.Nat.{◌-◌}
use mathlib.Core.Bool.{◌&&◌}
use mathlib.Core.Path.{◌≡◌}
use Rattle.lists.specs.Test.{all_from}
use Rattle.stepper.specs.Table.{value_fits}
use Rattle.stepper.proofs.Heap64.values_fit.Given as goal

abbrev pub invariant-loop-i : goal.invariant-loop-i
invariant-loop-i l = l.fits && all_from (64 - l.i) l.i (value_fits l.self) ≡ all_from 64 0 (value_fits l.self)
