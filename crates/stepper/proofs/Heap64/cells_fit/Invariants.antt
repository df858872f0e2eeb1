-- The loop: whether there is a place just where one is wanted, so far, with what is left to test, decides.
use Prim.Native.Nat.{◌-◌}
use mathlib.Core.Bool.{◌&&◌}
use mathlib.Core.Path.{◌≡◌}
use Rattle.lists.specs.Test.{all_from}
use Rattle.stepper.proofs.Fits.{cell_marked}
use Rattle.stepper.proofs.Heap64.cells_fit.Given as goal

abbrev pub invariant-loop-i : goal.invariant-loop-i
invariant-loop-i l = l.marked && all_from (64 - l.i) l.i (cell_marked l.self) ≡ all_from 64 0 (cell_marked l.self)
