-- The loop: whether there is a place just where one is wanted, so far, with what is left to test, decides.
use Prim.Native.Nat.{◌-◌}
use mathlib.Core.Bool.{◌&&◌}
use mathlib.Core.Path.{◌≡◌}
use Rattle.lists.specs.Test.{all_from}
use Rattle.stepper.proofs.Fits.{slot_marked}
use Rattle.stepper.proofs.Heap64.slots_fit.Given as goal

abbrev pub invariant-loop-i : goal.invariant-loop-i
invariant-loop-i l = l.marked && all_from (8 - l.i) l.i (slot_marked l.self) ≡ all_from 8 0 (slot_marked l.self)
