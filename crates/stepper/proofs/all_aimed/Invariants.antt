-- The loop: every place before the index passes the test.
use Prim.Native.Nat.{◌-◌}
use mathlib.Core.Path.{◌≡◌}
use lib.ListN.{length}
use Rattle.lists.specs.Test.{all_from}
use Rattle.stepper.specs.Table.{aimed_at}
use Rattle.stepper.proofs.all_aimed.Given as goal

abbrev pub invariant-loop-p : goal.invariant-loop-p
invariant-loop-p l = all_from (length l.places - l.p-index) l.p-index (aimed_at l.used l.places) ≡ all_from (length l.places) 0 (aimed_at l.used l.places)
