-- The loop fills the table of the marks.
use mathlib.Core.Bool.{false}
use Prim.Native.Nat.{◌+◌}
use lib.Dec.{eqb}
use lib.ListN.{get_or}
use Rattle.lists.proofs.Range.{Filled}
use Rattle.heapcodec.proofs.marks_from.Given as goal

abbrev pub invariant-loop-i : goal.invariant-loop-i
invariant-loop-i l = Filled (λ j. eqb (get_or l.bytes (9 + j) 0) 1) false 64 l.mark-items l.i
