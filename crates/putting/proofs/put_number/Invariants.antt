-- The loop: the last digits are written. Where it ends, the last one left is the first digit.
use Rattle.putting.proofs.Decimal.{Writing}
use Rattle.putting.proofs.put_number.Given as goal

abbrev pub invariant-loop-left : goal.invariant-loop-left
invariant-loop-left l = Writing l.n l.written l.first l.left

abbrev pub decreases-loop-left : goal.decreases-loop-left
decreases-loop-left l = l.left
