-- The loop: the last digits are written. Where it ends, the last one left is the first digit.
use native.Mathlib.Omega.{arith}
use Rattle.putting.proofs.Decimal.{more_room, writing_more, writing_last}
use Rattle.putting.proofs.put_number.Goals as goal

pub overflow_sub-first : goal.overflow_sub-first
overflow_sub-first c = more_room _ _ _ _ c.loop-left.invariant (omega arith) (omega arith)

pub loop-left-preserved : goal.loop-left-preserved
loop-left-preserved c = let w = c.loop-left.invariant in writing_more _ _ _ _ w (more_room _ _ _ _ w (omega arith) (omega arith)) (omega arith)

pub returns : goal.returns
returns c = rw (writing_last _ _ _ _ c.loop-left.invariant (omega arith)) at c.put_all.ensures
