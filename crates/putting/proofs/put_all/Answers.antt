-- No room, or the loop: the bytes before the i-th stand in the output, what is after them as before.
use native.Mathlib.Omega.{arith}
use Rattle.putting.proofs.Putting.{no_room, had_room, copy_none, copy_more, copy_all}
use Rattle.putting.proofs.put_all.Goals as goal

pub returns-then-bytes-at : goal.returns-then-bytes-at
returns-then-bytes-at c = no_room (omega arith)

pub returns-then-bytes-at-2 : goal.returns-then-bytes-at-2
returns-then-bytes-at-2 c = no_room (omega arith)

pub loop-i-init : goal.loop-i-init
loop-i-init c = copy_none _ _ _

pub loop-i-preserved : goal.loop-i-preserved
loop-i-preserved c = copy_more _ _ _ (omega arith) _ _ c.loop-i.invariant (omega arith)

pub returns : goal.returns
returns c = had_room (copy_all _ _ _ (omega arith) _ _ c.loop-i.invariant (omega arith))
