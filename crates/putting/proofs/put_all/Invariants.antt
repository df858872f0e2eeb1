-- No room, or the loop: the bytes before the i-th stand in the output, what is after them as before.
use Rattle.putting.proofs.Putting.{Copying}
use Rattle.putting.proofs.put_all.Given as goal

abbrev pub invariant-loop-i : goal.invariant-loop-i
invariant-loop-i l = Copying l.initial.bytes l.copied l.at l.bytes l.i
