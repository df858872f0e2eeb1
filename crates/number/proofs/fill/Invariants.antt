-- The loop: the numbers before the i-th are written, what is after them is as before, and there is room for the rest.
use Rattle.number.proofs.Writing.{Filling}
use Rattle.number.proofs.fill.Given as goal

abbrev pub invariant-loop-number : goal.invariant-loop-number
invariant-loop-number l = Filling l.numbers l.initial.bytes l.bytes l.at l.number-index
