-- What is wanted of the operand placed first, by the places in the array.
use Rattle.checker.proofs.wanted.wanted_of_first.Goals as goal

pub returns : goal.returns
returns c = rw (← c.place_of-x.ensures, ← c.place_of-y.ensures) c.wanted_first.ensures
