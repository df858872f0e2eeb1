-- A number too large, too little room, or the list filled: each is the answer and the output of the definition.
use mathlib.Core.Path.{refl}
use native.Mathlib.Omega.{arith}
use lib.ListN.{length}
use Rattle.number.specs.NumberList.{output}
use Rattle.number.proofs.Writing.{above_most, answer_large, answer_short, answer_filled}
use Rattle.number.proofs.write_numbers.Goals as goal

pub returns-then-above-numbers : goal.returns-then-above-numbers
unfolding output
returns-then-above-numbers c =
    let a = c.args in
    rw c.first_above-above.ensures (answer_large a.numbers.now (length a.bytes.now) (omega arith), refl)

pub returns-then-bytes-needed : goal.returns-then-bytes-needed
unfolding output
returns-then-bytes-needed c =
    let a = c.args in
    rw c.room_needed-needed.ensures (answer_short a.numbers.now (length a.bytes.now) (omega arith) (omega arith), refl)

pub fill-requires : goal.fill-requires
fill-requires c = omega (arith, above_most c.args.numbers.now)

pub returns : goal.returns
unfolding output
returns c =
    let a = c.args in
    rw c.room_needed-needed.ensures
    (answer_filled a.numbers.now (length a.bytes.now) (omega arith) (omega arith), c.fill.ensures)
