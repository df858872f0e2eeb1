-- Too few numbers, or a full tally, or the tally after the verdict as numbers.
use mathlib.Core.Path.{◌∙◌, sym}
use native.Mathlib.Omega.{arith}
use Rattle.tally.proofs.Numbers.{too_few, full_told, taken_told}
use Rattle.verdict.specs.Verdict.{verdict_of}
use Rattle.tally.proofs.take_in_numbers.Goals as goal

pub returns-then-numbers-lt-NUMBERS : goal.returns-then-numbers-lt-NUMBERS
returns-then-numbers-lt-NUMBERS c =
    let told = too_few (verdict_of c.args.v) c.args.numbers.now (omega arith) in
    record { taken = told.0; numbers = told.1 }

pub returns-in-None : goal.returns-in-None
returns-in-None c =
    let told = full_told (verdict_of c.args.v) c.args.numbers.now (omega arith) (rw (← c.tally_from.ensures) (sym c.in-None.ensures)) in
    record { taken = told.0; numbers = told.1 }

pub returns-in-Some : goal.returns-in-Some
returns-in-Some c =
    let told = taken_told (verdict_of c.args.v) c.args.numbers.now (omega arith) c.in-Some.tally (rw (← c.tally_from.ensures) (sym c.in-Some.ensures)) in
    record { taken = told.0; numbers = c.put_tally.ensures ∙ told.1 }
