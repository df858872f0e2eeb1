-- Too few numbers are told ahead of the verdict; so behind it only a full tally refuses, which stays as it is. 0 only for what is acceptable.
use mathlib.Core.Path.{refl, ◌∙◌}
use native.Mathlib.Omega.{arith}
use Rattle.tally.proofs.Numbers.{too_few, enough_full, numbers_same}
use Rattle.telling.proofs.Judging.{told}
use Rattle.call_tally.proofs.vorruda_tally_verdict.Goals as goal

pub returns-then-tally-lt-NUMBERS-clause-number : goal.returns-then-tally-lt-NUMBERS-clause-number
returns-then-tally-lt-NUMBERS-clause-number c = rw (← (too_few _ _ c.if-tally-lt-NUMBERS.true).0) refl

pub returns-then-tally-lt-NUMBERS-clause-tally : goal.returns-then-tally-lt-NUMBERS-clause-tally
returns-then-tally-lt-NUMBERS-clause-tally c = (too_few _ _ c.if-tally-lt-NUMBERS.true).1

pub returns-then-tally-lt-NUMBERS-clause-values : goal.returns-then-tally-lt-NUMBERS-clause-values
returns-then-tally-lt-NUMBERS-clause-values c = rw (← (too_few _ _ c.if-tally-lt-NUMBERS.true).0) c.lend.ensures

pub returns-in-Err-clause-number : goal.returns-in-Err-clause-number
returns-in-Err-clause-number c = rw (← c.check-judged.ensures.exact, ← enough_full _ _ (omega (arith, c.if-tally-lt-NUMBERS.false)) c.in-Err.ensures.taken) refl

pub returns-in-Err-clause-values : goal.returns-in-Err-clause-values
returns-in-Err-clause-values c = rw (← c.check-judged.ensures.exact, ← enough_full _ _ (omega (arith, c.if-tally-lt-NUMBERS.false)) c.in-Err.ensures.taken, ← c.verdict_number.ensures) c.lend-in-Err.ensures

pub returns-in-Err-clause-full : goal.returns-in-Err-clause-full
returns-in-Err-clause-full c e = c.take_in_numbers.ensures.numbers ∙ numbers_same _ _ (λ none. let z = c.in-Err.ensures.taken ∙ none in cc)

pub returns-in-Ok-clause-accepted : goal.returns-in-Ok-clause-accepted
returns-in-Ok-clause-accepted c =
    let k = c.check-judged.ensures in
    (told _ _ _ k.exact k.accepted k.safe _ c.tell.ensures.number).0.0
