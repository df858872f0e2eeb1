-- The start, or the number of states.
use mathlib.Core.Path.{refl}
use Rattle.checker.proofs.tested_state.Goals as goal

pub returns-then-judged : goal.returns-then-judged
returns-then-judged c = λ job. rw c.if-judged.true refl

pub returns : goal.returns
returns c = λ job. rw c.if-judged.false refl
