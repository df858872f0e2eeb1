-- By the test.
use mathlib.Core.Path.{refl, sym, ◌∙◌}
use Rattle.factrows.specs.Rows.{some_of}
use Rattle.factrows.proofs.some_of.Goals as goal

pub returns-then-is_either_on : goal.returns-then-is_either_on
unfolding some_of
returns-then-is_either_on c = rw (sym c.is_either_on.ensures ∙ c.if-is_either_on.true) refl

pub returns : goal.returns
unfolding some_of
returns c = rw (sym c.is_either_on.ensures ∙ c.if-is_either_on.false) refl
