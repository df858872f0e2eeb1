-- By the test.
use mathlib.Core.Path.{refl, sym, ◌∙◌}
use Rattle.factrows.specs.Rows.{below_row}
use Rattle.factrows.proofs.below_row.Goals as goal

pub returns-then-is_on : goal.returns-then-is_on
unfolding below_row
returns-then-is_on c = rw (sym c.is_on.ensures ∙ c.if-is_on.true) refl

pub returns : goal.returns
unfolding below_row
returns c = rw (sym c.is_on.ensures ∙ c.if-is_on.false) refl
