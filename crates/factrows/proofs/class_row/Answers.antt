-- By the test.
use mathlib.Core.Path.{refl, sym, ◌∙◌}
use Rattle.factrows.specs.Rows.{class_row}
use Rattle.factrows.proofs.class_row.Goals as goal

pub returns-then-is_on : goal.returns-then-is_on
unfolding class_row
returns-then-is_on c = rw (sym c.is_on.ensures ∙ c.if-is_on.true) refl

pub returns : goal.returns
unfolding class_row
returns c = rw (sym c.is_on.ensures ∙ c.if-is_on.false) refl
