-- By the two tests.
use mathlib.Core.Path.{refl, sym, ◌∙◌}
use Rattle.factrows.specs.Rows.{equal_row}
use Rattle.factrows.proofs.equal_row.Goals as goal

pub returns-then-is_either_on : goal.returns-then-is_either_on
unfolding equal_row
returns-then-is_either_on c = rw (sym c.is_either_on.ensures ∙ c.if-is_either_on.true) refl

pub returns-then-is_on : goal.returns-then-is_on
unfolding equal_row
returns-then-is_on c = rw (sym c.is_either_on.ensures ∙ c.if-is_either_on.false, sym c.is_on.ensures ∙ c.if-is_on.true) refl

pub returns : goal.returns
unfolding equal_row
returns c = rw (sym c.is_either_on.ensures ∙ c.if-is_either_on.false, sym c.is_on.ensures ∙ c.if-is_on.false) refl
