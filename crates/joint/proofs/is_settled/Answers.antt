-- The state, then the list.
use mathlib.Core.Path.{refl, sym, ◌∙◌}
use borrow.Author.Tests.{eq-eqb, ne_eqb}
use Rattle.joint.proofs.is_settled.Goals as goal

pub returns-then-wide-start : goal.returns-then-wide-start
returns-then-wide-start c = rw (ne_eqb _ _ (λ e. c.if-wide-start.true (c.wide.ensures.0 ∙ e))) refl

pub returns : goal.returns
returns c = rw (eq-eqb _ _ (sym c.wide.ensures.0 ∙ c.if-wide-start.false)) c.is_listed.ensures
