-- The state, then the shape.
use mathlib.Core.Path.{refl, sym, ◌∙◌}
use borrow.Author.Tests.{eq-eqb, ne_eqb}
use Rattle.joint.proofs.forbids.Goals as goal

pub returns-then-wide-state : goal.returns-then-wide-state
returns-then-wide-state c = rw (ne_eqb _ _ (λ e. c.if-wide-state.true (c.wide.ensures.0 ∙ e))) refl

pub returns : goal.returns
returns c = rw (eq-eqb _ _ (sym c.wide.ensures.0 ∙ c.if-wide-state.false)) c.same_shape.ensures
