-- By kind and operands.
use mathlib.Core.Path.{refl}
use borrow.Author.Tests.{eq-eqb, ne_eqb}
use Rattle.checker.proofs.owed.is_below_itself.Goals as goal

pub returns-then-kind-eq-BELOW_VALUE : goal.returns-then-kind-eq-BELOW_VALUE
returns-then-kind-eq-BELOW_VALUE c = rw (eq-eqb c.args.kind 9 c.if-kind-eq-BELOW_VALUE.true) refl

pub returns-else-kind-eq-BELOW_VALUE : goal.returns-else-kind-eq-BELOW_VALUE
returns-else-kind-eq-BELOW_VALUE c = rw (ne_eqb c.args.kind 9 c.if-kind-eq-BELOW_VALUE.false) refl
