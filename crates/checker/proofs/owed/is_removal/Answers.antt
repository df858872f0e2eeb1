-- One kind or the other.
use mathlib.Core.Path.{refl}
use borrow.Author.Tests.{eq-eqb, ne_eqb}
use Rattle.checker.proofs.owed.is_removal.Goals as goal

pub returns-then-kind-eq-NEW : goal.returns-then-kind-eq-NEW
returns-then-kind-eq-NEW c = rw (eq-eqb c.args.kind 6 c.if-kind-eq-NEW.true) refl

pub returns-else-kind-eq-NEW : goal.returns-else-kind-eq-NEW
returns-else-kind-eq-NEW c = rw (ne_eqb c.args.kind 6 c.if-kind-eq-NEW.false) refl
