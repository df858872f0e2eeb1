-- By the version.
use mathlib.Core.Path.{refl}
use native.Mathlib.Omega.{arith}
use borrow.Author.Tests.{eq-eqb, ne_eqb}
use Rattle.forbidding.proofs.put.count_bytes.Goals as goal

pub returns-then-version-eq2 : goal.returns-then-version-eq2
returns-then-version-eq2 c = rw (eq-eqb c.args.version 2 c.if-version-eq2.true) (refl, omega arith)

pub returns : goal.returns
returns c = rw (ne_eqb c.args.version 2 (λ e. c.if-version-eq2.false e)) (refl, omega arith)
