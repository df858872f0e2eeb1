-- By the version.
use mathlib.Core.Path.{refl}
use native.Mathlib.Omega.{arith}
use borrow.Author.Tests.{eq-eqb, ne_eqb}
use Rattle.layout.specs.Entries.{facts_end}
use Rattle.layout.proofs.facts_end.Goals as goal

pub overflow_mul-result : goal.overflow_mul-result
overflow_mul-result c = omega (arith, c.fact_count.ensures.1)

pub overflow_add-result : goal.overflow_add-result
overflow_add-result c = omega (arith, c.fact_count.ensures.1, c.facts_first.ensures.1)

pub returns-then-version_of-eq2 : goal.returns-then-version_of-eq2
unfolding facts_end
returns-then-version_of-eq2 c =
    let v = c.version_of in
    rw (← v.ensures, eq-eqb v.result 2 c.if-version_of-eq2.true, ← c.facts_first.ensures.0, ← c.fact_count.ensures.0) refl

pub returns : goal.returns
unfolding facts_end
returns c = let v = c.version_of in rw (← v.ensures, ne_eqb v.result 2 (λ e. c.if-version_of-eq2.false e)) refl
