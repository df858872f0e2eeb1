-- By the first byte of the number, and the second where there is one.
use mathlib.Core.Path.{refl}
use native.Mathlib.Omega.{arith}
use borrow.Author.Tests.{lt-ltb, le-ltb}
use Rattle.layout.specs.Entries.{fact_count}
use Rattle.layout.proofs.fact_count.Goals as goal

pub returns-then-low-lt128 : goal.returns-then-low-lt128
unfolding fact_count
returns-then-low-lt128 c = (rw (← c.byte_at-low.ensures.0, lt-ltb c.byte_at-low.result 128 (omega arith)) refl, omega arith)

pub overflow_mul-result : goal.overflow_mul-result
overflow_mul-result c = omega (arith, c.byte_at.ensures.1)

pub overflow_add-result : goal.overflow_add-result
overflow_add-result c = omega (arith, c.byte_at.ensures.1, c.byte_at-low.ensures.1)

pub returns : goal.returns
unfolding fact_count
returns c =
    (rw (← c.byte_at-low.ensures.0, le-ltb c.byte_at-low.result 128 (omega arith), ← c.byte_at.ensures.0) refl, omega (arith, c.byte_at.ensures.1, c.byte_at-low.ensures.1))
