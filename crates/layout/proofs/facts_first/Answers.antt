-- By the first byte of the number.
use mathlib.Core.Path.{refl}
use native.Mathlib.Omega.{arith}
use borrow.Author.Tests.{lt-ltb, le-ltb}
use Rattle.layout.specs.Entries.{facts_first}
use Rattle.layout.proofs.facts_first.Goals as goal

pub returns-then-byte_at-lt128 : goal.returns-then-byte_at-lt128
unfolding facts_first
returns-then-byte_at-lt128 c = (rw (← c.byte_at.ensures.0, lt-ltb c.byte_at.result 128 (omega arith)) refl, omega arith)

pub returns : goal.returns
unfolding facts_first
returns c = (rw (← c.byte_at.ensures.0, le-ltb c.byte_at.result 128 (omega arith)) refl, omega arith)
