-- By the code: no cell's, outside the heap, or a cell's mark.
use mathlib.Core.Path.{refl}
use Prim.Native.Nat.{◌+◌}
use native.Mathlib.Omega.{arith}
use borrow.Author.Tests.{le-ltb, lt-ltb}
use lib.ListN.{length}
use Rattle.stepper.proofs.Places.{standing_cell, standing_high}
use Rattle.stepper.proofs.is_aimed.Goals as goal

pub returns-then-p-lt-FIRST_CELL : goal.returns-then-p-lt-FIRST_CELL
returns-then-p-lt-FIRST_CELL c = rw (lt-ltb c.args.p.code 3 c.if-p-lt-FIRST_CELL.true) refl

pub returns-then-i-first : goal.returns-then-i-first
returns-then-i-first c =
    let a = c.args in rw (le-ltb a.p.code 3 c.if-p-lt-FIRST_CELL.false) (standing_cell a.used.now a.p.code c.if-p-lt-FIRST_CELL.false)

pub returns-else-i-first : goal.returns-else-i-first
returns-else-i-first c =
    let a = c.args in
    rw (le-ltb a.p.code 3 c.if-p-lt-FIRST_CELL.false, le-ltb a.p.code (3 + length a.used.now) c.if-i-first.false)
    (standing_high a.used.now a.p.code (length a.used.now) refl (omega arith))
