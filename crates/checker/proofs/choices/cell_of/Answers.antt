-- By the code of its place.
use mathlib.Core.Path.{refl, ap}
use native.Mathlib.Omega.{arith}
use borrow.Author.Tests.{lt-ltb, le-ltb}
use Rattle.place.specs.declared.Place.{Place}
use Rattle.checker.proofs.choices.cell_of.Goals as goal

pub returns-then-p-lt-FIRST_CELL : goal.returns-then-p-lt-FIRST_CELL
returns-then-p-lt-FIRST_CELL c = let p = c.place_of-p in rw (← ap (λ (q : Place). q.code) p.ensures, lt-ltb p.result.code 3 c.if-p-lt-FIRST_CELL.true) refl

pub returns : goal.returns
returns c = let p = c.place_of-p in rw (← ap (λ (q : Place). q.code) p.ensures, le-ltb p.result.code 3 (omega arith)) refl
