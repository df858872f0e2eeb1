-- Blocked where a is at no cell; else the value of its cell is the one that is lent.
use mathlib.Core.Path.{refl}
use native.Mathlib.Numerals.{add-one}
use native.Mathlib.Omega.{arith}
use Rattle.heap.specs.Operation.{read}
use Rattle.stepper.proofs.Perform.{blocked}
use Rattle.stepper.proofs.InPlace.{unlinked, reads}
use Rattle.stepper.proofs.Heap64.read_value.Goals as goal

pub returns-in_default : goal.returns-in_default
returns-in_default c =
    blocked c.args.self.now c.args.value (read c.args.a) refl (λ d. d (unlinked c.args.self.now c.requires.table _ c.in_default.ensures))

pub returns : goal.returns
returns c = rw (add-one c.args.value) (reads c.args.self.now c.requires.table c.args.value c.args.a c.in-Some.i (omega arith) c.in-Some.ensures)
