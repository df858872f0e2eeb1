-- Blocked where a is at no cell; else what stood at it goes to *, and the cell goes.
use mathlib.Core.Path.{refl}
use Rattle.heap.specs.Operation.{delete}
use Rattle.stepper.proofs.Perform.{blocked}
use Rattle.stepper.proofs.InPlace.{unlinked, frees}
use Rattle.stepper.proofs.Heap64.free_cell.Goals as goal

pub returns-in_default : goal.returns-in_default
returns-in_default c = λ x. blocked c.args.self.now x (delete c.args.a) refl (λ d. d (unlinked c.args.self.now c.requires.table _ c.in_default.ensures))

pub returns : goal.returns
returns c =
    λ x. frees c.args.self.now c.requires.table x c.args.a c.in-Some.i c.place_of-at.result c.dangle.new.places c.dangle-2.new.places c.in-Some.ensures
    c.place_of-at.ensures c.dangle.ensures c.dangle-2.ensures
