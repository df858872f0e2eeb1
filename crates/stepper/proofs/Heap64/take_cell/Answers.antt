-- Full where no cell is unused; else the first unused one is taken, and a stands at it.
use native.Mathlib.Omega.{arith}
use Rattle.stepper.proofs.Formed.{formed}
use Rattle.stepper.proofs.InPlace.{takes, is_full}
use Rattle.stepper.proofs.Heap64.take_cell.Goals as goal

pub returns-in_default : goal.returns-in_default
returns-in_default c = λ x. is_full c.args.self.now c.requires.table x c.args.a c.in_default.ensures

pub bounds-self-a : goal.bounds-self-a
bounds-self-a c = omega (arith, c.requires.a_in, (formed c.args.self.now c.requires.table.formed).most)

pub returns : goal.returns
returns c =
    λ x. rw c.cell.ensures (takes c.args.self.now c.requires.table x c.args.a c.in-Some.i c.in-Some.ensures c.requires.a_in.0 c.requires.a_in.1)
