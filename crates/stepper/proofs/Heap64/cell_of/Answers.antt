-- The number of the place, which is a used cell's as the table is well formed.
use native.Mathlib.Omega.{arith}
use Rattle.stepper.proofs.Formed.{formed}
use Rattle.stepper.proofs.InPlace.{cell_found}
use Rattle.stepper.proofs.Heap64.cell_of.Goals as goal

pub place_of-requires : goal.place_of-requires
place_of-requires c = omega (arith, c.requires.a_in, (formed c.args.self.now c.requires.table.formed).most)

pub returns : goal.returns
returns c =
    cell_found c.args.self.now c.requires.table c.args.a c.place_of.result.code c.requires.a_in c.place_of.ensures c.cell_index.result c.cell_index.ensures
