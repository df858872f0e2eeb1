-- Operand 0 is at #; another is in the list of the variables.
use mathlib.Core.Path.{◌∙◌}
use Prim.Native.Nat.{◌-◌}
use native.Mathlib.Omega.{arith}
use Rattle.heap.proofs.Codes.{operand_slot}
use Rattle.stepper.proofs.Places.{code_at}
use Rattle.stepper.proofs.Heap64.place_of.Goals as goal

pub returns : goal.returns
returns c = code_at c.args.self.now.vars (c.args.a - 1) ∙ operand_slot _ c.args.a (omega arith)
