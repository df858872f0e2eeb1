-- The loops: what is left of an operation gives what all of it gives, and so do the turns that are left.
use Prim.Native.Nat.{◌-◌}
use lib.ListN.{drop}
use Rattle.stepper.specs.Turns.{InTurn}
use Rattle.stepper.proofs.Turns.{Going, Left}
use Rattle.stepper.proofs.Heap64.steps_formed.Given as goal

abbrev pub invariant-loop-turn : goal.invariant-loop-turn
invariant-loop-turn l = Going l.fn.self.variables (InTurn (drop l.turn-index l.turns)) (InTurn l.turns l.fn.self) l.self

abbrev pub invariant-loop : goal.invariant-loop
invariant-loop l = Left l.fn.self.variables l.turns l.turn-index (InTurn l.turns l.fn.self) l.self (l.times - l.counter)
