-- The loops: what is left of an operation gives what all of it gives, and so do the turns that are left.
use mathlib.Core.Path.{refl, sym, subst, ◌∙◌}
use Prim.Native.Nat.{ℕ, ◌+◌, ◌-◌, ◌/◌, ◌%◌}
use native.Mathlib.Omega.{arith}
use lib.ListN.{get_or, drop}
use Rattle.stepper.specs.Step.{stays}
use Rattle.stepper.specs.Turns.{InTurn}
use Rattle.stepper.proofs.InPlace.{IsNamed, named_allowed, named_steps}
use Rattle.stepper.proofs.Turns.{goes_on, ends_here, begun, over, all_over}
use Rattle.stepper.proofs.Heap64.steps_formed.Goals as goal

pub loop-turn-init : goal.loop-turn-init
loop-turn-init c = record { ready = c.requires; variables = refl; gives = λ r w. w }

pub loop-init : goal.loop-init
loop-init c =
    begun c.args.self.now.variables c.args.turns.now c.loop-turn.turn-index (InTurn c.args.turns.now c.args.self.now) c.loop-turn.self
    (get_or c.args.turns.now c.loop-turn.turn-index 0 / 4096 - 0) (omega arith) (omega arith) c.loop-turn.invariant

pub perform_named-outcome-requires-clause-table : goal.perform_named-outcome-requires-clause-table
perform_named-outcome-requires-clause-table c = c.loop.invariant.ready

pub perform_named-outcome-requires-clause-is_allowed : goal.perform_named-outcome-requires-clause-is_allowed
perform_named-outcome-requires-clause-is_allowed c =
    let turn = get_or c.args.turns.now c.loop-turn.turn-index 0 in
    let named = subst (λ (n : ℕ). IsNamed n (turn / 256 % 16) (turn / 16 % 16) (turn % 16) c.named-kind.result) (c.loop-turn.invariant.variables ∙ sym c.loop.invariant.variables) c.named-kind.ensures in
    named_allowed c.loop.self.variables (turn / 256 % 16) (turn / 16 % 16) (turn % 16) c.named-kind.result named

pub loop-preserved : goal.loop-preserved
loop-preserved c =
    let turns = c.args.turns.now in
    let i = c.loop-turn.turn-index in
    let turn = get_or turns i 0 in
    let done = c.loop.counter in
    let g = c.loop.invariant in
    let s = stays c.perform_named-outcome.new.self c.perform_named-outcome.result in
    let named = subst (λ (n : ℕ). IsNamed n (turn / 256 % 16) (turn / 16 % 16) (turn % 16) c.named-kind.result) (c.loop-turn.invariant.variables ∙ sym g.variables) c.named-kind.ensures in
    goes_on c.args.self.now.variables (turn / 256 % 16) (turn / 16 % 16) (turn % 16) (turn / 4096 - done) (turn / 4096 - (done + 1)) (InTurn (drop (i + 1) turns))
    (InTurn turns c.args.self.now) c.loop.self g (omega arith) s
    (named_steps c.loop.self g.ready (turn / 256 % 16) (turn / 16 % 16) (turn % 16) 0 (omega arith) c.named-kind.result named s c.perform_named-outcome.ensures) c.in-Moved.is

pub returns-in_default : goal.returns-in_default
returns-in_default c =
    let turns = c.args.turns.now in
    let i = c.loop-turn.turn-index in
    let turn = get_or turns i 0 in
    let done = c.loop.counter in
    let g = c.loop.invariant in
    let s = stays c.perform_named-outcome.new.self c.perform_named-outcome.result in
    let named = subst (λ (n : ℕ). IsNamed n (turn / 256 % 16) (turn / 16 % 16) (turn % 16) c.named-kind.result) (c.loop-turn.invariant.variables ∙ sym g.variables) c.named-kind.ensures in
    ends_here c.args.self.now.variables (turn / 256 % 16) (turn / 16 % 16) (turn % 16) (turn / 4096 - done) (turn / 4096 - (done + 1)) (InTurn (drop (i + 1) turns))
    (InTurn turns c.args.self.now) c.loop.self g (omega arith) s
    (named_steps c.loop.self g.ready (turn / 256 % 16) (turn / 16 % 16) (turn % 16) 0 (omega arith) c.named-kind.result named s c.perform_named-outcome.ensures) c.in_default.not-Moved

pub loop-turn-preserved : goal.loop-turn-preserved
loop-turn-preserved c =
    over c.args.self.now.variables c.args.turns.now c.loop-turn.turn-index (InTurn c.args.turns.now c.args.self.now) c.loop.self
    (get_or c.args.turns.now c.loop-turn.turn-index 0 / 4096 - c.loop.counter) (omega arith) c.loop.invariant

pub returns : goal.returns
returns c = all_over c.args.self.now.variables c.args.turns.now c.loop-turn.turn-index (InTurn c.args.turns.now c.args.self.now) c.loop-turn.self (omega arith) c.loop-turn.invariant
