-- Ill formed, or a step on a well formed heap, by the kind that the table gives.
use mathlib.Core.Path.{◌∙◌, sym}
use native.Mathlib.Omega.{arith}
use Rattle.stepper.specs.Table.{FormedTable}
use Rattle.stepper.proofs.InPlace.{named_allowed, named_steps}
use Rattle.stepper.proofs.Steps.{steps, ill_formed}
use Rattle.stepper.proofs.Heap64.step.Goals as goal

pub returns-then-not-is_well_formed : goal.returns-then-not-is_well_formed
returns-then-not-is_well_formed c =
    let a = c.args in
    let w = c.is_well_formed in
    steps a.self w.ensures.1 a.kind a.a a.b a.value (omega arith) _
    (ill_formed a.self a.kind a.a a.b a.value (sym w.ensures.0 ∙ c.if-not-is_well_formed.true))

pub perform_named-outcome-requires-clause-is_allowed : goal.perform_named-outcome-requires-clause-is_allowed
perform_named-outcome-requires-clause-is_allowed c =
    let a = c.args in named_allowed a.self.variables a.kind a.a a.b c.named-kind.result c.named-kind.ensures

pub returns : goal.returns
returns c =
    let a = c.args in
    let w = c.is_well_formed in
    let ready : FormedTable a.self = record { sized = w.ensures.1; formed = sym w.ensures.0 ∙ c.if-not-is_well_formed.false } in
    named_steps a.self ready a.kind a.a a.b a.value (omega arith) c.named-kind.result c.named-kind.ensures _ c.perform_named-outcome.ensures
