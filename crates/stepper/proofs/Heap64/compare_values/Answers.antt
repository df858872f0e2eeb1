-- Moved or blocked by the codes of both values.
use mathlib.Core.Path.{ap₂, ◌∙◌, sym}
use Rattle.stepper.proofs.Formed.{formed}
use Rattle.stepper.specs.Step.{codes_meet}
use Rattle.stepper.proofs.Values.{test_passes, test_fails}
use Rattle.stepper.proofs.Heap64.compare_values.Goals as goal

pub returns-then-not-codes_meet : goal.returns-then-not-codes_meet
returns-then-not-codes_meet c =
    let a = c.args in
    let r = c.requires.table in
    λ x. test_fails a.self.now r.sized (formed a.self.now r.formed) x a.a a.b a.equal
    (sym (c.codes_meet.ensures ∙ ap₂ (codes_meet a.equal) c.value_of-v.ensures c.value_of-w.ensures) ∙ c.if-not-codes_meet.true)

pub returns : goal.returns
returns c =
    let a = c.args in
    let r = c.requires.table in
    λ x. test_passes a.self.now r.sized (formed a.self.now r.formed) x a.a a.b a.equal
    (sym (c.codes_meet.ensures ∙ ap₂ (codes_meet a.equal) c.value_of-v.ensures c.value_of-w.ensures) ∙ c.if-not-codes_meet.false)
