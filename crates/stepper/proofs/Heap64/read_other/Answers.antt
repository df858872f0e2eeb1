-- Blocked where the value that is lent is not as asked; else it is read.
use mathlib.Core.Path.{ap₂, ◌∙◌, sym}
use native.Mathlib.Numerals.{add-one}
use Rattle.stepper.proofs.Formed.{formed}
use Rattle.stepper.specs.Step.{codes_differ}
use Rattle.stepper.proofs.Values.{other_read, other_fails}
use Rattle.stepper.proofs.Heap64.read_other.Goals as goal

pub returns-then-not-codes_differ : goal.returns-then-not-codes_differ
returns-then-not-codes_differ c =
    let a = c.args in
    let r = c.requires.table in
    other_fails a.self.now r.sized (formed a.self.now r.formed) a.value a.a a.b a.larger
    (sym (c.codes_differ.ensures ∙ ap₂ (codes_differ a.larger) c.value_of-w.ensures (add-one a.value)) ∙ c.if-not-codes_differ.true)

pub returns : goal.returns
returns c =
    let a = c.args in
    let r = c.requires.table in
    c.read_value.ensures
    ∙ other_read a.self.now r.sized (formed a.self.now r.formed) a.value a.a a.b a.larger
    (sym (c.codes_differ.ensures ∙ ap₂ (codes_differ a.larger) c.value_of-w.ensures (add-one a.value)) ∙ c.if-not-codes_differ.false)
