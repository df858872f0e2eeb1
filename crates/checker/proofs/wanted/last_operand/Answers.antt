-- By the place of a in the array.
use mathlib.Core.Path.{◌∙◌, sym, ap}
use Rattle.place.specs.declared.Place.{Place}
use Rattle.shapes.proofs.Steps.{last_a, last_b}
use Rattle.checker.proofs.wanted.last_operand.Goals as goal

pub returns-then-x-eq-NOWHERE : goal.returns-then-x-eq-NOWHERE
returns-then-x-eq-NOWHERE c =
    let a = c.args in
    last_a a.a a.b a.s.now (sym (ap (λ (p : Place). p.code) c.place_of-x.ensures) ∙ c.if-x-eq-NOWHERE.true)

pub returns : goal.returns
returns c =
    let a = c.args in
    last_b a.a a.b a.s.now (λ e. c.if-x-eq-NOWHERE.false (ap (λ (p : Place). p.code) c.place_of-x.ensures ∙ e))
