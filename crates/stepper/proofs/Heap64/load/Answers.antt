-- Blocked where b is at no cell or its link is at *; else a stands where the link does.
use native.Mathlib.Omega.{arith}
use borrow.Author.Tests.{eqb-true, eqb_apart}
use mathlib.Core.Path.{refl, sym, ◌∙◌}
use Rattle.stepper.proofs.Formed.{formed}
use Rattle.heap.specs.Operation.{load}
use Rattle.stepper.proofs.Perform.{blocked}
use Rattle.stepper.proofs.InPlace.{unlinked, link_is, loads}
use Rattle.stepper.proofs.Heap64.load.Goals as goal

pub returns-in_default : goal.returns-in_default
returns-in_default c = λ x. blocked c.args.self.now x (load c.args.a c.args.b) refl (λ d. d.0 (unlinked c.args.self.now c.requires.table _ c.in_default.ensures))

pub returns-then-eq : goal.returns-then-eq
returns-then-eq c =
    let t = c.args.self.now in
    λ x. blocked t x (load c.args.a c.args.b) refl
    (λ d. d.1 (sym (link_is t c.requires.table _ c.in-Some.i c.in-Some.ensures) ∙ eqb-true _ _ (sym c.eq.ensures ∙ c.if-eq.true)))

pub bounds-self-a : goal.bounds-self-a
bounds-self-a c = omega (arith, c.requires.a_in, (formed c.args.self.now c.requires.table.formed).most)

pub returns : goal.returns
returns c =
    let a = c.args in
    λ x. loads a.self.now c.requires.table x a.a a.b c.in-Some.i c.in-Some.ensures c.requires.a_in.0 c.requires.a_in.1
    (eqb_apart _ _ (sym c.eq.ensures ∙ c.if-eq.false))
