-- Blocked where b is at *; else a stands where b does.
use native.Mathlib.Omega.{arith}
use borrow.Author.Tests.{eqb-true, eqb_apart}
use mathlib.Core.Path.{refl, sym, ◌∙◌}
use Rattle.stepper.proofs.Formed.{formed}
use Rattle.heap.specs.Operation.{assign}
use Rattle.stepper.proofs.Perform.{blocked}
use Rattle.stepper.proofs.InPlace.{assigns}
use Rattle.stepper.proofs.Heap64.assign.Goals as goal

pub place_of-p-requires : goal.place_of-p-requires
place_of-p-requires c = omega (arith, c.requires.b_in, (formed c.args.self.now c.requires.table.formed).most)

pub returns-then-eq : goal.returns-then-eq
returns-then-eq c =
    λ x. blocked c.args.self.now x (assign c.args.a c.args.b) refl
    (λ d. d (sym c.place_of-p.ensures ∙ eqb-true _ _ (sym c.eq.ensures ∙ c.if-eq.true)))

pub bounds-self-a : goal.bounds-self-a
bounds-self-a c = omega (arith, c.requires.a_in, (formed c.args.self.now c.requires.table.formed).most)

pub returns : goal.returns
returns c =
    let a = c.args in
    λ x. assigns a.self.now c.requires.table x a.a a.b c.place_of-p.result c.requires.b_in c.place_of-p.ensures
    (eqb_apart _ _ (sym c.eq.ensures ∙ c.if-eq.false)) c.requires.a_in.0 c.requires.a_in.1
