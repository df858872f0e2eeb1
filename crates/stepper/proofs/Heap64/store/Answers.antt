-- Blocked where a is at no cell or b at *; else the link of a's cell stands where b does.
use native.Mathlib.Omega.{arith}
use borrow.Author.Tests.{eqb-true, eqb_apart}
use mathlib.Core.Path.{refl, sym, ◌∙◌}
use Rattle.stepper.proofs.Formed.{formed}
use Rattle.heap.specs.Operation.{store}
use Rattle.stepper.proofs.Perform.{blocked}
use Rattle.stepper.proofs.InPlace.{unlinked, stores}
use Rattle.stepper.proofs.Heap64.store.Goals as goal

pub returns-in_default : goal.returns-in_default
returns-in_default c = λ x. blocked c.args.self.now x (store c.args.a c.args.b) refl (λ d. d.0 (unlinked c.args.self.now c.requires.table _ c.in_default.ensures))

pub place_of-p-requires : goal.place_of-p-requires
place_of-p-requires c = omega (arith, c.requires.b_in, (formed c.args.self.now c.requires.table.formed).most)

pub returns-then-eq : goal.returns-then-eq
returns-then-eq c =
    λ x. blocked c.args.self.now x (store c.args.a c.args.b) refl
    (λ d. d.1 (sym c.place_of-p.ensures ∙ eqb-true _ _ (sym c.eq.ensures ∙ c.if-eq.true)))

pub returns : goal.returns
returns c =
    let a = c.args in
    λ x. stores a.self.now c.requires.table x a.a a.b c.place_of-p.result c.requires.b_in c.place_of-p.ensures
    (eqb_apart _ _ (sym c.eq.ensures ∙ c.if-eq.false)) c.in-Some.i c.in-Some.ensures
