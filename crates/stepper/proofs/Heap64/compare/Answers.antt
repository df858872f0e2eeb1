-- Blocked where one of the two is at * or they are not as asked, else moved.
use native.Mathlib.Omega.{arith}
use borrow.Author.Tests.{eqb-true, eqb_apart}
use mathlib.Core.Path.{sym, ◌∙◌}
use Rattle.stepper.proofs.Formed.{formed}
use Rattle.stepper.proofs.Perform.{dangling_a, dangling_b, differs, agrees}
use Rattle.stepper.proofs.Heap64.compare.Goals as goal
use Rattle.stepper.proofs.Heap64.compare.Goals.{then-eq-via-then-eq, then-eq-via-else-eq+then-eq-2, then-eq-via-else-eq+else-eq-2+then-eq-equal}

pub place_of-p-requires : goal.place_of-p-requires
place_of-p-requires c = omega (arith, c.requires.a_in, (formed c.args.self.now c.requires.table.formed).most)

pub place_of-q-requires : goal.place_of-q-requires
place_of-q-requires c = omega (arith, c.requires.b_in, (formed c.args.self.now c.requires.table.formed).most)

pub returns-then-eq : goal.returns-then-eq
returns-then-eq c =
    let a = c.args in
    let t = a.self.now in
    let r = c.requires.table in
    λ x.
    elim c.then-eq.branch [
      | then-eq-via-then-eq w ↦ dangling_a t r.sized (formed t r.formed) x a.equal a.a a.b (sym c.place_of-p.ensures ∙ eqb-true _ _ (sym c.eq.ensures ∙ w.if-eq.true))
      | then-eq-via-else-eq+then-eq-2 w ↦
          dangling_b t r.sized (formed t r.formed) x a.equal a.a a.b (sym c.place_of-q.ensures ∙ eqb-true _ _ (sym w.eq-else-eq.ensures ∙ w.if-eq-2.true))
      | then-eq-via-else-eq+else-eq-2+then-eq-equal w ↦
          differs t r.sized (formed t r.formed) x a.equal a.a a.b (rw (← c.place_of-p.ensures, ← c.place_of-q.ensures, ← w.eq-else-eq-2.ensures) w.if-eq-equal.true)
    ]

pub returns : goal.returns
returns c =
    let a = c.args in
    let t = a.self.now in
    let r = c.requires.table in
    λ x.
    agrees t r.sized (formed t r.formed) x a.equal a.a a.b (λ z. eqb_apart _ _ (sym c.eq.ensures ∙ c.if-eq.false) (c.place_of-p.ensures ∙ z))
    (λ z. eqb_apart _ _ (sym c.eq-else-eq.ensures ∙ c.if-eq-2.false) (c.place_of-q.ensures ∙ z))
    (rw (← c.place_of-p.ensures, ← c.place_of-q.ensures, ← c.eq-else-eq-2.ensures) c.if-eq-equal.false)
