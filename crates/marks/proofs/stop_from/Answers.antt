-- From p, with the turns that are left, the way leads where it led at first.
use Rattle.std.proofs.Common.{◌≡◌, ℕ, suc, ◌+◌, ◌-◌, ap, sym, ◌∙◌, arith}
use Rattle.marks.specs.Marks.{stop_from}
use Rattle.marks.proofs.Walks.{stop_met, stop_past, stop_more, stop_none}
use Rattle.marks.proofs.stop_from.Goals as goal

pub loop-init : goal.loop-init
loop-init c = let a = c.args in ap (λ (k : ℕ). stop_from k a.s.now a.marks.now a.first) (omega (arith, c.cells_held-n.ensures.2))

pub returns-then-mark_at-eq-STOP : goal.returns-then-mark_at-eq-STOP
returns-then-mark_at-eq-STOP c =
    let left : c.cells_held-n.result - c.loop.counter ≡ suc (c.cells_held-n.result - (c.loop.counter + 1)) = omega arith in
    let here = rw c.cells_held-n.ensures.2 at (sym c.mark_at.ensures.1 ∙ c.if-mark_at-eq-STOP.true) in
    sym (c.loop.invariant ∙ rw left (stop_met _ _ c.loop.p _ here))

pub returns-then-n-p : goal.returns-then-n-p
returns-then-n-p c =
    let left : c.cells_held-n.result - c.loop.counter ≡ suc (c.cells_held-n.result - (c.loop.counter + 1)) = omega arith in
    let here = rw c.cells_held-n.ensures.2 at c.mark_at.ensures.1 in
    sym (c.loop.invariant ∙ rw left (stop_past _ _ c.loop.p _ (λ z. c.if-mark_at-eq-STOP.false (here ∙ z)) (omega (arith, c.cells_held-n.ensures.2))))

pub loop-preserved : goal.loop-preserved
loop-preserved c =
    let left : c.cells_held-n.result - c.loop.counter ≡ suc (c.cells_held-n.result - (c.loop.counter + 1)) = omega arith in
    let here = rw c.cells_held-n.ensures.2 at c.mark_at.ensures.1 in
    c.loop.invariant
    ∙ rw (left, c.wide-p.ensures.0) (stop_more _ _ c.loop.p _ (λ z. c.if-mark_at-eq-STOP.false (here ∙ z)) (omega (arith, c.cells_held-n.ensures.2)))

pub returns : goal.returns
returns c = let none : c.cells_held-n.result - c.loop.counter ≡ 0 = omega arith in sym (c.loop.invariant ∙ rw none (stop_none _ _ c.loop.p))
