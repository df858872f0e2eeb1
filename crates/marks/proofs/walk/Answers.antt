-- The loop walks: it has come to p by so many links, with turns left for every free place (`Going`).
use Rattle.std.proofs.Common.{ap, sym, ◌∙◌, arith}
use Rattle.marks.specs.Marks.{Walk}
use Rattle.marks.proofs.Walks.{going_none, going_less, going_more, going_met, mark_in_lem}
use Rattle.marks.proofs.walk.Goals as goal

pub loop-marks-init : goal.loop-marks-init
loop-marks-init c = going_none _ _ _

pub bounds-marks-p : goal.bounds-marks-p
bounds-marks-p c = omega (arith, (mark_in_lem _ _ _ (sym c.mark_at.ensures.1 ∙ c.loop-marks-test.true)).0, c.cells_held-n.ensures.1)

pub bounds-s-p : goal.bounds-s-p
bounds-s-p c = omega (arith, (mark_in_lem _ _ _ (sym c.mark_at.ensures.1 ∙ c.loop-marks-test.true)).0, c.cells_held-n.ensures.1)

pub loop-marks-smaller : goal.loop-marks-smaller
loop-marks-smaller c =
    let free = rw c.cells_held-n.ensures.2 at (sym c.mark_at.ensures.1 ∙ c.loop-marks-test.true) in
    going_less _ _ _ _ _ _ c.loop-marks.invariant (omega (arith, (mark_in_lem _ _ _ free).0, c.cells_held-n.ensures, c.mark_at.ensures.0)) free

pub loop-marks-preserved : goal.loop-marks-preserved
loop-marks-preserved c =
    let free = rw c.cells_held-n.ensures.2 at (sym c.mark_at.ensures.1 ∙ c.loop-marks-test.true) in
    rw c.wide-p.ensures.0 (going_more _ _ _ _ _ _ c.loop-marks.invariant (omega (arith, (mark_in_lem _ _ _ free).0, c.cells_held-n.ensures, c.mark_at.ensures.0)) free)

pub returns : goal.returns
returns c =
    let l = c.loop-marks in
    let e = going_met _ _ _ _ _ _ l.invariant (λ z. c.loop-marks-test.false (c.mark_at.ensures.1 ∙ rw c.cells_held-n.ensures.2 z)) in
    (sym (ap (λ (w : Walk). w.end) e), sym (ap (λ (w : Walk). w.links) e), sym (ap (λ (w : Walk). w.marks) e))
