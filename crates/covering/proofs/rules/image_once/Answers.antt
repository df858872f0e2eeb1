-- The loop compares the image of cell i with the others in turn: those before j differ (`Differing`).
use native.Mathlib.Omega.{arith}
use Rattle.covering.proofs.Twice.{differ_none, differ_all, differ_itself, differ_more, differ_not}
use Rattle.covering.proofs.rules.image_once.Goals as goal
use Rattle.covering.proofs.rules.image_once.Goals.{then-i-j+else-images-i, else-i-j}

pub loop-j-init : goal.loop-j-init
loop-j-init c = λ m b. differ_none _ _ m _ b

pub overflow_add-i : goal.overflow_add-i
overflow_add-i c = omega (arith, c.requires.0.few)

pub bounds-images-i : goal.bounds-images-i
bounds-images-i c = omega (arith, c.requires.0.few)

pub overflow_add-j : goal.overflow_add-j
overflow_add-j c = omega (arith, c.requires.0.few)

pub bounds-images-j : goal.bounds-images-j
bounds-images-j c = omega (arith, c.requires.0.few)

pub returns-then-images-i : goal.returns-then-images-i
returns-then-images-i c =
    let (m, b) = c.requires in
    let t = c.loop-j in
    differ_not _ _ m _ b t.j (t.invariant m b) (omega arith) c.if-i-j.true c.if-images-i.true

pub loop-j-preserved : goal.loop-j-preserved
loop-j-preserved c = λ m b.
    let t = c.loop-j in
    elim c.if-i-j.branch [
      | then-i-j+else-images-i w ↦ differ_more _ _ m _ b t.j (t.invariant m b) (omega arith) w.if-images-i.false
      | else-i-j w ↦ differ_itself _ _ m _ b t.j (t.invariant m b) (omega arith) w.if-i-j.false
    ]

pub returns : goal.returns
returns c =
    let (m, b) = c.requires in
    let t = c.loop-j in
    differ_all _ _ m _ b t.j (t.invariant m b) (omega arith)
