-- The loop: the numbers before the i-th are written, what is after them is as before, and there is room for the rest.
use native.Mathlib.Omega.{arith}
use Rattle.number.proofs.Writing.{length_left, small, fill_none, fill_more, fill_all}
use Rattle.number.proofs.fill.Goals as goal

pub loop-number-init : goal.loop-number-init
loop-number-init c = fill_none _ _

pub put_number-at-requires : goal.put_number-at-requires
put_number-at-requires c =
    let ns = c.args.numbers.now in
    let i = c.loop-number.number-index in
    (omega (arith, length_left ns i (omega arith), c.loop-number.invariant.ends, c.loop-number.invariant.same), small ns i c.requires.0 (omega arith))

pub loop-number-preserved : goal.loop-number-preserved
loop-number-preserved c =
    rw c.put_number-at.ensures.0
    (fill_more _ _ _ _ _ c.loop-number.invariant _ (omega arith) c.requires.1 c.put_number-at.ensures.1)

pub shape_of-bytes : goal.shape_of-bytes
shape_of-bytes c = c.loop-number.invariant.same

pub returns : goal.returns
returns c = fill_all _ _ _ _ _ c.loop-number.invariant (omega arith)
