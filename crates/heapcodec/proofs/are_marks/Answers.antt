-- The loop: whether the marks before the index fit.
use mathlib.Core.Path.{refl}
use native.Mathlib.Omega.{arith}
use Rattle.heapcodec.proofs.Codec.{mark_tested}
use Rattle.heapcodec.proofs.are_marks.Goals as goal

pub loop-mark-init : goal.loop-mark-init
loop-mark-init c = (λ e k h. absurd (omega arith), λ f. refl)

pub loop-mark-preserved : goal.loop-mark-preserved
loop-mark-preserved c = mark_tested c.args.marks.now c.loop-mark.mark-index c.loop-mark.fit c.loop-mark.invariant

pub returns : goal.returns
returns c = (λ e k h. c.loop-mark.invariant.0 e k (omega arith), λ f. c.loop-mark.invariant.1 (λ k h. f k (omega arith)))
