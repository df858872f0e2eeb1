-- The loop takes the images in turn: those before i are read and marked, and differ (`ReadingMarked`).
use Prim.Native.Nat.{◌+◌}
use lib.ListN.{get_or}
use mathlib.Core.Path.{refl, sym, ◌∙◌}
use native.Mathlib.Omega.{arith}
use Rattle.covering.proofs.Marks.{marks_none}
use Rattle.covering.proofs.ReadAndMark.{taking_none, taking_more, taking_whole, taking_ended, taking_again}
use Rattle.covering.proofs.quick.read_and_mark.Goals as goal

pub loop-i-init : goal.loop-i-init
loop-i-init c = taking_none _ _ _ _ _ _ c.requires.3 (rw c.clear.ensures marks_none)

pub returns-then-n-wide : goal.returns-then-n-wide
returns-then-n-wide c = taking_ended _ _ _ _ _ _ _ c.loop-i.invariant

pub returns-then-not-mark_image : goal.returns-then-not-mark_image
returns-then-not-mark_image c =
    rw c.mark_image.ensures.1
    (taking_again _ _ _ _ _ _ _ c.loop-i.invariant (c.wide-in-loop-i.result + 3) (omega arith) (sym c.mark_image.ensures.0 ∙ c.if-not-mark_image.true))

pub loop-i-preserved : goal.loop-i-preserved
loop-i-preserved c =
    let a = c.args in
    rw c.mark_image.ensures.1
    (taking_more _ _ _ _ _ _ _ c.loop-i.invariant (omega arith) (omega arith) (omega arith) (omega arith) (get_or a.cert.now (a.first + c.loop-i.i) 0) (c.wide-in-loop-i.result + 3) refl
    (omega arith) (omega arith) (sym c.mark_image.ensures.0 ∙ c.if-not-mark_image.false))

pub returns : goal.returns
returns c = taking_whole _ _ _ _ _ _ _ c.loop-i.invariant (omega arith)
