-- The loop: the variables before the i-th stand where they stood by their case.
use mathlib.Core.Path.{sym, ◌∙◌}
use Prim.Native.Nat.{◌<◌}
use native.Mathlib.Omega.{arith}
use lib.ListN.{length}
use Rattle.shapes.proofs.ByCase.{next_moved, next_already, next_other, chosen_all}
use Rattle.shapes.proofs.restore.choose_case.Goals as goal
use Rattle.shapes.proofs.restore.choose_case.Goals.{then-code-eq-DANGLING+then-half-left, then-code-eq-DANGLING+else-half-left, else-code-eq-DANGLING}

pub loop-code-preserved : goal.loop-code-preserved
loop-code-preserved c =
    let gone = c.args.gone in
    let l = c.loop-code in
    let inside : l.code-index < length l.vars = omega arith in
    let j = c.if-code-eq-DANGLING in
    l.invariant
    ∙ elim j.branch [
      | then-code-eq-DANGLING+then-half-left w ↦ rw (w.vars-is, w.half-is, w.left-is) (next_moved gone l.half l.left l.vars l.code-index inside w.if-code-eq-DANGLING.true w.if-half-left.true)
      | then-code-eq-DANGLING+else-half-left w ↦ rw (w.vars-is, w.half-is, w.left-is) (next_already gone l.half l.left l.vars l.code-index inside w.if-code-eq-DANGLING.true (omega arith))
      | else-code-eq-DANGLING w ↦ rw (w.vars-is, w.half-is, w.left-is) (next_other gone l.half l.left l.vars l.code-index inside w.if-code-eq-DANGLING.false)
    ]

pub returns : goal.returns
returns c =
    let l = c.loop-code in
    sym (l.invariant ∙ chosen_all c.args.gone l.half l.left l.vars l.code-index (omega arith))
