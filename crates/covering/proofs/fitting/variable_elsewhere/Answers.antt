-- The loop tests the variables in turn: those before i fit (`Passing`).
use mathlib.Core.Path.{sym}
use native.Mathlib.Omega.{arith}
use Rattle.lists.proofs.Lowest.{pass_none, pass_more, pass_failed, pass_all}
use Rattle.covering.proofs.Variables.{unplaced, at_image, elsewhere}
use Rattle.covering.proofs.fitting.variable_elsewhere.Goals as goal
use Rattle.covering.proofs.fitting.variable_elsewhere.Goals.{then-p-ne0+else-image_of-s, else-p-ne0}

pub loop-i-init : goal.loop-i-init
loop-i-init c = pass_none _ _

pub returns-then-image_of-s : goal.returns-then-image_of-s
returns-then-image_of-s c =
    let a = c.args in
    let i = c.loop-i.i in
    sym (pass_failed _ _ i c.loop-i.invariant (omega arith)
    (elsewhere a.cert.now a.first a.images.now a.s.now i c.wide-p.result c.wide-p.ensures.0 c.image_of.result c.image_of.ensures c.if-p-ne0.true c.if-image_of-s.true))

pub loop-i-preserved : goal.loop-i-preserved
loop-i-preserved c =
    let a = c.args in
    let i = c.loop-i.i in
    let e = c.wide-p.ensures.0 in
    pass_more _ _ i c.loop-i.invariant (omega arith)
    (elim c.if-p-ne0.branch [
      | then-p-ne0+else-image_of-s w ↦ at_image a.cert.now a.first a.images.now a.s.now i c.wide-p.result e w.image_of.result w.image_of.ensures w.if-image_of-s.false
      | else-p-ne0 w ↦ unplaced a.cert.now a.first a.images.now a.s.now i c.wide-p.result e w.if-p-ne0.false
    ])

pub returns : goal.returns
returns c = sym (pass_all _ _ _ c.loop-i.invariant (omega arith))
