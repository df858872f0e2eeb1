-- The loop tests the variables in turn, as `variable_elsewhere` does; only where all fit is something to be shown.
use mathlib.Core.Path.{sym}
use native.Mathlib.Omega.{arith}
use Rattle.covering.proofs.Images.{image_read}
use Rattle.lists.proofs.Lowest.{pass_none, pass_more, pass_all}
use Rattle.covering.proofs.Variables.{unplaced, at_image}
use Rattle.covering.proofs.quick.quick_vars.Goals as goal
use Rattle.covering.proofs.quick.quick_vars.Goals.{then-p-ne0+else-p-ge15+else-images-p, else-p-ne0}

pub loop-i-init : goal.loop-i-init
loop-i-init c = pass_none _ _

pub loop-i-preserved : goal.loop-i-preserved
loop-i-preserved c =
    let a = c.args in
    let i = c.loop-i.i in
    let p = c.wide-p.result in
    let e = c.wide-p.ensures.0 in
    pass_more _ _ i c.loop-i.invariant (omega arith)
    (elim c.if-p-ne0.branch [
      | then-p-ne0+else-p-ge15+else-images-p w ↦ at_image a.cert.now a.first a.images.now a.s.now i p e _ (sym (image_read a.images.now p (omega (arith, w.if-p-ge15.false)))) w.if-images-p.false
      | else-p-ne0 w ↦ unplaced a.cert.now a.first a.images.now a.s.now i p e w.if-p-ne0.false
    ])

pub returns : goal.returns
returns c = λ _. pass_all _ _ _ c.loop-i.invariant (omega arith)
