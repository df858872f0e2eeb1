-- The loop looks at the cells in turn: no other cell has the image of one before i (`Passing`).
use mathlib.Core.Path.{sym, ap, ◌∙◌}
use native.Mathlib.Omega.{arith}
use Rattle.lists.specs.Test.{number_or}
use Rattle.lists.proofs.Lowest.{pass_none, pass_more, pass_failed, pass_all}
use Rattle.covering.proofs.rules.image_twice.Goals as goal

pub loop-i-init : goal.loop-i-init
loop-i-init c = pass_none _ _

pub image_once-requires : goal.image_once-requires
image_once-requires c = (c.requires, omega arith)

pub returns-then-not-image_once : goal.returns-then-not-image_once
returns-then-not-image_once c =
    let t = c.loop-i in
    sym (ap (number_or _) (pass_failed _ _ t.i t.invariant (omega arith) (sym c.image_once.ensures ∙ c.if-not-image_once.true)))

pub loop-i-preserved : goal.loop-i-preserved
loop-i-preserved c =
    let t = c.loop-i in
    pass_more _ _ t.i t.invariant (omega arith) (sym c.image_once.ensures ∙ c.if-not-image_once.false)

pub returns : goal.returns
returns c = sym (ap (number_or _) (pass_all _ _ _ c.loop-i.invariant (omega arith)))
