-- The cells before p have no missing fact.
use Rattle.std.proofs.Common.{sym, refl, ◌∙◌, arith}
use Rattle.lists.proofs.Lowest.{pass_none, pass_more, pass_failed, pass_all}
use Rattle.factrows.proofs.first_missing.Goals as goal

pub loop-p-init : goal.loop-p-init
loop-p-init c = pass_none _ _

pub returns-then-not-cell_holds : goal.returns-then-not-cell_holds
returns-then-not-cell_holds c = rw (pass_failed _ _ c.loop-p.p c.loop-p.invariant (omega arith) (sym c.cell_holds.ensures ∙ c.if-not-cell_holds.true)) refl

pub loop-p-preserved : goal.loop-p-preserved
loop-p-preserved c = pass_more _ _ _ c.loop-p.invariant (omega arith) (sym c.cell_holds.ensures ∙ c.if-not-cell_holds.false)

pub returns : goal.returns
returns c = rw (pass_all _ _ c.loop-p.p c.loop-p.invariant (omega arith)) refl
