-- The loop: the places before the index that were that one are *.
use borrow.Author.Tests.{eqb-true, eqb_apart}
use mathlib.Core.Path.{sym, ◌∙◌}
use Rattle.stepper.proofs.Dangled.{hit, miss}
use Rattle.stepper.proofs.dangle.Goals as goal
use Rattle.stepper.proofs.dangle.Goals.{then-eq, else-eq}

pub loop-p-preserved : goal.loop-p-preserved
loop-p-preserved c =
    elim c.if-eq.branch [
      | then-eq w ↦ rw w.p-is (hit c.args.at.code c.args.places.now c.loop-p.places c.loop-p.p-index c.loop-p.invariant (eqb-true _ _ (sym c.eq.ensures ∙ w.if-eq.true)))
      | else-eq w ↦ rw w.p-is (miss c.args.at.code c.args.places.now c.loop-p.places c.loop-p.p-index c.loop-p.invariant (eqb_apart _ _ (sym c.eq.ensures ∙ w.if-eq.false)))
    ]
