-- The rows of below before p are new.
use Rattle.std.proofs.Common.{arith, ◌∙◌}
use Rattle.factrows.proofs.Turning.{turn_more, turn_all, below_new, below_rest}
use Rattle.factrows.proofs.below_rows.Goals as goal

pub loop-p-preserved : goal.loop-p-preserved
loop-p-preserved c =
    let t = c.loop-p.invariant in
    turn_more _ _ _ _ t _ (omega arith) (c.below_row.ensures ∙ below_new _ _ _ _ _ _ t (omega arith) c.up_of-up.ensures)

pub returns : goal.returns
returns c = turn_all _ _ _ _ c.loop-p.invariant (λ j h b. below_rest _ _ _ j (omega arith))
