-- The rows before j are moved; the last is emptied after the loop.
use Rattle.std.proofs.Common.{◌≡◌, arith}
use Rattle.factrows.proofs.Turning.{turn_none, turn_more, turn_all, moved_first, moved_new, moved_last, moved_rest}
use Rattle.factrows.proofs.move_rows.Goals as goal

pub loop-j-init : goal.loop-j-init
loop-j-init c = turn_none _ _ _ c.told-rows (moved_first _ _ _)

pub loop-j-preserved : goal.loop-j-preserved
loop-j-preserved c = let t = c.loop-j.invariant in turn_more _ _ _ _ t _ (omega arith) (moved_new _ _ _ _ _ t (omega arith) (omega arith))

pub returns : goal.returns
returns c =
    let end : c.loop-j.j ≡ c.args.last = omega arith in
    let t = turn_more _ _ _ _ c.loop-j.invariant 0 (omega arith) (moved_last _ _ _ _ end (omega arith)) in
    turn_all _ _ _ _ (rw end at t) (λ j h b. moved_rest _ _ _ j (omega arith) (omega arith))
