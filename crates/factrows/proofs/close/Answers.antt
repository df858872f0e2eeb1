-- The facts from i on are closed.
use Rattle.std.proofs.Common.{◌∙◌, arith}
use Rattle.factrows.specs.Listed.{count}
use Rattle.factrows.proofs.Cases.{closed_more, closed_none}
use Rattle.factrows.proofs.close.Goals as goal

pub loop-i-init : goal.loop-i-init
loop-i-init c = let s = c.args.s.now in c.clear.ensures ∙ closed_none s (count s)

pub loop-i-preserved : goal.loop-i-preserved
loop-i-preserved c =
    let s = c.args.s.now in
    c.add_fact.ensures
    ∙ rw (c.wide.ensures.0, c.wide-in-loop-i.ensures.0, c.wide-in-loop-i-2.ensures.0, c.loop-i.invariant) (closed_more s (count s) c.loop-i.i (omega arith) (omega arith))
