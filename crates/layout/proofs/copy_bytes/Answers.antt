-- The first i bytes are copied, and then one more.
use Rattle.std.proofs.Common.{drop, arith}
use lib.Seq.{paste-zero}
use Rattle.layout.proofs.Copies.{copy_more}
use Rattle.layout.proofs.copy_bytes.Goals as goal

pub loop-i-init : goal.loop-i-init
loop-i-init c = let a = c.args in paste-zero a.to.now a.at (drop a.first a.bytes.now)

pub loop-i-preserved : goal.loop-i-preserved
loop-i-preserved c = copy_more _ _ _ _ _ _ c.loop-i.invariant (omega arith) (omega arith)
