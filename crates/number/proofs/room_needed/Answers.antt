-- The loop: the bytes of the numbers before the i-th and of the rest make those of the list.
use mathlib.Core.Path.{ap}
use native.Mathlib.Omega.{arith}
use lib.ListN.{length}
use Rattle.number.proofs.Writing.{length_left, encode_end}
use Rattle.number.proofs.room_needed.Goals as goal

pub loop-n-preserved : goal.loop-n-preserved
loop-n-preserved c = (omega (arith, length_left c.args.numbers.now c.loop-n.n-index (omega arith)), omega arith)

pub returns : goal.returns
returns c = omega (arith, ap length (encode_end c.args.numbers.now c.loop-n.n-index (omega arith)))
