-- Past the end, one byte, or more than one.
use native.Mathlib.Omega.{arith}
use Rattle.number.proofs.Reading.{past_end, one_byte}
use Rattle.number.proofs.read_number.Goals as goal

pub returns-then-bytes-at : goal.returns-then-bytes-at
returns-then-bytes-at c = past_end c.args.bytes.now c.args.at (omega arith)

pub returns-then-a-lt128 : goal.returns-then-a-lt128
returns-then-a-lt128 c = one_byte c.args.bytes.now c.args.at c.wide-a.result (omega arith) (omega arith) (omega arith)
