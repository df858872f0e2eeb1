-- The loop: no number before the i-th is above 65,535.
use native.Mathlib.Omega.{arith}
use Rattle.number.proofs.Writing.{above_here, above_later, above_end}
use Rattle.number.proofs.first_above.Goals as goal

pub returns-then-n-gt-LARGEST : goal.returns-then-n-gt-LARGEST
returns-then-n-gt-LARGEST c = omega (arith, above_here c.args.numbers.now c.loop-i.i (omega arith) (omega arith))

pub loop-i-preserved : goal.loop-i-preserved
loop-i-preserved c = omega (arith, above_later c.args.numbers.now c.loop-i.i (omega arith) (omega arith))

pub returns : goal.returns
returns c = omega (arith, above_end c.args.numbers.now c.loop-i.i (omega arith))
