-- The sum of the code is the place by the number of bytes that T takes.
use mathlib.Core.Path.{ap}
use native.Mathlib.Omega.{arith}
use lib.ListN.{length}
use Rattle.number.proofs.Writing.{one, two}
use Rattle.forbidding.proofs.count_place.Goals as goal

pub returns-then-transitions-lt128 : goal.returns-then-transitions-lt128
returns-then-transitions-lt128 c = omega (arith, ap length (one c.args.transitions c.if-transitions-lt128.true))

pub returns : goal.returns
returns c = omega (arith, ap length (two c.args.transitions c.if-transitions-lt128.false (omega arith)))
