-- By size: one byte, two or three.
use mathlib.Core.Path.{ap}
use native.Mathlib.Omega.{arith}
use lib.ListN.{length}
use Rattle.number.proofs.Writing.{one, two, three}
use Rattle.number.proofs.width.Goals as goal

pub returns-in-0-to-127 : goal.returns-in-0-to-127
returns-in-0-to-127 c = omega (arith, ap length (one c.args.n (omega arith)))

pub returns-in-128-to-16383 : goal.returns-in-128-to-16383
returns-in-128-to-16383 c = omega (arith, ap length (two c.args.n (omega arith) (omega arith)))

pub returns-in_default : goal.returns-in_default
returns-in_default c = omega (arith, ap length (three c.args.n (omega arith)))
