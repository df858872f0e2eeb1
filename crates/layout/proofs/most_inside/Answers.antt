-- Where a test fails the most is not inside; what is left from the first link on decides.
use Rattle.std.proofs.Common.{arith}
use Rattle.layout.proofs.Loading.{not_most, most_left}
use Rattle.layout.proofs.most_inside.Goals as goal

pub returns-then-variables-gt8 : goal.returns-then-variables-gt8
returns-then-variables-gt8 c = not_most _ _ _ (λ m. omega (arith, m.0, m.1.0, c.then-variables-gt8.either))

pub returns : goal.returns
returns c = most_left _ _ _ (omega arith) (omega arith) (omega arith)
