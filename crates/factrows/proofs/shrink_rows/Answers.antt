-- Every row is shrunk.
use Rattle.std.proofs.Common.{arith, rules}
use Rattle.factrows.proofs.Turning.{rows_are}
use Rattle.factrows.proofs.shrink_rows.Goals as goal

pub returns : goal.returns
returns c = rows_are _ _ (omega arith) (λ j h. let m = c.each_row.ensures.made j (omega arith) in search rules)
