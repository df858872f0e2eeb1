-- Every row is without the digit of the cell; its own two are emptied at the end.
use Rattle.std.proofs.Common.{arith, rules}
use borrow.Author.Tests.{lt-ltb}
use Rattle.factrows.proofs.Turning.{drop_set}
use Rattle.factrows.proofs.drop_cell.Goals as goal

pub returns : goal.returns
returns c = rw (lt-ltb c.args.c 14 (omega arith)) (drop_set c.args.c c.args.rows.now c.each_row.new.rows (omega arith) (omega arith) (λ j h. let m = c.each_row.ensures.made j (omega arith) in search rules))
