-- The rows of below before p are new.
use Rattle.factrows.specs.Rows.{below_at}
use Rattle.factrows.proofs.Turning.{Turned}
use Rattle.factrows.proofs.below_rows.Given as goal

abbrev pub invariant-loop-p : goal.invariant-loop-p
invariant-loop-p l = Turned (below_at l.c l.d l.initial.rows) l.initial.rows l.rows l.p
