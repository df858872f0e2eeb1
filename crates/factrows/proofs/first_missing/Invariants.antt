-- The cells before p have no missing fact.
use Rattle.lists.proofs.Lowest.{Passing}
use Rattle.factrows.specs.Listed.{cell_holds}
use Rattle.factrows.proofs.first_missing.Given as goal

abbrev pub invariant-loop-p : goal.invariant-loop-p
invariant-loop-p l = Passing (cell_holds l.rows l.s l.images) l.n l.p
