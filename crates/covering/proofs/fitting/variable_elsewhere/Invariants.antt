-- The loop tests the variables in turn: those before i fit (`Passing`).
use Rattle.covering.specs.Images.{var_fits_in}
use Rattle.lists.proofs.Lowest.{Passing}
use Rattle.covering.proofs.fitting.variable_elsewhere.Given as goal

abbrev pub invariant-loop-i : goal.invariant-loop-i
invariant-loop-i l = Passing (var_fits_in l.cert l.first l.images l.s) l.count l.i
