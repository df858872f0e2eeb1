-- The loop tests the variables in turn, as `variable_elsewhere` does; only where all fit is something to be shown.
use Rattle.covering.specs.Images.{var_fits_in}
use Rattle.lists.proofs.Lowest.{Passing}
use Rattle.covering.proofs.quick.quick_vars.Given as goal

abbrev pub invariant-loop-i : goal.invariant-loop-i
invariant-loop-i l = Passing (var_fits_in l.cert l.first l.images l.s) l.count l.i
