-- The loop: the places before the index that were that one are *.
use mathlib.Core.Path.{◌≡◌}
use Rattle.lists.proofs.Sweep.{swept}
use Rattle.stepper.specs.Table.{dangle_place}
use Rattle.stepper.proofs.dangle.Given as goal

abbrev pub invariant-loop-p : goal.invariant-loop-p
invariant-loop-p l = l.places ≡ swept (dangle_place l.at.code) l.initial.places l.p-index
