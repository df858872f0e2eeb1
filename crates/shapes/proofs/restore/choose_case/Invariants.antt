-- The loop: the variables before the i-th stand where they stood by their case.
use mathlib.Core.Path.{◌≡◌}
use Rattle.shapes.specs.Change.{vars_by_case}
use Rattle.shapes.proofs.ByCase.{chosen_to}
use Rattle.shapes.proofs.restore.choose_case.Given as goal

abbrev pub invariant-loop-code : goal.invariant-loop-code
invariant-loop-code l = vars_by_case l.gone l.count l.k l.initial.vars ≡ chosen_to l.gone l.half l.left l.vars l.code-index
