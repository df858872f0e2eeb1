-- The loop, last to first: the transitions from the i-th on are in the index, the others are left.
use mathlib.Core.Path.{◌≡◌}
use Rattle.transitions.specs.Transitions.{to_byte, index_with}
use Rattle.transitions.proofs.index_all.Given as goal

abbrev pub invariant-loop-i : goal.invariant-loop-i
invariant-loop-i l =
    let to = to_byte l.job l.first in
    index_with to l.i l.index ≡ index_with to l.count l.initial.index
