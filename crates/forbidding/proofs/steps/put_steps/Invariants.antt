-- The loop: the shapes of the transitions before the i-th are put, and there is room for the rest.
use Rattle.forbidding.proofs.Stepping.{Putting}
use Rattle.forbidding.proofs.steps.put_steps.Given as goal

abbrev pub invariant-loop-i : goal.invariant-loop-i
invariant-loop-i l = Putting l.job l.first l.count l.variables l.at l.initial.bytes l.next l.bytes l.i
