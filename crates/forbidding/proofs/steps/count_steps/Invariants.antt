-- The loop: what is counted and what is left to count make the whole number.
use Rattle.forbidding.proofs.Stepping.{Counting}
use Rattle.forbidding.proofs.steps.count_steps.Given as goal

abbrev pub invariant-loop-i : goal.invariant-loop-i
invariant-loop-i l = Counting l.job l.first l.count l.variables l.shapes l.i
