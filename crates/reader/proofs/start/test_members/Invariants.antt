-- The loop: the members before the i-th pass the test.
use Rattle.reader.proofs.Testing.{Testing}
use Rattle.reader.proofs.start.test_members.Given as goal

abbrev pub invariant-loop-i : goal.invariant-loop-i
invariant-loop-i l = Testing l.cert l.variables l.states l.start l.first l.count l.at l._i
