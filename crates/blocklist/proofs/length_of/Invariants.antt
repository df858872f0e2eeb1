-- The loop: what is met from the place that is reached, with the links that are left, is what is met from the head.
use Rattle.stepper.specs.Table.{heap_of}
use Rattle.blocklist.proofs.Measuring.{Followed}
use Rattle.blocklist.proofs.length_of.Given as goal

abbrev pub invariant-loop-n : goal.invariant-loop-n
invariant-loop-n l = Followed (heap_of l.heap).link ((heap_of l.heap).var 1) l.n l.code
