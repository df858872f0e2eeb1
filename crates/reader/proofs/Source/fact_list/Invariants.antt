-- The loop: i of the facts are read, and what is left of the parser goes on at the place, after a fact that the least rank is due after.
use Rattle.reader.specs.Number.{buffer_in}
use Rattle.reader.proofs.Facts.{Rising}
use Rattle.reader.proofs.Source.fact_list.Given as goal

abbrev pub invariant-loop-i : goal.invariant-loop-i
invariant-loop-i l = Rising (buffer_in l.self) l.n l.count l.first l.at l.least l._i
