-- The loop takes the images in turn: those before i are read and marked, and differ (`ReadingMarked`).
use Rattle.covering.proofs.ReadAndMark.{ReadingMarked}
use Rattle.covering.proofs.quick.read_and_mark.Given as goal

abbrev pub invariant-loop-i : goal.invariant-loop-i
invariant-loop-i l = ReadingMarked l.cert l.first l.n l.count l.images l.marks l.i
