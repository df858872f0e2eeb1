-- The loop: whether the marks before the index fit.
use Rattle.std.specs.Prelude.{◌↔◌, IsTrue}
use Rattle.heapcodec.proofs.Codec.{MarksFit}
use Rattle.heapcodec.proofs.are_marks.Given as goal

abbrev pub invariant-loop-mark : goal.invariant-loop-mark
invariant-loop-mark l = IsTrue l.fit ↔ MarksFit l.marks l.mark-index
