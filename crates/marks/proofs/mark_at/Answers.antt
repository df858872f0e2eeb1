-- By the place: a mark of the array, or used.
use Rattle.std.proofs.Common.{sym, arith}
use Rattle.marks.proofs.Walks.{mark_read, mark_past}
use Rattle.marks.proofs.mark_at.Goals as goal

pub returns-then-p-n : goal.returns-then-p-n
returns-then-p-n c = (c.told-marks, sym (mark_read _ _ _ (omega arith)))

pub returns : goal.returns
returns c = (c.told-marks, sym (mark_past _ _ _ (omega arith)))
