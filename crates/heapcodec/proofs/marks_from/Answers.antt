-- The loop fills the table.
use mathlib.Core.Path.{refl}
use native.Mathlib.Omega.{arith}
use Rattle.lists.proofs.Range.{fill_none, fill_more, fill_all}
use Rattle.heapcodec.proofs.marks_from.Goals as goal

pub loop-i-init : goal.loop-i-init
loop-i-init c = fill_none _ _ _ _ refl

pub loop-i-preserved : goal.loop-i-preserved
loop-i-preserved c = fill_more _ _ _ _ _ _ c.loop-i.invariant (omega arith) refl

pub returns : goal.returns
returns c = fill_all _ _ _ _ _ c.loop-i.invariant (omega arith)
