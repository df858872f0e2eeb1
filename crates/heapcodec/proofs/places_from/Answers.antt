-- The loop fills the table.
use mathlib.Core.Path.{refl}
use native.Mathlib.Omega.{arith}
use Rattle.std.proofs.Math.ListN.{length-replicate}
use Rattle.lists.proofs.Range.{fill_none, fill_more, fill_all}
use Rattle.heapcodec.proofs.places_from.Goals as goal

pub loop-i-init : goal.loop-i-init
loop-i-init g c = fill_none _ _ _ _ (length-replicate g.row.N _)

pub loop-i-preserved : goal.loop-i-preserved
loop-i-preserved g c = fill_more _ _ _ _ _ _ c.loop-i.invariant (omega arith) refl

pub returns : goal.returns
returns g c = fill_all _ _ _ _ _ c.loop-i.invariant (omega arith)
