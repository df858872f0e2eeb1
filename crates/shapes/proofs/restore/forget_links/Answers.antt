-- The slots that are given by their numbers are a table.
use native.Mathlib.Omega.{arith}
use Rattle.std.proofs.Common.{rules}
use Rattle.lists.proofs.Range.{tabled}
use Rattle.shapes.specs.Change.{slot_forgotten}
use Rattle.shapes.proofs.restore.forget_links.Goals as goal

pub returns : goal.returns
returns c = let a = c.args in tabled (slot_forgotten a.s.now) 0 28 _ (omega arith) (λ i b. let h = c.fill_slots.ensures i b in search rules)
