-- The facts from i on are closed.
use Rattle.std.proofs.Common.{◌≡◌, ◌-◌}
use Rattle.factrows.specs.Listed.{count, closed_from}
use Rattle.factrows.proofs.close.Given as goal

abbrev pub invariant-loop-i : goal.invariant-loop-i
invariant-loop-i l = l.rows ≡ closed_from l.s (count l.s - l.i) l.i
