-- From p, with the turns that are left, the way leads where it led at first.
use Rattle.std.proofs.Common.{◌≡◌, ◌-◌}
use Rattle.marks.specs.Marks.{cells_in, stop_from}
use Rattle.marks.proofs.stop_from.Given as goal

abbrev pub invariant-loop : goal.invariant-loop
invariant-loop l = stop_from (cells_in l.s) l.s l.marks l.first ≡ stop_from (l.n - l.counter) l.s l.marks l.p
