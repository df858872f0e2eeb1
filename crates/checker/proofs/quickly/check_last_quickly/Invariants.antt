-- The loop, as that of check_last_choices: a cover that the quick test leaves open is checked by the exact one.
use Prim.Native.Nat.{◌+◌, ◌-◌}
use Rattle.layout.specs.ShapeArray.{cell_count}
use Rattle.layout.specs.Members.{members_from}
use Rattle.checker.proofs.Given.{last_given}
use Rattle.checker.proofs.ChoiceLoop.{ChoiceLoop}
use Rattle.checker.proofs.quickly.check_last_quickly.Given as goal

abbrev pub invariant-loop-k : goal.invariant-loop-k
invariant-loop-k l =
    ChoiceLoop l.cert (members_from l.cert l.variables l.starts) l.by.from (last_given l.variables l.by l.s l.facts) l.c 0 (cell_count l.s + (2 + cell_count l.s)) l.initial.t l.k l.t

abbrev pub decreases-loop-k : goal.decreases-loop-k
decreases-loop-k l = l.c.to - l.k
