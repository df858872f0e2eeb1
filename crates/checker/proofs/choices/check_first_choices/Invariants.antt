-- The loop: the covers of the choices before the k-th are checked, and what is skipped is not wanted.
use Prim.Native.Nat.{◌+◌, ◌-◌}
use Rattle.layout.specs.ShapeArray.{cell_count}
use Rattle.layout.specs.Members.{members_from}
use Rattle.checker.proofs.Given.{first_given}
use Rattle.checker.proofs.ChoiceLoop.{ChoiceLoop}
use Rattle.checker.proofs.choices.check_first_choices.Given as goal

abbrev pub invariant-loop-k : goal.invariant-loop-k
invariant-loop-k l =
    ChoiceLoop l.cert (members_from l.cert l.variables l.starts) l.by.from (first_given l.variables l.by l.s l.facts) l.c 0 (cell_count l.s + (2 + cell_count l.s)) l.initial.t l.k l.t

abbrev pub decreases-loop-k : goal.decreases-loop-k
decreases-loop-k l = l.c.to - l.k
