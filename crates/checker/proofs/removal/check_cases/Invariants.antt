-- The loop: the covers of the cases before the k-th are checked.
use Rattle.layout.specs.Members.{members_from}
use Rattle.placing.specs.Wanted.{one_by_one}
use Rattle.undoing.specs.Before.{before_rowed}
use Rattle.checker.proofs.ChoiceLoop.{ChoiceLoop}
use Rattle.checker.proofs.removal.check_cases.Given as goal

abbrev pub invariant-loop-case : goal.invariant-loop-case
invariant-loop-case l =
    ChoiceLoop l.cert (members_from l.cert l.variables l.starts) l.by.from (before_rowed l.variables l.by.kind l.cases.end l.prepared l.facts)
    (one_by_one l.cases.first l.cases.end) l.cases.first l.cases.end l.initial.t l.case l.t
