-- The loop: the covers of the members before the m-th are checked.
use lib.ListN.{drop}
use Rattle.lists.specs.List.{concat_map}
use Rattle.layout.specs.Entries.{members_at}
use Rattle.layout.specs.Members.{members_from}
use Rattle.checker.specs.Checking.{covers_of}
use Rattle.checker.specs.Jobs.{owed_by}
use Rattle.checker.proofs.Checking.{Progress}
use Rattle.checker.proofs.owed.check_members.Given as goal

abbrev pub invariant-loop-m : goal.invariant-loop-m
invariant-loop-m l =
    Progress l.cert (covers_of l.cert (members_from l.cert l.h.variables l.starts) (concat_map (owed_by l.job l.h) (members_at l.cert l.h.variables l.starts))) l.initial.t
    (covers_of l.cert (members_from l.cert l.h.variables l.starts) (concat_map (owed_by l.job l.h) (members_at l.cert l.h.variables (drop l.m l.starts)))) l.t
