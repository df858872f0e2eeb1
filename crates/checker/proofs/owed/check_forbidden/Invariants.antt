-- The loop: the covers of the forbidden shapes before the i-th are checked.
use Prim.Native.Nat.{◌-◌}
use Rattle.layout.specs.Entries.{entries_at, EntriesIn}
use Rattle.layout.specs.Members.{members_from}
use Rattle.checker.specs.Checking.{covers_of}
use Rattle.checker.proofs.Checking.{Progress}
use Rattle.checker.proofs.owed.check_forbidden.Given as goal

abbrev pub invariant-loop-i : goal.invariant-loop-i
invariant-loop-i l =
    EntriesIn l.job l.variables l.at (l.bads - l._i)
    × Progress l.cert (covers_of l.cert (members_from l.cert l.variables l.starts) (entries_at l.job l.variables l.first l.bads)) l.initial.t
    (covers_of l.cert (members_from l.cert l.variables l.starts) (entries_at l.job l.variables l.at (l.bads - l._i))) l.t
