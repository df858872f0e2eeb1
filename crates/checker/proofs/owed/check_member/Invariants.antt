-- The loop along the index: the covers for the transitions into the member's state so far are checked.
use lib.ListN.{get_or}
use Rattle.layout.specs.Entries.{located_at}
use Rattle.layout.specs.Members.{members_from}
use Rattle.checker.proofs.Chain.{left_from, Chain}
use Rattle.checker.proofs.owed.check_member.Given as goal

abbrev pub invariant-loop-k : goal.invariant-loop-k
invariant-loop-k l = Chain l.job l.h l.cert (members_from l.cert l.h.variables l.starts) (located_at l.cert l.h.variables (get_or l.starts l.m 0)) l.initial.t l.k l.t

abbrev pub decreases-loop-k : goal.decreases-loop-k
decreases-loop-k l = left_from l.h.transitions l.k
