-- The loop looks at the first job's forbidden shapes one after the other.
use mathlib.Core.Path.{◌≡◌}
use Prim.Native.Nat.{◌-◌}
use Rattle.layout.specs.Entries.{located_at, entries_at, EntriesIn}
use Rattle.joint.specs.Answer.{listed_among}
use Rattle.joint.proofs.is_listed.Given as goal

abbrev pub invariant-loop-i : goal.invariant-loop-i
invariant-loop-i l =
    let owed = (located_at l.cert l.variables l.member).shape in
    EntriesIn l.job l.variables l.at (l.bads - l._i)
    × (listed_among l.state (entries_at l.job l.variables l.at (l.bads - l._i)) owed ≡ listed_among l.state (entries_at l.job l.variables l.first l.bads) owed)
