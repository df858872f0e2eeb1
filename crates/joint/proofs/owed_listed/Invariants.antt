-- The loop looks at the members of the second one after the other.
use mathlib.Core.Bool.{Bool}
use mathlib.Core.List.{List}
use mathlib.Core.Path.{◌≡◌}
use Prim.Native.Nat.{ℕ, ◌-◌}
use lib.ListN.{length, get_or}
use Rattle.lists.specs.Test.{all_from}
use Rattle.layout.specs.Entries.{located_at, entries_at}
use Rattle.reader.specs.declared.Header.{Header}
use Rattle.joint.specs.Answer.{is_settled}
use Rattle.joint.proofs.owed_listed.Given as goal

-- the member that the table has at i is settled
abbrev pub settled_at : List ℕ → Header → ℕ → List ℕ → List ℕ → ℕ → ℕ → Bool
settled_at job h state cert starts start i =
    is_settled state (entries_at job h.variables h.bads_at h.bads) start (located_at cert h.variables (get_or starts i 0))

abbrev pub invariant-loop-member : goal.invariant-loop-member
invariant-loop-member l =
    let test : ℕ → Bool = settled_at l.job l.h l.state l.cert l.starts l.start in
    all_from (length l.starts - l.member-index) l.member-index test ≡ all_from (length l.starts) 0 test
