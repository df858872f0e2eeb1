-- The loop looks at the transitions one after the other.
use mathlib.Core.Bool.{Bool, not}
use mathlib.Core.List.{List}
use mathlib.Core.Path.{◌≡◌}
use Prim.Native.Nat.{ℕ, ◌+◌, ◌*◌, ◌-◌}
use lib.Dec.{eqb}
use lib.ListN.{get_or}
use Rattle.lists.specs.Test.{all_from}
use Rattle.joint.proofs.ends.Given as goal

-- transition i is from elsewhere
abbrev pub elsewhere : List ℕ → ℕ → ℕ → ℕ → Bool
elsewhere job first state i = not (eqb (get_or job (first + 5 * i) 0) state)

abbrev pub invariant-loop-i : goal.invariant-loop-i
invariant-loop-i l = all_from (l.count - l.i) l.i (elsewhere l.job l.first l.state) ≡ all_from l.count 0 (elsewhere l.job l.first l.state)
