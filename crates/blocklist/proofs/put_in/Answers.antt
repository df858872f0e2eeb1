-- The numbers are the turns of the definition.
use mathlib.Core.List.{◌∷◌}
use mathlib.Core.Path.{◌≡◌, subst}
use Prim.Native.Nat.{ℕ, ◌+◌, ◌*◌}
use native.Mathlib.Omega.{arith}
use Rattle.blocklist.specs.Parts.{EditedBy, times, once, rest_turns}
use Rattle.blocklist.proofs.put_in.Goals as goal

pub returns : goal.returns
returns c =
    let a = c.args in
    let walk : a.n * 4096 + 1075 ≡ times a.n 4 3 3 = omega arith in
    subst (λ (w : ℕ). EditedBy a.heap.now (once 6 3 0 ∷ once 5 3 1 ∷ once 3 1 3 ∷ w ∷ once 4 2 3 ∷ once 5 3 1 ∷ once 3 3 1 ∷ once 4 1 1 ∷ once 5 3 2 ∷ rest_turns) (c.edit_by.result, c.edit_by.new.heap)) walk c.edit_by.ensures
