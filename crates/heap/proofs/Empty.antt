-- In the empty heap, a := null is enabled and puts a at #. So a run does not stay at its start.
use mathlib.Core.Path.{◌≡◌, refl}
use Prim.Native.Nat.{ℕ}
use native.Mathlib.Decide.{ℕ_discrete}
use native.Mathlib.Omega.{arith}
use Rattle.heap.specs.Heap.{empty}
use Rattle.heap.specs.Operation.{assign, Enabled, after}
use Rattle.heap.specs.Place.{null}

module _ (x : ℕ) where
  pub null_enabled : Enabled (assign 1 0) x empty
  null_enabled e = omega arith

  pub null_assigned : (after (assign 1 0) x empty).var 1 ≡ null
  unfolding ℕ_discrete
  null_assigned = refl
