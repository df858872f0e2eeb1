-- What a search among numbers finds.
use mathlib.Core.Bool.{Bool}
use mathlib.Core.Option.{Option, none, some}
use mathlib.Core.Path.{◌≡◌}
use Prim.Native.Nat.{ℕ, ◌<◌}
use native.Mathlib.Omega.{arith}
use Rattle.lists.specs.Test.{lowest}
use Rattle.lists.proofs.Lowest.{Lowest, lowest_is}

-- the lowest of so many numbers is below them
pub found_below : (test : ℕ → Bool) (k i : ℕ) → lowest k 0 test ≡ some i → i < k
found_below test k i e = go (lowest k 0 test) e (lowest_is test k 0)
  where
    go : (o : Option ℕ) → o ≡ some i → Lowest k 0 test o → i < k
    go none z l = let q : ◌≡◌ {A = ℕ} 0 1 = cc in absurd (omega arith)
    go (some n) z (_, b, _, _) = let q : n ≡ i = cc in omega (arith, b)
