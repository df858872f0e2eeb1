-- One step of the loop that indexes transitions, last to first.
use mathlib.Core.List.{List}
use mathlib.Core.Path.{◌≡◌, refl}
use Prim.Native.Nat.{ℕ, suc, ◌+◌, ◌≤◌, ◌<◌}
use native.Mathlib.Numerals.{add-one}
use borrow.Author.Tests.{lt-ltb, le-ltb}
use lib.ListN.{get_or, set}
use Rattle.transitions.specs.Transitions.{index_one, index_with}

module _ (to : ℕ → ℕ) (i : ℕ) (index : List ℕ) where
  pub index_more : (k : ℕ) → i ≡ suc k → to k < 64 → index_with to k (set (set index (64 + k) (get_or index (to k) 0)) (to k) (k + 1)) ≡ index_with to i index
  unfolding index_with index_one
  index_more k e low = rw (e, lt-ltb (to k) 64 low, add-one k) refl

  -- a state that has no slot
  pub index_out : (k : ℕ) → i ≡ suc k → 64 ≤ to k → index_with to k (set index (64 + k) 0) ≡ index_with to i index
  unfolding index_with index_one
  index_out k e high = rw (e, le-ltb (to k) 64 high) refl

  pub index_none : i ≡ 0 → index ≡ index_with to i index
  unfolding index_with
  index_none e = rw e refl
