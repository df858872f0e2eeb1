-- Steps of the code: a kind of which there are no facts, a test of a run of numbers, and listed facts closed from the last on.
use mathlib.Core.Bool.{Bool, false, ◌&&◌}
use mathlib.Core.List.{List}
use mathlib.Core.Logic.{◌≢◌}
use mathlib.Core.Path.{◌≡◌, refl, ap}
use Prim.Native.Nat.{ℕ, zero, suc, ◌-◌, ◌≤◌, ◌<◌}
use native.Mathlib.Omega.{arith}
use Rattle.std.specs.List.{list_all, range_with_len}
use Rattle.std.proofs.Common.{add-one}
use Rattle.lists.specs.Test.{all_from}
use Rattle.factrows.specs.Rows.{no_facts, with_kind, with_fact, clash_of}
use Rattle.factrows.specs.Listed.{kind_at, left_at, right_at, closed_from}

-- ---- kinds from 2 on

module _ (l : List ℕ) (c d : ℕ) where
  pub no_kind : (k : ℕ) → k ≢ 0 → k ≢ 1 → l ≡ with_kind l k c d
  no_kind zero a b = absurd (a refl)
  no_kind (suc zero) a b = absurd (b refl)
  no_kind (suc (suc k)) a b = refl

  pub no_clash : (k : ℕ) → k ≢ 0 → k ≢ 1 → false ≡ clash_of l k c d
  no_clash zero a b = absurd (a refl)
  no_clash (suc zero) a b = absurd (b refl)
  no_clash (suc (suc k)) a b = refl

-- ---- a test of all numbers from i on, n of them

pub all_numbers : (test : ℕ → Bool) (n i : ℕ) → list_all test (range_with_len i n) ≡ all_from n i test
unfolding all_from
all_numbers test zero i = refl
all_numbers test (suc n) i = rw add-one (ap (λ b. test i && b) (all_numbers test n (suc i)))

-- ---- the facts from i on are closed: one more, none, all

pub closed_more : (s : List ℕ) (n i : ℕ) → 0 < i → i ≤ n
    → with_fact (closed_from s (n - i) i) (kind_at s (i - 1)) (left_at s (i - 1)) (right_at s (i - 1)) ≡ closed_from s (n - (i - 1)) (i - 1)
unfolding closed_from
closed_more s n i a b =
    let left : n - (i - 1) ≡ suc (n - i) = omega arith in
    let next : suc (i - 1) ≡ i = omega arith in
    rw (left, next) refl

pub closed_none : (s : List ℕ) (n : ℕ) → no_facts ≡ closed_from s (n - n) n
unfolding closed_from
closed_none s n = let none : n - n ≡ 0 = omega arith in rw none refl

pub closed_all : (s : List ℕ) (n i : ℕ) → i ≡ 0 → closed_from s (n - i) i ≡ closed_from s n 0
closed_all s n i e = rw e (ap (λ (k : ℕ). closed_from s k 0) (omega arith))
