-- Rows without facts.
use mathlib.Core.Bool.{true, false}
use mathlib.Core.List.{List, [], map}
use mathlib.Core.Path.{◌≡◌, refl}
use Prim.Native.Nat.{ℕ, ◌+◌, ◌%◌, ◌^◌, ◌<◌}
use native.Mathlib.Decide.{dec_lt}
use native.Mathlib.Nat.{zero-div, zero-mul, mod-eq_of_lt}
use native.Mathlib.Omega.{arith}
use lib.Pow.{pow_pos}
use lib.ListN.{get_or, get_or-replicate, get_or-eq_default}
use Rattle.lists.specs.Range.{range}
use Rattle.lists.proofs.List.{every_none}
use Rattle.lists.proofs.Reflect.{r_lt, r_or, cond_cases}
use Rattle.facts.specs.Facts.{FactOf}
use Rattle.factrows.specs.Rows.{has_fact, rows_by, no_facts, is_consistent, shrink, moved_at, lowered}
use Rattle.factrows.specs.Listed.{closed, closed_from}
use Rattle.factrows.proofs.RowsOf.{stands_none, stands_test, stands_consistent}

no_row : (j : ℕ) → get_or no_facts j 0 ≡ 0
no_row j = go (dec_lt j 28)
  where
    go : Dec (j < 28) → get_or no_facts j 0 ≡ 0
    go (yes b) = get_or-replicate 28 j 0 0 b
    go (no b) = get_or-eq_default no_facts 0 {n = j} (omega arith)

-- none is there, so none puts a cell below itself
pub has_none : (k p q : ℕ) → has_fact no_facts k p q ≡ false
has_none k p q = stands_test no_facts [] stands_none 0 (every_none (FactOf 0)) k p q

pub consistent_none : is_consistent no_facts ≡ true
consistent_none = stands_consistent no_facts [] stands_none 0 (every_none (FactOf 0))

-- of no bytes
pub closed_none : closed [] ≡ no_facts
unfolding closed_from
closed_none = refl

-- rows that are all empty
empty_rows : (f : ℕ → ℕ) → ((j : ℕ) → f j ≡ 0) → rows_by f ≡ no_facts
unfolding rows_by
empty_rows f h = (λ i. map (λ j. h j i) (range 0 28))

moved_none : (first last j : ℕ) → moved_at first last no_facts j ≡ 0
unfolding moved_at
moved_none first last j =
    cond_cases (λ (x : ℕ). x ≡ 0) (r_or (r_lt j first) (r_lt last j)) (λ _. no_row j)
    (λ _. cond_cases (λ (x : ℕ). x ≡ 0) (r_lt j last) (λ _. no_row (j + 1)) (λ _. refl))

-- a cell is taken out
shrunk_none : (c j : ℕ) → shrink (get_or no_facts j 0 % 16384) c ≡ 0
unfolding shrink
shrunk_none c j = rw (no_row j, zero-div (2 ^ c), zero-mul (2 ^ c), let e : 0 % 2 ^ c ≡ 0 = mod-eq_of_lt (pow_pos c) in e) refl

pub lowered_none : (c : ℕ) → lowered c no_facts ≡ no_facts
lowered_none c =
    cond_cases (λ (l : List ℕ). l ≡ no_facts) (r_lt c 14)
    (λ _.
    rw (empty_rows (λ j. shrink (get_or no_facts j 0 % 16384) c) (shrunk_none c), empty_rows (moved_at c 13 no_facts) (moved_none c 13))
    (empty_rows (moved_at (14 + c) 27 no_facts) (moved_none (14 + c) 27)))
    (λ _. refl)
