-- The cases that `undo_values` tells apart.
use native.Mathlib.Omega.{arith}
use Rattle.std.proofs.lemmas.Bool.Decides.{nat_tests}
use mathlib.Core.Bool.{true, false, not}
use mathlib.Core.List.{List}
use mathlib.Core.Logic.{◌≢◌}
use mathlib.Core.Path.{◌≡◌, refl}
use Prim.Native.Nat.{ℕ, ◌<◌}
use borrow.Author.Tests.{eq-eqb, ne_eqb, lt-ltb}
use Rattle.factrows.specs.Rows.{with_fact, clashing, without_cell}
use Rattle.undoing.specs.Undone.{fact_kind, left_cell, right_cell, is_own, is_undone, rows_told, rows_undone}

-- an operation with larger or smaller names one cell
pub own : (kind c d : ℕ) → 10 < kind → c ≡ d → is_own kind c d ≡ true
unfolding is_own
own kind c d h e = rw (lt-ltb 10 kind h, eq-eqb c d e) refl

-- it does not
pub not_own : (kind c d : ℕ) → (10 < kind → c ≢ d) → is_own kind c d ≡ false
unfolding is_own
not_own kind c d h = grind (arith, nat_tests)

module _ (kind c d : ℕ) (l : List ℕ) where
  -- read
  pub undone_read : kind ≡ 13 → (true ≡ is_undone kind c d l) × (without_cell c l ≡ rows_undone kind c d l)
  unfolding is_undone rows_undone
  undone_read e = rw e (refl, refl)

  module _ (n : kind ≢ 13) where
    -- larger or smaller of one cell
    pub undone_own : 10 < kind → c ≡ d → (true ≡ is_undone kind c d l) × (with_fact (without_cell c l) 1 c c ≡ rows_undone kind c d l)
    unfolding is_undone rows_undone
    undone_own h e = rw (ne_eqb kind 13 n, own kind c d h e) (refl, refl)

    module _ (o : is_own kind c d ≡ false) where
      -- the fact is told, or it clashes
      pub undone_told : not (clashing l (fact_kind kind) (left_cell kind c d) (right_cell kind c d)) ≡ is_undone kind c d l
      unfolding is_undone
      undone_told = rw (ne_eqb kind 13 n, o) refl

      -- the written cell's facts go
      pub undone_written : 9 < kind → c ≢ d → without_cell c (rows_told kind c d l) ≡ rows_undone kind c d l
      unfolding rows_undone
      undone_written h e = grind (arith, nat_tests)

      -- none go: a test, or a copy of a cell to itself
      pub undone_kept : (9 < kind → c ≡ d) → rows_told kind c d l ≡ rows_undone kind c d l
      unfolding rows_undone
      undone_kept h = grind (arith, nat_tests)
