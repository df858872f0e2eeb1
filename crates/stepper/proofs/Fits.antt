-- The tests of a table: one number more is tested, and the test of a place by halves: there is one just where it is wanted, and a cell's is a used cell's.
use mathlib.Core.Bool.{Bool, true, false, ◌&&◌, not, cond, beq, and-false, and-true}
use mathlib.Core.List.{List}
use mathlib.Core.Path.{◌≡◌, refl, sym, ap, ap₂, ◌∙◌}
use Prim.Native.Nat.{ℕ, zero, suc, ◌+◌, ◌-◌, ◌≤◌, ◌<◌}
use native.Mathlib.Numerals.{add-one}
use native.Mathlib.Omega.{arith}
use borrow.Author.Tests.{le-ltb, ne_eqb}
use lib.Dec.{eqb, ltb}
use lib.ListN.{get_or}
use Rattle.heap.specs.Place.{nowhere, cell}
use Rattle.heap.proofs.Codes.{by_code}
use Rattle.lists.specs.Test.{all_from}
use Rattle.lists.proofs.Test.{all_done}
use Rattle.place.specs.Place.{codes}
use Rattle.stepper.specs.Table.{standing, aimed, aimed_at, slot_fits, cell_fits}
use Rattle.stepper.specs.declared.Heap64.{Heap64}

pub one_tested : (test : ℕ → Bool) (n i : ℕ) (b : Bool) → i < n → (b && test i) && all_from (n - (i + 1)) (i + 1) test ≡ b && all_from (n - i) i test
unfolding all_from
one_tested test n i false h = refl
one_tested test n i true h = let left : n - i ≡ suc (n - (i + 1)) = omega arith in rw (left, add-one i) refl

pub all_tested : (test : ℕ → Bool) (n i : ℕ) (b : Bool) → n ≤ i → b && all_from (n - i) i test ≡ all_from n 0 test → b ≡ all_from n 0 test
all_tested test n i b h e = sym (and-true b) ∙ ap (λ c. b && c) (sym (all_done test n i h)) ∙ e

-- ---- two tests as one

crossed : (a b c d : Bool) → (a && b) && (c && d) ≡ (a && c) && (b && d)
crossed false b c d = refl
crossed true b false d = and-false b
crossed true b true d = refl

both : (x y z : ℕ → Bool) → ((i : ℕ) → z i ≡ x i && y i) → (n k : ℕ) → all_from n k z ≡ all_from n k x && all_from n k y
unfolding all_from
both x y z h zero k = refl
both x y z h (suc n) k = ap₂ (λ b c. b && c) (h k) (both x y z h n (suc k)) ∙ crossed (x k) (y k) (all_from n (suc k) x) (all_from n (suc k) y)

-- one is wanted just where there is one
abbrev pub marked : Bool → ℕ → Bool
marked wanted p = beq wanted (not (eqb p nowhere))

halves : (used : List Bool) (p : ℕ) (wanted : Bool) → cond wanted (standing used p) (eqb p nowhere) ≡ marked wanted p && aimed used p
unfolding standing
halves used =
    by_code (λ p. (wanted : Bool) → cond wanted (standing used p) (eqb p nowhere) ≡ marked wanted p && aimed used p)
    (elim [ true ↦ refl | false ↦ refl ]) (elim [ true ↦ refl | false ↦ refl ]) (elim [ true ↦ refl | false ↦ refl ]) at_cell
  where
    at_cell : (i : ℕ) (wanted : Bool) → cond wanted (standing used (cell i)) (eqb (cell i) nowhere) ≡ marked wanted (cell i) && aimed used (cell i)
    at_cell i true = simp (le-ltb (cell i) 3 (omega arith), ne_eqb (cell i) nowhere (λ e. omega arith))
    at_cell i false = simp (ne_eqb (cell i) nowhere (λ e. omega arith))

module _ (t : Heap64) where
  abbrev pub slot_marked : ℕ → Bool
  slot_marked i = marked (ltb i t.variables) (get_or (codes t.vars) i nowhere)

  abbrev pub cell_marked : ℕ → Bool
  cell_marked i = marked (get_or t.used i false) (get_or (codes t.links) i nowhere)

  pub slots_are : all_from 8 0 (slot_fits t) ≡ all_from 8 0 slot_marked && all_from 8 0 (aimed_at t.used t.vars)
  slots_are = both slot_marked (aimed_at t.used t.vars) (slot_fits t) (λ i. halves t.used (get_or (codes t.vars) i nowhere) (ltb i t.variables)) 8 0

  pub cells_are : all_from 64 0 (cell_fits t) ≡ all_from 64 0 cell_marked && all_from 64 0 (aimed_at t.used t.links)
  cells_are = both cell_marked (aimed_at t.used t.links) (cell_fits t) (λ i. halves t.used (get_or (codes t.links) i nowhere) (get_or t.used i false)) 64 0
