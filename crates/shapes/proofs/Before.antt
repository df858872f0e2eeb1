-- Kinds 6 and 7: the shapes before, by their cases, are all that were before.
use mathlib.Core.Bool.{Bool, false}
use mathlib.Core.List.{List, [], ◌∷◌}
use mathlib.Core.Logic.{◌≢◌}
use mathlib.Core.Path.{◌≡◌, refl, sym}
use Prim.Native.Nat.{ℕ, ◌+◌, ◌-◌, ◌≤◌, ◌<◌}
use native.Mathlib.Decide.{ℕ_discrete, dec_lt}
use native.Mathlib.Omega.{arith}
use borrow.Author.Tests.{lt-ltb, le-leb, lt-leb}
use Rattle.lists.proofs.List.{concat_map_range}
use Rattle.heap.specs.Operation.{delete}
use Rattle.heap.specs.Place.{nowhere, null, dangling}
use Rattle.shape.specs.Shape.{Shape}
use Rattle.backward.specs.Predecessors as backward
use Rattle.layout.specs.ShapeArray.{cell_count, operand_at, shape_in, ShapeArray}
use Rattle.placing.proofs.Ranges.{stretch}
use Rattle.shapes.specs.Change.{set_operand, array_restored, case_count, array_by_case, cases_of_delete, operand_forgotten, array_prepared, is_before, array_before, before_by_case}
use Rattle.shapes.specs.Without.{without}
use Rattle.shapes.specs.declared.Cases.{Cases}
use Rattle.shapes.proofs.Free.{by_array, Restorable, restorable, not_restorable}
use Rattle.shapes.proofs.Restored.{array_restored_lem, delete_some, delete_none}
use Rattle.shapes.proofs.Slots.{count_operand, array_operand}

-- ---- one case, by the test r

module _ (variables kind count : ℕ) (s : List ℕ) (k : ℕ) (r : Bool) (r-is : r ≡ is_before variables kind s k) where
  pub before_none : r ≡ false → before_by_case variables kind count s k ≡ []
  unfolding before_by_case
  before_none e = rw (← r-is, e) refl

-- ---- all cases

-- the shapes before, by these cases of a prepared array
abbrev pub by_cases : ℕ → ℕ → List ℕ → Cases → List Shape
by_cases variables kind s cases = stretch (before_by_case variables kind cases.end s) cases.first cases.end

module _ (variables : ℕ) (s : List ℕ) (h : ShapeArray variables s) (small : cell_count s ≤ 12) (a : ℕ) (some : 1 ≤ a) (most : a ≤ variables) where
  abbrev shape : Shape
  shape = shape_in variables s

  abbrev n : ℕ
  n = cell_count s

  abbrev x : ℕ
  x = operand_at s a

  -- kind 6: a is nowhere in the prepared array
  abbrev pub s₀ : List ℕ
  s₀ = set_operand s a nowhere

  pub prepared_new : array_prepared variables 6 a s ≡ s₀
  unfolding array_prepared operand_forgotten
  prepared_new = rw (lt-ltb a 11 (omega (arith, h.variables_fit))) refl

  pub without_cell : (count k : ℕ) → k < n → before_by_case variables 6 count s₀ k ≡ without (shape_in variables s₀) k
  unfolding before_by_case is_before array_before
  without_cell count k b =
      let inside : k < cell_count s₀ = rw (count_operand s a nowhere) b in
      rw (lt-leb (cell_count s₀) k inside) (by_array variables s₀ (array_operand variables s h a nowhere some most (omega arith)) k inside)

  pub unchanged : (count : ℕ) → before_by_case variables 6 count s₀ n ≡ shape_in variables s₀ ∷ []
  unfolding before_by_case is_before array_before
  unchanged count = rw (le-leb (cell_count s₀) n (omega (arith, count_operand s a nowhere))) refl

  -- kind 7: the deleted cell is restored in the prepared array
  abbrev s₁ : List ℕ
  s₁ = array_restored s a

  by_case : (count k : ℕ) → before_by_case variables 7 count s₁ k ≡ shape_in variables (array_by_case variables count k s₁) ∷ []
  unfolding before_by_case is_before array_before
  by_case count k =
      let r = array_restored_lem variables s h small a some most in
      rw (le-leb variables 9 r.variables_fit, le-leb (cell_count s₁) 14 r.cells_fit) refl

  restored_all : x ≢ null → x ≤ dangling → by_cases variables 7 (array_prepared variables 7 a s) (cases_of_delete variables a s) ≡ backward.before (delete a) shape
  unfolding array_prepared cases_of_delete
  restored_all z b =
      let count = case_count (shape_in variables s₁).vars in
      let all : count - 0 ≡ count = omega arith in
      let room : Restorable variables a s = record { variables_fit = h.variables_fit; a_fits = omega (arith, h.variables_fit); cell_fits = omega arith; not_null = z; no_cell = b } in
      rw (restorable variables a s room, all, delete_some variables s h small a some most z b)
      (concat_map_range (before_by_case variables 7 count s₁) (λ k. shape_in variables (array_by_case variables count k s₁) ∷ []) 0 0 count (λ i _. by_case count (0 + i)))

  restored_none : (x ≢ null → x ≤ dangling → ⊥) → by_cases variables 7 (array_prepared variables 7 a s) (cases_of_delete variables a s) ≡ backward.before (delete a) shape
  unfolding array_prepared cases_of_delete
  restored_none f =
      rw (not_restorable variables a s (λ r. f r.not_null r.no_cell))
      (sym (delete_none variables s h a (λ e. f (omega arith) (omega arith)) (λ e. f (omega arith) (omega arith))))

  pub delete_all : by_cases variables 7 (array_prepared variables 7 a s) (cases_of_delete variables a s) ≡ backward.before (delete a) shape
  delete_all = go (ℕ_discrete x null) (dec_lt dangling x)
    where
      go : Dec (x ≡ null) → Dec (dangling < x) → by_cases variables 7 (array_prepared variables 7 a s) (cases_of_delete variables a s) ≡ backward.before (delete a) shape
      go (yes e) d = restored_none (λ z _. z e)
      go (no e) (yes b) = restored_none (λ _ l. omega arith)
      go (no e) (no b) = restored_all e (omega arith)
