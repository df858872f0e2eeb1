-- The test for a free cell, one part after the other, and the test before a deleted cell is restored.
use mathlib.Core.Bool.{Bool, true, false}
use mathlib.Core.List.{List}
use mathlib.Core.Logic.{◌≢◌}
use mathlib.Core.Path.{◌≡◌, refl, sym, ◌∙◌}
use Prim.Native.Nat.{ℕ, ◌≤◌, ◌<◌}
use native.Mathlib.Decide.{ℕ_discrete}
use native.Mathlib.Omega.{arith}
use borrow.Author.Tests.{lt-ltb, le-leb}
use Rattle.lists.specs.List.{keep}
use Rattle.lists.proofs.Reflect.{Reflect, r_eq, r_and, r_or, r_iff, r_le, r_lt, r_itself, is_true, is_false, passes}
use Rattle.heap.specs.Place.{nowhere, null, dangling, cell}
use Rattle.layout.specs.ShapeArray.{cell_count, operand_at, shape_in, ShapeArray}
use Rattle.shapes.specs.Change.{is_free_cell, array_without, is_restorable}
use Rattle.shapes.specs.Without.{is_free, without}
use Rattle.shapes.proofs.Remove.{holds_without}

-- ---- the test for a cell that can be taken out

-- what the test says
pub record FreeCell (variables : ℕ) (s : List ℕ) (k : ℕ) : Type 0 where
  pub variables_fit : variables ≤ 9
  pub cells_fit : cell_count s ≤ 14
  pub is_cell : k < cell_count s
  pub free : is_free (cell k) (shape_in variables s) ≡ true

module _ (variables : ℕ) (s : List ℕ) (k : ℕ) where
  r_free_cell : Reflect (FreeCell variables s k) (is_free_cell variables s k)
  unfolding is_free_cell
  r_free_cell =
      r_iff (λ (v, (c, (i, f))). record { variables_fit = v; cells_fit = c; is_cell = i; free = f })
      (λ f. (f.variables_fit, (f.cells_fit, (f.is_cell, f.free))))
      (r_and (r_le variables 9) (r_and (r_le (cell_count s) 14) (r_and (r_lt k (cell_count s)) (r_itself (is_free (cell k) (shape_in variables s))))))

  pub free_cell : is_free_cell variables s k ≡ true → FreeCell variables s k
  free_cell e = r_free_cell.holds (passes (is_free_cell variables s k) e)

  module _ (few : variables ≤ 9) (small : cell_count s ≤ 14) (is_cell : k < cell_count s) where
    pub by_shape : is_free (cell k) (shape_in variables s) ≡ is_free_cell variables s k
    unfolding is_free_cell
    by_shape = rw (le-leb variables 9 few, le-leb (cell_count s) 14 small, lt-ltb k (cell_count s) is_cell) refl

-- where it is passed, the shape in the array without the cell
pub by_array : (variables : ℕ) (s : List ℕ) → ShapeArray variables s → (k : ℕ) → k < cell_count s
    → keep (is_free_cell variables s k) (shape_in variables (array_without s k)) ≡ without (shape_in variables s) k
by_array variables s h k is_cell = go (is_free_cell variables s k) refl
  where
    go : (r : Bool) → is_free_cell variables s k ≡ r → keep r (shape_in variables (array_without s k)) ≡ without (shape_in variables s) k
    go false e = rw (by_shape variables s k h.variables_fit h.cells_fit is_cell, e) refl
    go true e =
        let free = (free_cell variables s k e).free in
        rw ((holds_without variables s h k is_cell (passes (is_free (cell k) (shape_in variables s)) free)).same, free) refl

-- ---- the test before a deleted cell is restored

-- what the test says
pub record Restorable (variables a : ℕ) (s : List ℕ) : Type 0 where
  pub variables_fit : variables ≤ 9
  pub a_fits : a < 10
  pub cell_fits : cell_count s < 14
  pub not_null : operand_at s a ≢ null
  pub no_cell : operand_at s a ≤ dangling

module _ (variables a : ℕ) (s : List ℕ) where
  r_restorable : Reflect (Restorable variables a s) (is_restorable variables a s)
  unfolding is_restorable
  r_restorable = r_iff made parts (r_and (r_le variables 9) (r_and (r_lt a 10) (r_and (r_lt (cell_count s) 14) (r_or (r_eq x nowhere) (r_eq x dangling)))))
    where
      x : ℕ
      x = operand_at s a

      made : (variables ≤ 9) × ((a < 10) × ((cell_count s < 14) × (x ≢ nowhere → x ≡ dangling))) → Restorable variables a s
      made (v, (b, (c, h))) =
          record {
            variables_fit = v;
            a_fits = b;
            cell_fits = c;
            not_null = λ e. let z = h (omega arith) in omega arith;
            no_cell = go (ℕ_discrete x nowhere);
          }
        where
          go : Dec (x ≡ nowhere) → x ≤ dangling
          go (yes e) = omega arith
          go (no n) = let z = h n in omega arith

      parts : Restorable variables a s → (variables ≤ 9) × ((a < 10) × ((cell_count s < 14) × (x ≢ nowhere → x ≡ dangling)))
      parts h = (h.variables_fit, (h.a_fits, (h.cell_fits, λ n. omega (arith, h.not_null, h.no_cell))))

  pub not_restorable : (Restorable variables a s → ⊥) → is_restorable variables a s ≡ false
  not_restorable f = is_false (is_restorable variables a s) (λ t. f (r_restorable.holds t))

  pub restorable : Restorable variables a s → is_restorable variables a s ≡ true
  restorable h = is_true (is_restorable variables a s) (r_restorable.tests h)

  pub is_restorable_lem : is_restorable variables a s ≡ true → Restorable variables a s
  is_restorable_lem e = r_restorable.holds (passes (is_restorable variables a s) e)

  -- there is room for the variables
  pub restored_fit : (r : Bool) → r ≡ is_restorable variables a s → r ≡ true → variables ≤ 9
  restored_fit r r_is e = (is_restorable_lem (sym r_is ∙ e)).variables_fit
