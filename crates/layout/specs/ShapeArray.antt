-- A shape under work, as one array of 28 codes. Slot 0 has the number of cells, slot 1 is kept free, slot p has the place of the link of the
-- cell with code p (3 to 16), and slot 17 + x the place of operand x: null, the variables, and after them the helper of kind 4.
use Rattle.std.specs.Prelude.{List, [], ◌≡◌, ℕ, ◌+◌, ◌≤◌, ◌<◌, length, get_or, take, drop}
use Rattle.heap.specs.Place.{nowhere, null, cell}
use Rattle.shape.specs.Shape.{Shape}

-- the number of cells
abbrev pub cell_count : List ℕ → ℕ
cell_count s = get_or s 0 0

-- where operand x stands
abbrev pub operand_at : List ℕ → ℕ → ℕ
operand_at s x = get_or s (17 + x) nowhere

-- where the links of the cells stand, from cell 0
abbrev pub links_in : List ℕ → List ℕ
links_in s = take (cell_count s) (drop 3 s)

-- the shape in the array, with so many variables; its facts are not in the array
abbrev pub shape_in : ℕ → List ℕ → Shape
shape_in variables s = record { vars = take variables (drop 18 s); links = links_in s; facts = [] }

-- The array holds a shape with so many variables, its codes in range. There is room for 8 variables and a helper, and for 14 cells; what stands
-- above the variables is nowhere.
pub record ShapeArray (variables : ℕ) (s : List ℕ) : Type 0 where
  pub slots : length s ≡ 28
  pub variables_fit : variables ≤ 9
  pub cells_fit : cell_count s ≤ 14
  pub null_place : operand_at s 0 ≡ null
  pub operands_range : (x : ℕ) → operand_at s x < cell (cell_count s)
  pub operands_above : (x : ℕ) → variables < x → operand_at s x ≡ nowhere
  pub links_range : (i : ℕ) → i < cell_count s → get_or s (cell i) nowhere < cell (cell_count s)
