-- The shape under work while an operation of kinds 1 to 5 or 8 to 13 is undone: what its array holds.
use Rattle.std.specs.Prelude.{cond, List, ◌≢◌, ◌≡◌, ℕ, suc, ◌≤◌, ◌<◌, eqb, ltb}
use Rattle.heap.specs.Place.{nowhere, dangling}
use Rattle.place.specs.Place.{place_of, both_nowhere}
use Rattle.shape.specs.Shape.{Shape}
use Rattle.layout.specs.ShapeArray.{cell_count, operand_at, links_in, shape_in, ShapeArray}
use Rattle.placing.specs.Wanted.{wanted_first, wanted_last}
use Rattle.placing.specs.declared.Wanted.{Wanted}
use Rattle.shapes.specs.Change.{placed_in}

-- the array holds the shape t
pub record HoldsShape (variables : ℕ) (s : List ℕ) (t : Shape) : Type 0 where
  pub array : ShapeArray variables s
  pub same : shape_in variables s ≡ t

-- the operands of such an operation; where kind 4 has one variable, b is the helper, and of kind 13 it is a
pub record Operands (variables kind a b : ℕ) : Type 0 where
  pub kind_least : 1 ≤ kind
  pub variables_most : variables ≤ 8
  pub a_some : 3 ≤ kind → 1 ≤ a
  pub a_most : a ≤ variables
  pub b_most : b ≤ suc variables
  pub helper : variables < b → kind ≡ 4
  pub apart : kind ≡ 4 → a ≢ b

-- the variables of the shape under work: b may be a helper, one above them
unfoldable pub working : ℕ → ℕ → ℕ
working variables b = cond (ltb variables b) (suc variables) variables

-- the shape under work: that of the array, with room for both operands
abbrev pub shape_under : ℕ → ℕ → List ℕ → Shape
shape_under variables b s = shape_in (working variables b) s

-- it has at most so many cells
pub record Working (most variables kind a b : ℕ) (s : List ℕ) : Type 0 where
  pub operands : Operands variables kind a b
  pub cells : cell_count s ≤ most
  pub array : ShapeArray (working variables b) s

-- neither is at *, and at most one variable is still to be placed
pub record OneToPlace (variables kind a b : ℕ) (s : List ℕ) : Type 0 where
  pub work : Working 13 variables kind a b s
  pub a_safe : operand_at s a ≢ dangling
  pub b_safe : operand_at s b ≢ dangling
  pub one : operand_at s a ≡ nowhere → a ≢ b → operand_at s b ≢ nowhere

-- what is wanted of the operand placed first, in the shape of the array; the array with it placed by choice k
abbrev pub wanted_first_in : ℕ → ℕ → List ℕ → Wanted
wanted_first_in a b s = wanted_first (eqb a b) (place_of (operand_at s a)) (place_of (operand_at s b))

unfoldable pub first_placed_in : ℕ → ℕ → List ℕ → ℕ → List ℕ
first_placed_in a b s k = cond (both_nowhere (eqb a b) (operand_at s a) (operand_at s b)) (placed_in s a k) s

-- which operand is placed last, a where it is nowhere and else b, and what is wanted of it
unfoldable pub last_operand_in : ℕ → ℕ → List ℕ → ℕ
last_operand_in a b s = cond (eqb (operand_at s a) nowhere) a b

abbrev pub wanted_last_in : ℕ → ℕ → ℕ → List ℕ → Wanted
wanted_last_in kind a b s = wanted_last kind (eqb a b) (links_in s) (place_of (operand_at s a)) (place_of (operand_at s b))
