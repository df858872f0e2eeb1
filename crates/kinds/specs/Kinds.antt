-- The table of kinds, column by column. A kind outside the table has no row.
use Rattle.std.specs.Prelude.{Bool, true, false, ℕ}
use Rattle.std.proofs.Math.Option.{Option, none, some}
use Rattle.heap.specs.Operation.{Op, Kind, kind_of, operation}
use Rattle.kinds.specs.declared.Kind as declared
use Rattle.kinds.specs.declared.Kind.TheVariants.{Equal, Different, Assign, Load, Store, New, Delete, EqualValue, BelowValue, Copy, Larger, Smaller, Read}

-- the number of a kind of the code
abbrev pub number_of : declared.Kind → ℕ
number_of Equal = 1
number_of Different = 2
number_of Assign = 3
number_of Load = 4
number_of Store = 5
number_of New = 6
number_of Delete = 7
number_of EqualValue = 8
number_of BelowValue = 9
number_of Copy = 10
number_of Larger = 11
number_of Smaller = 12
number_of Read = 13

abbrev pub from_kind : {A : Type 0} → A → (Kind → A) → Option Kind → A
from_kind other column none = other
from_kind other column (some k) = column k

unfoldable pub least_a_of : ℕ → ℕ
least_a_of kind = from_kind 0 (λ k. k.least_a) (kind_of kind)

unfoldable pub least_b_of : ℕ → ℕ
least_b_of kind = from_kind 0 (λ k. k.least_b) (kind_of kind)

unfoldable pub most_b_of : ℕ → ℕ → ℕ
most_b_of kind n = from_kind 0 (λ k. k.most_b n) (kind_of kind)

abbrev pub is_some : Option Op → Bool
is_some none = false
is_some (some o) = true

-- a kind and two operands name an operation where there are n variables
unfoldable pub allowed : ℕ → ℕ → ℕ → ℕ → Bool
allowed n kind a b = is_some (operation n kind a b)
