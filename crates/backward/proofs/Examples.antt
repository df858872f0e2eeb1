-- Predecessors by computation: cases of Wishes 5 and 6 of document 02. Places are codes: 3 is cell 0.
use mathlib.Core.List.{List, [], ◌∷◌}
use mathlib.Core.Path.{◌≡◌, refl}
use Prim.Native.Nat.{ℕ}
use Rattle.heap.specs.Operation.{new, delete, below_value, copy, larger, read}
use Rattle.heap.specs.Value.{below, equals}
use Rattle.facts.specs.Facts.{Fact}
use Rattle.shape.specs.Shape.{Shape}
use Rattle.backward.specs.Predecessors.{predecessors}

abbrev fact : ℕ → ℕ → ℕ → Fact
fact k p q = record { kind = k; left = p; right = q }

abbrev shape : List ℕ → List ℕ → List Fact → Shape
shape vars links facts = record { vars = vars; links = links; facts = facts }

-- Wish 5: "With V = 2 and both at *, the predecessors become two."
two_cases : predecessors (delete 1) (shape (2 ∷ 2 ∷ []) [] []) ≡ shape (3 ∷ 2 ∷ []) (0 ∷ []) [] ∷ shape (3 ∷ 3 ∷ []) (0 ∷ []) [] ∷ []
two_cases = refl

-- the new fact is added and closed
test_adds : predecessors (below_value 1 2) (shape (3 ∷ 4 ∷ []) (0 ∷ 0 ∷ []) [])
    ≡ shape (3 ∷ 4 ∷ []) (0 ∷ 0 ∷ []) (fact below 3 4 ∷ fact equals 3 3 ∷ fact equals 4 4 ∷ []) ∷ []
test_adds = refl

-- a predecessor that puts a cell below itself is dropped, before the written cell's facts go
dropped_first : predecessors (larger 1 2) (shape (3 ∷ 4 ∷ []) (0 ∷ 0 ∷ []) (fact below 3 4 ∷ [])) ≡ []
dropped_first = refl

-- one cell for both operands
copy_one_cell : predecessors (copy 1 2) (shape (3 ∷ 3 ∷ []) (0 ∷ 0 ∷ []) (fact below 3 4 ∷ []))
    ≡ shape (3 ∷ 3 ∷ []) (0 ∷ 0 ∷ []) (fact below 3 4 ∷ fact equals 3 3 ∷ fact equals 4 4 ∷ []) ∷ []
copy_one_cell = refl

larger_one_cell : predecessors (larger 1 2) (shape (3 ∷ 3 ∷ []) (0 ∷ 0 ∷ []) (fact below 3 4 ∷ []))
    ≡ shape (3 ∷ 3 ∷ []) (0 ∷ 0 ∷ []) (fact equals 3 3 ∷ fact equals 4 4 ∷ []) ∷ []
larger_one_cell = refl

-- what is known of other cells by way of the written one stays
by_way : predecessors (read 1) (shape (4 ∷ []) (0 ∷ 0 ∷ 0 ∷ []) (fact below 3 4 ∷ fact below 4 5 ∷ []))
    ≡ shape (4 ∷ []) (0 ∷ 0 ∷ 0 ∷ []) (fact below 3 5 ∷ fact equals 3 3 ∷ fact equals 5 5 ∷ []) ∷ []
by_way = refl

-- a cell with any fact can't come from new
not_new : predecessors (new 1) (shape (3 ∷ []) (0 ∷ []) (fact equals 3 3 ∷ [])) ≡ []
not_new = refl
