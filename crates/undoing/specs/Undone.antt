-- The facts before an operation of kinds 8 to 13 that names the cells c and d, by their numbers, as rows; and the same of shapes.
use Rattle.std.specs.Prelude.{Bool, ◌&&◌, ◌||◌, not, cond, List, [], ◌∷◌, ℕ, eqb, ltb}
use Rattle.heap.specs.Value.{below, equals}
use Rattle.shape.specs.Shape.{Shape}
use Rattle.backward.specs.Predecessors.{learn, forget_facts, before_copy, before_compared}
use Rattle.factrows.specs.Rows.{with_fact, clashing, without_cell}

-- the kind of the fact that is told: 1, that the two are equal, by a test for equal or a copy; else 0, that one is below the other
unfoldable pub fact_kind : ℕ → ℕ
fact_kind kind = cond (eqb kind 8 || eqb kind 10) 1 0

-- its cells: the second is the first, where a larger value was written to c
unfoldable pub left_cell : ℕ → ℕ → ℕ → ℕ
left_cell kind c d = cond (eqb kind 11) d c

unfoldable pub right_cell : ℕ → ℕ → ℕ → ℕ
right_cell kind c d = cond (eqb kind 11) c d

-- larger and smaller of one cell
unfoldable pub is_own : ℕ → ℕ → ℕ → Bool
is_own kind c d = ltb 10 kind && eqb c d

-- there is a shape before: no fact is told, or it does not put a cell below itself
unfoldable pub is_undone : ℕ → ℕ → ℕ → List ℕ → Bool
is_undone kind c d l =
    eqb kind 13 || (is_own kind c d || not (clashing l (fact_kind kind) (left_cell kind c d) (right_cell kind c d)))

-- with the fact that is told
abbrev pub rows_told : ℕ → ℕ → ℕ → List ℕ → List ℕ
rows_told kind c d l = with_fact l (fact_kind kind) (left_cell kind c d) (right_cell kind c d)

-- "the new fact is added and closed, and for 10 to 13 the written cell's facts go; where both operands name one cell, copy adds its fact and
-- leaves all, larger and smaller add no other fact and put the one that it had a value in place of that cell's facts"
unfoldable pub rows_undone : ℕ → ℕ → ℕ → List ℕ → List ℕ
rows_undone kind c d l =
    cond (eqb kind 13) (without_cell c l)
    (cond (is_own kind c d) (with_fact (without_cell c l) 1 c c)
    (cond (ltb 9 kind && not (eqb c d)) (without_cell c (rows_told kind c d l)) (rows_told kind c d l)))

-- the shapes before, one or none, of a shape whose operands stand at the cells with codes p and q: what `before` has behind its placings
unfoldable pub shapes_undone : ℕ → ℕ → ℕ → Shape → List Shape
shapes_undone kind p q s =
    cond (eqb kind 8) (learn equals p q s)
    (cond (eqb kind 9) (learn below p q s)
    (cond (eqb kind 10) (before_copy p q s)
    (cond (eqb kind 11) (before_compared p q q p s) (cond (eqb kind 12) (before_compared p q p q s) (forget_facts p s ∷ [])))))
