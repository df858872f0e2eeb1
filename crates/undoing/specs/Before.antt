-- The predecessors of a shape in an array, its facts in rows.
use Rattle.std.specs.Prelude.{Bool, ◌&&◌, not, cond, List, [], ◌∷◌, ℕ, ◌-◌, eqb, ltb}
use Rattle.lists.specs.List.{concat_map, keep}
use Rattle.lists.specs.Range.{range}
use Rattle.shape.specs.Shape.{Shape, var_at}
use Rattle.factrows.specs.Rows.{has_fact, cell_number, lowered}
use Rattle.layout.specs.ShapeArray.{cell_count, operand_at, shape_in}
use Rattle.placing.specs.Retained.{firsts}
use Rattle.shapes.specs.Change.{cases_of, array_prepared, is_before, array_before}
use Rattle.shapes.specs.Operands.{shape_under}
use Rattle.undoing.specs.Rowed.{Rowed, rowed}
use Rattle.undoing.specs.Undone.{is_undone, rows_undone}

-- ---- kinds 1 to 5, which leave the facts, and 8 to 13

-- of a shape whose operands are placed: one, or none where a fact that is told puts a cell below itself
unfoldable pub facts_before : ℕ → ℕ → ℕ → List ℕ → Shape → List Rowed
facts_before kind a b rows s =
    let c = cell_number (var_at s a) in
    let d = cell_number (var_at s b) in
    cond (ltb 5 kind) (keep (is_undone kind c d rows) (rowed (rows_undone kind c d rows) s)) (rowed rows s ∷ [])

-- the same of a shape in an array, for kinds 8 to 13
abbrev pub valued_before : ℕ → ℕ → ℕ → ℕ → List ℕ → List ℕ → List Rowed
valued_before variables kind a b s rows =
    let c = cell_number (operand_at s a) in
    let d = cell_number (operand_at s b) in
    keep (is_undone kind c d rows) (rowed (rows_undone kind c d rows) (shape_in variables s))

-- all of them; b may be the helper of kind 4, one above the variables
abbrev pub choices_rowed : ℕ → ℕ → ℕ → ℕ → List ℕ → List ℕ → List Rowed
choices_rowed variables kind a b s rows = concat_map (facts_before kind a b rows) (firsts variables kind a b (shape_under variables b s))

-- ---- kinds 6 and 7, by case k of so many of a prepared array

-- cell k was the new one
abbrev pub is_taken_out : ℕ → List ℕ → ℕ → Bool
is_taken_out kind s k = eqb kind 6 && ltb k (cell_count s)

-- "A cell with any fact can't come from new"
unfoldable pub is_before_rowed : ℕ → ℕ → List ℕ → List ℕ → ℕ → Bool
is_before_rowed variables kind s rows k = is_before variables kind s k && not (is_taken_out kind s k && has_fact rows 1 k k)

unfoldable pub rows_before : ℕ → List ℕ → List ℕ → ℕ → List ℕ
rows_before kind s rows k = cond (is_taken_out kind s k) (lowered k rows) rows

unfoldable pub before_rowed : ℕ → ℕ → ℕ → List ℕ → List ℕ → ℕ → List Rowed
before_rowed variables kind count s rows k =
    keep (is_before_rowed variables kind s rows k) (rowed (rows_before kind s rows k) (shape_in variables (array_before variables kind count s k)))

-- by all cases
unfoldable pub cases_rowed : ℕ → ℕ → ℕ → List ℕ → List ℕ → List Rowed
cases_rowed variables kind a s rows =
    let cases = cases_of variables kind a s in
    concat_map (before_rowed variables kind cases.end (array_prepared variables kind a s) rows) (range cases.first (cases.end - cases.first))
