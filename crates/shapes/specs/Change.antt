-- A shape in an array (layout/specs/ShapeArray.antt), changed in place.
use Rattle.std.specs.Prelude.{Bool, ◌&&◌, ◌||◌, not, cond, List, [], ◌∷◌, ◌++◌, map, ℕ, suc, ◌+◌, ◌-◌, ◌/◌, eqb, ltb, leb, get_or, set, take, drop}
use Rattle.lists.specs.List.{keep}
use Rattle.lists.specs.Range.{range}
use Rattle.heap.specs.Place.{nowhere, null, dangling, cell}
use Rattle.shape.specs.Shape.{Shape}
use Rattle.backward.specs.Predecessors.{lower, forget}
use Rattle.layout.specs.ShapeArray.{cell_count, operand_at, shape_in}
use Rattle.shapes.specs.Without.{is_free}
use Rattle.shapes.specs.declared.Cases.{Cases}

-- ---- one change

-- operand x stands at p
abbrev pub set_operand : List ℕ → ℕ → ℕ → List ℕ
set_operand s x p = set s (17 + x) p

-- the link of the cell with code c stands at p
abbrev pub set_link_of : List ℕ → ℕ → ℕ → List ℕ
set_link_of s c p = set s c p

-- with a fresh cell, whose link stands at p
abbrev pub add_cell : List ℕ → ℕ → List ℕ
add_cell s p = set (set s 0 (suc (cell_count s))) (cell (cell_count s)) p

-- ---- kinds 1 to 5, and 8 to 13, which change facts alone

-- operand x is placed by choice k; nothing changes where it has a place
unfoldable pub placed_in : List ℕ → ℕ → ℕ → List ℕ
placed_in s x k =
    let n = cell_count s in
    let c = cell (k - (n + 2)) in
    cond (not (eqb (operand_at s x) nowhere)) s
    (cond (ltb k n) (set_operand s x (cell k))
    (cond (eqb k n) (set_operand s x null)
    (cond (eqb k (suc n)) (set_operand (add_cell s nowhere) x (cell n))
    (set_operand (set_link_of (add_cell s (get_or s c nowhere)) c (cell n)) x (cell n)))))

-- What an operation of these kinds with operands a and b changes is put back, both being placed; b above the variables is the helper.
unfoldable pub undone_in : ℕ → ℕ → ℕ → ℕ → List ℕ → List ℕ
undone_in variables kind a b s =
    let x = operand_at s a in
    let y = operand_at s b in
    cond (ltb kind 3 || ltb 5 kind) s
    (cond (eqb kind 3) (cond (eqb a b) s (set_operand s a nowhere))
    (cond (eqb kind 5) (set_link_of s x nowhere)
    (cond (ltb variables b) (set_operand (set_operand (set_link_of s y x) a y) b nowhere)
    (set_operand (set_link_of s y x) a nowhere))))

-- ---- kind 6

-- the array has room for so many variables and for its cells, and cell k is one of them, and free
unfoldable pub is_free_cell : ℕ → List ℕ → ℕ → Bool
is_free_cell variables s k = leb variables 9 && (leb (cell_count s) 14 && (ltb k (cell_count s) && is_free (cell k) (shape_in variables s)))

-- the slot from which slot i comes in a shape of n cells, once cell k is taken out: the links of the cells after it are one slot before
unfoldable pub slot_from : ℕ → ℕ → ℕ → ℕ
slot_from n k i = cond (leb (cell k) i && ltb (suc i) (cell n)) (suc i) i

-- slot i then, where higher cells have a code less by one
unfoldable pub slot_without : List ℕ → ℕ → ℕ → ℕ
slot_without s k i =
    let n = cell_count s in
    cond (eqb i 0) (n - 1) (cond (ltb i 3) (get_or s i 0) (lower (cell k) (get_or s (slot_from n k i) 0)))

abbrev pub array_without : List ℕ → ℕ → List ℕ
array_without s k = map (slot_without s k) (range 0 28)

-- ---- kind 7

-- the array has room for so many variables, for a and for a fresh cell, and a is nowhere or at *
unfoldable pub is_restorable : ℕ → ℕ → List ℕ → Bool
is_restorable variables a s =
    leb variables 9 && (ltb a 10 && (ltb (cell_count s) 14 && (eqb (operand_at s a) nowhere || eqb (operand_at s a) dangling)))

-- slot i of a shape in which no link stands at *
unfoldable pub slot_forgotten : List ℕ → ℕ → ℕ
slot_forgotten s i = cond (leb 3 i && ltb i 17) (forget (get_or s i 0)) (get_or s i 0)

abbrev pub array_forgotten : List ℕ → List ℕ
array_forgotten s = map (slot_forgotten s) (range 0 28)

-- and in which a stands at a fresh cell without a link
abbrev pub array_restored : List ℕ → ℕ → List ℕ
array_restored s a = set_operand (add_cell (array_forgotten s) nowhere) a (cell (cell_count s))

-- the number of cases of where variables that are now at these places stood: each at * doubles it
unfoldable pub case_count : List ℕ → ℕ
case_count [] = 1
case_count (p ∷ ps) = let rest = case_count ps in cond (eqb p dangling) (rest + rest) rest

-- where they stood by case k of so many, c being the deleted cell: the first variable at * was there already in the first half of the cases,
-- and stood at c in the second
unfoldable pub vars_by_case : ℕ → ℕ → ℕ → List ℕ → List ℕ
vars_by_case c count k [] = []
vars_by_case c count k (p ∷ ps) =
    let half = cond (eqb p dangling) (count / 2) count in
    let moved = eqb p dangling && leb half k in
    cond moved c p ∷ vars_by_case c half (cond moved (k - half) k) ps

-- the array by case k of so many, its last cell being the deleted one
abbrev pub array_by_case : ℕ → ℕ → ℕ → List ℕ → List ℕ
array_by_case variables count k s =
    take 18 s ++ (vars_by_case (2 + cell_count s) count k (take variables (drop 18 s)) ++ drop (18 + variables) s)

-- ---- kinds 6 and 7 by cases. Of kind 6: which cell was the new one; case n of a shape of n cells is one that the shape lacks. Of kind 7: where
-- the variables stood.

abbrev cases_from : ℕ → ℕ → Cases
cases_from first end = record { first = first; end = end }

-- the cases of kind 6, where a stands at x in a shape of n cells
unfoldable pub cases_of_new : ℕ → ℕ → Cases
cases_of_new n x = cond (eqb x nowhere) (cases_from 0 (suc n)) (cond (ltb x 3) (cases_from 0 0) (cases_from (x - 3) (suc (x - 3))))

-- the cases of kind 7
unfoldable pub cases_of_delete : ℕ → ℕ → List ℕ → Cases
cases_of_delete variables a s =
    cond (is_restorable variables a s) (cases_from 0 (case_count (take variables (drop 18 (array_restored s a))))) (cases_from 0 0)

unfoldable pub cases_of : ℕ → ℕ → ℕ → List ℕ → Cases
cases_of variables kind a s = cond (eqb kind 7) (cases_of_delete variables a s) (cases_of_new (cell_count s) (operand_at s a))

-- a is nowhere, if it has a slot
unfoldable pub operand_forgotten : List ℕ → ℕ → List ℕ
operand_forgotten s a = cond (ltb a 11) (set_operand s a nowhere) s

-- the array with what all cases have in common
unfoldable pub array_prepared : ℕ → ℕ → ℕ → List ℕ → List ℕ
array_prepared variables kind a s =
    cond (eqb kind 7) (cond (is_restorable variables a s) (array_restored s a) s) (operand_forgotten s a)

-- there is a shape before, by case k of a prepared array
unfoldable pub is_before : ℕ → ℕ → List ℕ → ℕ → Bool
is_before variables kind s k =
    cond (eqb kind 7) (leb variables 9 && leb (cell_count s) 14) (leb (cell_count s) k || is_free_cell variables s k)

-- its array
unfoldable pub array_before : ℕ → ℕ → ℕ → List ℕ → ℕ → List ℕ
array_before variables kind count s k =
    cond (eqb kind 7) (array_by_case variables count k s) (cond (leb (cell_count s) k) s (array_without s k))

-- the shapes before, by a case: one or none
unfoldable pub before_by_case : ℕ → ℕ → ℕ → List ℕ → ℕ → List Shape
before_by_case variables kind count s k = keep (is_before variables kind s k) (shape_in variables (array_before variables kind count s k))
