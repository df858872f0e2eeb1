-- Facts about at most 14 cells as 28 rows of binary digits, 14 of below and then 14 of equal: digit q of the row of cell p is 1 where the fact about p
-- and q is there. Cells go by their numbers, so that cell p is the place `cell p`. A cell from 14 on, or a kind from 2 on, is in no fact, and adding,
-- dropping or taking out one changes nothing.
use Rattle.std.specs.Prelude.{Bool, false, ◌&&◌, ◌||◌, not, cond, List, map, ◌≡◌, ℕ, zero, suc, ◌+◌, ◌-◌, ◌*◌, ◌/◌, ◌%◌, ◌^◌, ◌<◌, eqb, ltb, get_or, replicate}
use Rattle.std.specs.Int.Bits.{bit_or, bit_xor}
use Rattle.lists.specs.Range.{range}
use Rattle.lists.specs.Test.{all_from}

-- ---- rows and their facts

-- binary digit j of a row, and whether it is 1
unfoldable pub digit : ℕ → ℕ → ℕ
digit x j = x / 2 ^ j % 2

abbrev pub on : ℕ → ℕ → Bool
on x j = eqb (digit x j) 1

-- digit c or digit d is
abbrev pub either_on : ℕ → ℕ → ℕ → Bool
either_on x c d = on x c || on x d

-- the row of a cell, by the kind of fact
abbrev pub row_of : List ℕ → ℕ → ℕ → ℕ
row_of l zero p = get_or l p 0
row_of l (suc k) p = get_or l (14 + p) 0

-- the facts that stand in the rows; digits from 14 on mean nothing
abbrev pub FactsIn : List ℕ → ℕ → ℕ → ℕ → Type 0
FactsIn l k p q = (k < 2) × ((p < 14) × ((q < 14) × (digit (row_of l k p) q ≡ 1)))

-- the same as a test
abbrev pub has_fact : List ℕ → ℕ → ℕ → ℕ → Bool
has_fact l k p q = ltb p 14 && (ltb q 14 && (ltb k 2 && on (row_of l k p) q))

-- the number of the cell that a code stands for; 14, which is in no fact, where it is none
abbrev pub cell_number : ℕ → ℕ
cell_number code = cond (ltb code 3) 14 (code - 3)

-- the same test, of places
unfoldable pub rows_test : List ℕ → ℕ → ℕ → ℕ → Bool
rows_test l k p q = has_fact l k (cell_number p) (cell_number q)

-- the 28 rows that f has
unfoldable pub rows_by : (ℕ → ℕ) → List ℕ
rows_by f = map f (range 0 28)

-- no row has a digit
abbrev pub no_facts : List ℕ
no_facts = replicate 28 0

-- no cell is below itself
abbrev pub loose_at : List ℕ → ℕ → Bool
loose_at l p = not (on (get_or l p 0) p)

abbrev pub is_consistent : List ℕ → Bool
is_consistent l = all_from 14 0 (loose_at l)

-- ---- c is put below d

-- with the fact that c equals itself
unfoldable pub self_at : ℕ → List ℕ → ℕ → ℕ
self_at c l j = cond (eqb j (14 + c)) (bit_or (get_or l j 0) (2 ^ c)) (get_or l j 0)

abbrev pub self_rows : ℕ → List ℕ → List ℕ
self_rows c l = rows_by (self_at c l)

-- what d is equal to, or below
unfoldable pub up_of : List ℕ → ℕ → ℕ
up_of l d = bit_or (get_or l d 0) (get_or l (14 + d) 0)

-- the row of below of a cell that may be equal to c or below it, so that it is below what stands in up
unfoldable pub below_row : ℕ → ℕ → ℕ → ℕ → ℕ
below_row lt eq c up = cond (on (bit_or lt eq) c) (bit_or lt up) lt

-- row j of all 28, those of equal as they are
unfoldable pub below_at : ℕ → ℕ → List ℕ → ℕ → ℕ
below_at c d l j = cond (ltb j 14) (below_row (get_or l j 0) (get_or l (14 + j) 0) c (up_of l d)) (get_or l j 0)

abbrev pub below_rows : ℕ → ℕ → List ℕ → List ℕ
below_rows c d l = rows_by (below_at c d l)

-- ---- c and d are put equal

-- the two, and what equals one of them
unfoldable pub class_of : List ℕ → ℕ → ℕ → ℕ
class_of l c d = bit_or (bit_or (get_or l (14 + c) 0) (get_or l (14 + d) 0)) (bit_or (2 ^ c) (2 ^ d))

-- what one of them is below
unfoldable pub over_of : List ℕ → ℕ → ℕ → ℕ
over_of l c d = bit_or (get_or l c 0) (get_or l d 0)

-- what the cells of the class are below: also the class, if one of c and d is below one of them
unfoldable pub some_of : ℕ → ℕ → ℕ → ℕ → ℕ
some_of class over c d = cond (either_on over c d) (bit_or over class) over

-- the row of below of cell p, which may be below c or d, or in their class
unfoldable pub equal_row : ℕ → ℕ → ℕ → ℕ → ℕ → ℕ → ℕ → ℕ
equal_row lt p c d class all some = cond (either_on lt c d) (bit_or lt all) (cond (on class p) (bit_or lt some) lt)

-- row j of all 28, those of equal as they are
unfoldable pub equal_at : ℕ → ℕ → List ℕ → ℕ → ℕ
equal_at c d l j =
    let class = class_of l c d in
    let over = over_of l c d in
    cond (ltb j 14) (equal_row (get_or l j 0) j c d class (bit_or over class) (some_of class over c d)) (get_or l j 0)

abbrev pub equal_rows : ℕ → ℕ → List ℕ → List ℕ
equal_rows c d l = rows_by (equal_at c d l)

-- the row of equal of cell p, which may be in the class
unfoldable pub class_row : ℕ → ℕ → ℕ → ℕ
class_row eq p class = cond (on class p) (bit_or eq class) eq

-- row j of all 28, those of below as they are
unfoldable pub class_at : ℕ → List ℕ → ℕ → ℕ
class_at class l j = cond (ltb j 14) (get_or l j 0) (class_row (get_or l j 0) (j - 14) class)

abbrev pub class_rows : ℕ → List ℕ → List ℕ
class_rows class l = rows_by (class_at class l)

-- ---- one fact more, and its clash with those that are there

-- rows have both cells
abbrev pub both_cells : ℕ → ℕ → Bool
both_cells c d = ltb c 14 && ltb d 14

-- the fact of this kind about c and d is added, and all is closed again
abbrev pub with_kind : List ℕ → ℕ → ℕ → ℕ → List ℕ
with_kind l zero c d = below_rows c d (self_rows d (self_rows c l))
with_kind l (suc zero) c d = class_rows (class_of l c d) (equal_rows c d l)
with_kind l (suc (suc k)) c d = l

abbrev pub with_fact : List ℕ → ℕ → ℕ → ℕ → List ℕ
with_fact l k c d = cond (both_cells c d) (with_kind l k c d) l

-- p is q, or equal to it, or below it
abbrev pub at_most : List ℕ → ℕ → ℕ → Bool
at_most l p q = eqb p q || on (up_of l p) q

-- with this fact a cell would be below itself
abbrev pub clash_of : List ℕ → ℕ → ℕ → ℕ → Bool
clash_of l zero c d = at_most l d c
clash_of l (suc zero) c d = either_on (over_of l c d) c d
clash_of l (suc (suc k)) c d = false

abbrev pub clashing : List ℕ → ℕ → ℕ → ℕ → Bool
clashing l k c d = both_cells c d && clash_of l k c d

-- ---- the facts of cell c dropped

-- a row without digit c
unfoldable pub off_row : ℕ → ℕ → ℕ
off_row x c = bit_xor (bit_or x (2 ^ c)) (2 ^ c)

-- row j: none of c's own, the others without their digit for c
unfoldable pub drop_row : ℕ → ℕ → ℕ → ℕ
drop_row x j c = cond (eqb j c || eqb j (14 + c)) 0 (off_row x c)

abbrev pub without_cell : ℕ → List ℕ → List ℕ
without_cell c l = cond (ltb c 14) (rows_by (λ j. drop_row (get_or l j 0) j c)) l

-- ---- cell c taken out: higher cells move down by one

-- a row without the place of digit c
unfoldable pub shrink : ℕ → ℕ → ℕ
shrink x c = bit_or (x / 2 ^ c / 2 * 2 ^ c) (x % 2 ^ c)

abbrev pub shrunk_rows : ℕ → List ℕ → List ℕ
shrunk_rows c l = rows_by (λ j. shrink (get_or l j 0 % 16384) c)

-- rows from one on take the next, up to the last, which is then empty
unfoldable pub moved_at : ℕ → ℕ → List ℕ → ℕ → ℕ
moved_at first last l j = cond (ltb j first || ltb last j) (get_or l j 0) (cond (ltb j last) (get_or l (j + 1) 0) 0)

abbrev pub moved_rows : ℕ → ℕ → List ℕ → List ℕ
moved_rows first last l = rows_by (moved_at first last l)

abbrev pub lowered : ℕ → List ℕ → List ℕ
lowered c l = cond (ltb c 14) (moved_rows (14 + c) 27 (moved_rows c 13 (shrunk_rows c l))) l
