-- The choices of a placing that an operation of kinds 1 to 5 or 8 to 13 retains, by their numbers (see Choice.antt).
use Rattle.std.specs.Prelude.{Bool, false, ◌||◌, ◌&&◌, not, cond, List, ℕ, suc, ◌+◌, ◌-◌, eqb, ltb, leb, length, get_or}
use Rattle.heap.specs.Codes.{link_in}
use Rattle.heap.specs.Place.{nowhere, null, dangling, cell}
use Rattle.place.specs.Place.{place_of, both_nowhere}
use Rattle.place.specs.declared.Place.{Place}
use Rattle.placing.specs.Choice.{choice_of, exists}
use Rattle.placing.specs.Retained.{retained}
use Rattle.placing.specs.declared.Choices.{Choices}
use Rattle.placing.specs.declared.Wanted.{Wanted}
use Rattle.placing.specs.declared.Wanted.TheVariants.{Nothing, Once, Any, At, Off, Source, Itself, Target}

-- choice k is at a cell whose link is nowhere or at p: a cell of the shape, a fresh one, or one in the middle of a link to p
unfoldable pub source_fits : List ℕ → ℕ → ℕ → Bool
source_fits links p k =
    let n = length links in
    let here = get_or links k nowhere in
    let opened = get_or links (k - (n + 2)) nowhere in
    cond (ltb k n) (eqb here nowhere || eqb here p) (cond (leb k (n + 1)) (eqb k (n + 1)) (not (eqb opened nowhere) && eqb opened p))

-- choice k is at a cell whose link is nowhere or at that cell
unfoldable pub itself_fits : List ℕ → ℕ → Bool
itself_fits links k =
    let n = length links in
    let here = get_or links k nowhere in
    cond (ltb k n) (eqb here nowhere || eqb here (cell k)) (eqb k (n + 1))

-- in a shape of n cells, choice k is where the link of cell i stands, at p, or in the middle of that link
unfoldable pub target_fits : ℕ → ℕ → ℕ → ℕ → Bool
target_fits n p i k = eqb k (n + 2 + i) || (not (eqb p dangling) && eqb k (choice_of n p))

-- choice k is wanted
abbrev pub fits_in : List ℕ → Wanted → ℕ → Bool
fits_in links Nothing k = false
fits_in links Once k = eqb k 0
fits_in links Any k = exists links k
fits_in links (At p) k = eqb k (choice_of (length links) p.code)
fits_in links (Off p) k = not (eqb k (choice_of (length links) p.code)) && exists links k
fits_in links (Source p) k = source_fits links p.code k
fits_in links Itself k = itself_fits links k
fits_in links (Target p i) k = target_fits (length links) p.code i k

-- ---- the choices to try, of a shape of n cells: all that are wanted are among them

abbrev pub one_by_one : ℕ → ℕ → Choices
one_by_one from to = record { from = from; step = 1; to = to }

-- those of a target: one, or two with a step between them
unfoldable pub target_choices : ℕ → ℕ → ℕ → Choices
target_choices n p i =
    let within = n + 2 + i in
    cond (eqb p dangling) (one_by_one within (suc within)) (record { from = choice_of n p; step = within - choice_of n p; to = suc within })

abbrev pub choices_of : ℕ → Wanted → Choices
choices_of n Nothing = one_by_one 0 0
choices_of n Once = one_by_one 0 1
choices_of n Any = one_by_one 0 (n + (2 + n))
choices_of n (At p) = one_by_one (choice_of n p.code) (suc (choice_of n p.code))
choices_of n (Off p) = one_by_one 0 (n + (2 + n))
choices_of n (Source p) = one_by_one 0 (n + (2 + n))
choices_of n Itself = one_by_one 0 (n + (2 + n))
choices_of n (Target p i) = target_choices n p.code i

-- ---- what an operation wants of a variable that is nowhere

-- the link of the cell at q is to end at the variable
unfoldable pub target_of : List ℕ → ℕ → Wanted
target_of links q = cond (leb q dangling) Nothing (cond (eqb (link_in links q) nowhere) Any (Target (place_of (link_in links q)) (q - 3)))

-- a cell, any but #
abbrev pub any_cell : Wanted
any_cell = Off (place_of null)

-- a cell, where the other variable is at the cell q
unfoldable pub cell_beside : ℕ → Wanted
cell_beside q = cond (leb q dangling) Nothing any_cell

-- the other variable is at q; a link that the kind `starting` speaks of starts at this one
unfoldable pub beside : ℕ → ℕ → List ℕ → Place → Wanted
beside starting kind links q =
    cond (eqb kind 2) (Off q)
    (cond (ltb kind 4) (At q)
    (cond (eqb kind starting) (Source q) (cond (ltb 5 kind) (cell_beside q.code) (target_of links q.code))))

-- ---- what it wants of the operands, a at x and b at y; `same` says that a and b are one variable

unfoldable pub once_if : Bool → Wanted
once_if test = cond test Once Nothing

-- where a and b are one variable, which is nowhere
unfoldable pub wanted_one : ℕ → Wanted
wanted_one kind = cond (eqb kind 2) Nothing (cond (eqb kind 5) Itself (cond (ltb 5 kind) any_cell Any))

-- of the operand placed first: any choice of a where both are nowhere; else there is nothing to place
unfoldable pub wanted_first : Bool → Place → Place → Wanted
wanted_first same x y =
    cond (eqb x.code dangling || eqb y.code dangling) Nothing (cond (both_nowhere same x.code y.code) Any Once)

-- of the operand placed last, a where it is nowhere and else b; the other one has a place
unfoldable pub wanted_last : ℕ → Bool → List ℕ → Place → Place → Wanted
wanted_last kind same links x y =
    cond (eqb x.code nowhere) (cond same (wanted_one kind) (beside 5 kind links y))
    (cond (eqb y.code nowhere) (beside 4 kind links x) (once_if (retained kind x.code y.code links)))
