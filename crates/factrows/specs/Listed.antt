-- Facts as they are listed, three bytes each: the kind and two cells by their numbers. A rest of one or two bytes is no fact.
use Rattle.std.specs.Prelude.{Bool, ◌||◌, not, cond, List, map, ℕ, zero, suc, ◌+◌, ◌*◌, ◌/◌, eqb, ltb, length, get_or}
use Rattle.lists.specs.Range.{range}
use Rattle.lists.specs.Test.{all_from, lowest, number_or}
use Rattle.heap.specs.Place.{cell}
use Rattle.facts.specs.Facts.{Fact}
use Rattle.factrows.specs.Rows.{no_facts, with_fact, has_fact, cell_number}

-- ---- the facts

-- how many there are; of each its kind and its cells
abbrev pub count : List ℕ → ℕ
count s = length s / 3

abbrev pub kind_at : List ℕ → ℕ → ℕ
kind_at s i = get_or s (3 * i) 0

abbrev pub left_at : List ℕ → ℕ → ℕ
left_at s i = get_or s (3 * i + 1) 0

abbrev pub right_at : List ℕ → ℕ → ℕ
right_at s i = get_or s (3 * i + 2) 0

-- fact i, its cells as places
abbrev pub fact_at : List ℕ → ℕ → Fact
fact_at s i = record { kind = kind_at s i; left = cell (left_at s i); right = cell (right_at s i) }

-- all of them
abbrev pub listed : List ℕ → List Fact
listed s = map (fact_at s) (range 0 (count s))

-- the rows of k facts from fact i on: the last is added first
unfoldable pub closed_from : List ℕ → ℕ → ℕ → List ℕ
closed_from s zero i = no_facts
closed_from s (suc k) i = with_fact (closed_from s k (suc i)) (kind_at s i) (left_at s i) (right_at s i)

-- the rows of all
abbrev pub closed : List ℕ → List ℕ
closed s = closed_from s (count s) 0

-- ---- the facts of a member in the rows of a covered shape

-- the image of cell p by an array from codes to codes; that of a cell which a member lacks is cell 0
abbrev pub image_cell : List ℕ → ℕ → ℕ
image_cell codes p = cond (ltb p 12) (cell_number (get_or codes (p + 3) 0)) 0

module _ (l s codes : List ℕ) where
  -- fact i is there, each cell taken for its image
  abbrev pub holds_at : ℕ → Bool
  holds_at i = has_fact l (kind_at s i) (image_cell codes (left_at s i)) (image_cell codes (right_at s i))

  -- all are
  abbrev pub holds_all : Bool
  holds_all = all_from (count s) 0 holds_at

  -- fact i is there, if its first cell is cell p
  abbrev pub holds_for : ℕ → ℕ → Bool
  holds_for p i = not (eqb (left_at s i) p) || holds_at i

  -- all whose first cell is cell p are there
  abbrev pub cell_holds : ℕ → Bool
  cell_holds p = all_from (count s) 0 (holds_for p)

  -- the lowest first cell, of n, of a fact that is missing; n if there is none
  abbrev pub first_missing : ℕ → ℕ
  first_missing n = number_or n (lowest n 0 cell_holds)
