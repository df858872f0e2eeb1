-- Marks of places by their codes: 0 is free, 1 a stop, 2 used. Walks in the shape in an array go by marks alone.
use Rattle.std.specs.Prelude.{Bool, ◌&&◌, cond, List, ◌∷◌, ℕ, zero, suc, eqb, ltb, length, get_or, set, replicate}
use Rattle.heap.specs.Place.{nowhere, cell}
use Rattle.layout.specs.ShapeArray.{links_in}

-- no cell is marked: a path ends at nowhere, # and * only
abbrev pub no_image : List ℕ
no_image = 1 ∷ 1 ∷ 1 ∷ replicate 25 0

-- a place that has a mark is free
abbrev pub is_free : List ℕ → ℕ → Bool
is_free marks p = ltb p 28 && eqb (get_or marks p 0) 0

-- the marks, and a place that has one marked as a stop
abbrev pub marking : List ℕ → ℕ → List ℕ
marking marks p = cond (ltb p 28) (set marks p 1) marks

-- the mark of a place in a shape of n cells; one past them counts as used
unfoldable pub mark_in : ℕ → List ℕ → ℕ → ℕ
mark_in n marks p = cond (ltb p (cell n)) (get_or marks p 0) 2

-- the cells of the shape in an array
abbrev pub cells_in : List ℕ → ℕ
cells_in s = length (links_in s)

-- a place of the shape in an array is a stop
abbrev pub is_stop : List ℕ → List ℕ → ℕ → Bool
is_stop s marks p = eqb (mark_in (cells_in s) marks p) 1

-- where a walk came to, how many links lead there, and the marks after it
pub record Walk : Type 0 where
  pub end : ℕ
  pub links : ℕ
  pub marks : List ℕ

-- The walk from a place, to which so many links have led, along links to the first that is not free; what it passes is used. Each turn takes a free
-- place, so that there are no more turns than marks.
unfoldable pub walked_from : ℕ → ℕ → List ℕ → List ℕ → ℕ → Walk
walked_from zero links s marks p = record { end = p; links = links; marks = marks }
walked_from (suc k) links s marks p =
    let rest = walked_from k (suc links) s (set marks p 2) (get_or s p 0) in
    cond (eqb (mark_in (cells_in s) marks p) 0) rest (record { end = p; links = links; marks = marks })

-- the walk from the first place of a path, to which one link has led
abbrev pub walked : List ℕ → List ℕ → ℕ → Walk
walked s marks first = walked_from (length marks) 1 s marks first

-- the first stop from a place along links; nowhere if they lead past the cells, or that takes more than k turns
unfoldable pub stop_from : ℕ → List ℕ → List ℕ → ℕ → ℕ
stop_from zero s marks p = nowhere
stop_from (suc k) s marks p =
    let rest = cond (ltb p (cell (cells_in s))) (stop_from k s marks (get_or s p 0)) nowhere in
    cond (is_stop s marks p) p rest
