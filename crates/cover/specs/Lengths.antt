-- The lengths of paths, and the cells that have a link.
use Rattle.std.specs.Prelude.{not, cond, List, ℕ, zero, suc, ◌+◌, eqb, length}
use Rattle.lists.specs.List.{concat_map, keep}
use Rattle.lists.specs.Range.{range}
use Rattle.heap.specs.Place.{nowhere, cell}
use Rattle.shape.specs.Shape.{Shape, link_at, size}

-- the length of a path, given what is strictly between: one link more than cells between
abbrev pub links_on : List ℕ → ℕ
links_on between = suc (length between)

-- the member's paths, given what is strictly between for the link of each cell, by the cell's number
module _ (member : Shape) (mid : ℕ → List ℕ) where
  -- the path for the link of cell i; a cell without a link has none
  abbrev pub path_length : ℕ → ℕ
  path_length i = cond (eqb (link_at member (cell i)) nowhere) 0 (links_on (mid i))

  abbrev pub lengths_below : ℕ → ℕ
  lengths_below zero = 0
  lengths_below (suc i) = path_length i + lengths_below i

  -- document 02, Wish 8: "the sum of the lengths of its member's paths"
  abbrev pub path_lengths : ℕ
  path_lengths = lengths_below (size member)

-- document 02, Wish 8: "cells of the covered shape that have a link"
abbrev pub linked_cells : Shape → List ℕ
linked_cells s = concat_map (λ i. keep (not (eqb (link_at s (cell i)) nowhere)) (cell i)) (range 0 (size s))
