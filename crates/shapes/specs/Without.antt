-- A shape without one of its cells, where that cell may be a new one.
use Rattle.std.specs.Prelude.{Bool, ◌&&◌, List, ℕ}
use Rattle.lists.specs.List.{absent, keep}
use Rattle.heap.specs.Place.{dangling, cell}
use Rattle.shape.specs.Shape.{Shape}
use Rattle.backward.specs.Predecessors.{link_fits, unspoken, remove_cell}

-- no fact is about the cell c, nothing stands at it, and its link is nowhere or *
abbrev pub is_free : ℕ → Shape → Bool
is_free c s = unspoken c s.facts && (link_fits c dangling s && (absent c s.links && absent c s.vars))

-- the shape without its cell i, if that is free
abbrev pub without : Shape → ℕ → List Shape
without s i = keep (is_free (cell i) s) (remove_cell (cell i) s)
