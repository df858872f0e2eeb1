-- Heaps as the rules have them. Document 01: "A heap has finitely many cells, each with one link, and V pointer variables. A link or variable
-- stands at a cell, at # (null) or at * (dangling)." Those on a run are such (`run_formed`), and those of the stepper (`table_formed`).
use Rattle.std.specs.Prelude.{◌⊎◌, ◌≡◌, ℕ, ◌≤◌, ◌<◌}
use Rattle.std.proofs.Math.Option.{some}
use Rattle.heap.specs.Heap.{Heap, IsCell}
use Rattle.heap.specs.Place.{null, dangling, cell}

-- p is #, * or a cell of the heap
abbrev pub StandsInHeap : Heap → ℕ → Type 0
StandsInHeap h p = (p ≡ null) ⊎ ((p ≡ dangling) ⊎ IsCell h p)

-- A heap with n variables: operand 0 is at #, operands up to n and links stand at #, * or a cell, cells have a cell's code, there are finitely
-- many, and only cells have values. Of a variable above n nothing is asked.
pub record WellFormed (n : ℕ) (h : Heap) : Type 0 where
  pub null_fixed : h.var 0 ≡ null
  pub vars : (v : ℕ) → v ≤ n → StandsInHeap h (h.var v)
  pub links : (c : ℕ) → IsCell h c → StandsInHeap h (h.link c)
  pub low : (c : ℕ) → IsCell h c → cell 0 ≤ c
  pub finite : (m : ℕ) × ((c : ℕ) → IsCell h c → c < m)
  pub valued : (p m : ℕ) → h.value p ≡ some m → IsCell h p
