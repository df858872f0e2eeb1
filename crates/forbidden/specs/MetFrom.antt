-- What is met by following links from a variable.
use Rattle.std.specs.Prelude.{◌≡◌, ℕ}
use Rattle.heap.specs.Heap.{Heap}
use Rattle.heap.specs.Follow.{follow}

-- The place q is met by following links from variable x: after some number of steps, none among them, since "x at # counts as met".
abbrev pub MetFrom : Heap → ℕ → ℕ → Type 0
MetFrom h x q = (k : ℕ) × (follow h.link k (h.var x) ≡ q)
