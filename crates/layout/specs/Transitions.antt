-- Transitions as they stand in a job that was read: in range, each is five bytes, from, kind, a, b, to.
use Rattle.std.specs.Prelude.{List, map, ℕ, ◌+◌, ◌*◌, get_or}
use Rattle.std.proofs.Math.Option.{Option, none, some}
use Rattle.lists.specs.Range.{range}
use Rattle.heap.specs.Operation.{Op, equal, Kind, kind_of}
use Rattle.run.specs.Run.{Transition}

-- the operation that a row of the table of kinds names; where there is no row, any
abbrev pub op_of : Option Kind → ℕ → ℕ → Op
op_of none a b = equal a b
op_of (some row) a b = row.op a b

-- the transition whose first byte is at a place
abbrev pub transition_at : List ℕ → ℕ → Transition
transition_at bytes at =
    record {
      from = get_or bytes at 0;
      op = op_of (kind_of (get_or bytes (at + 1) 0)) (get_or bytes (at + 2) 0) (get_or bytes (at + 3) 0);
      to = get_or bytes (at + 4) 0;
    }

-- so many transitions from the i-th on, of those from a place on
abbrev pub transitions_from : List ℕ → ℕ → ℕ → ℕ → List Transition
transitions_from bytes first i count = map (λ k. transition_at bytes (first + 5 * k)) (range i count)
