-- What a host's bytes and numbers are read as, and what they are once a heap is written to them.
use Rattle.std.specs.Prelude.{cond, Option, Some, None, List, ℕ, eqb, length}
use Rattle.stepper.specs.declared.Heap64.{Heap64}
use Rattle.heapbytes.specs.HeapBytes.{bytes_readable, heap_from, heap_bytes}

-- the heap that bytes are with these codes of values, if they are a heap's
unfoldable pub read_heap : List ℕ → List ℕ → Option Heap64
read_heap bytes values = cond (bytes_readable bytes) (Some (heap_from bytes values)) None

-- the host's bytes once a heap is written: other than 137 stay as they are
unfoldable pub heap_written : Heap64 → List ℕ → List ℕ
heap_written t bytes = cond (eqb (length bytes) 137) (heap_bytes t) bytes

-- and its numbers: other than 64 stay
unfoldable pub values_written : List ℕ → List ℕ → List ℕ
values_written codes values = cond (eqb (length values) 64) codes values
