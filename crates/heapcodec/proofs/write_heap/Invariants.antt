-- Three loops, one after the other: variables, marks and links stand as the heap has them.
use Prim.Native.Nat.{◌+◌}
use Rattle.lists.proofs.Range.{Filled}
use Rattle.heapbytes.specs.HeapBytes.{byte_of}
use Rattle.heapcodec.proofs.write_heap.Given as goal

abbrev pub invariant-loop-i : goal.invariant-loop-i
invariant-loop-i l = Filled (byte_of l.fn.heap) 0 137 l.bytes (1 + l.i)

abbrev pub invariant-loop-i-2 : goal.invariant-loop-i-2
invariant-loop-i-2 l = Filled (byte_of l.fn.heap) 0 137 l.bytes (9 + l.i)

abbrev pub invariant-loop-i-3 : goal.invariant-loop-i-3
invariant-loop-i-3 l = Filled (byte_of l.fn.heap) 0 137 l.bytes (73 + l.i)
