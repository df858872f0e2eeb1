-- Other than 137 bytes stay. Else three loops, one after the other: variables, marks and links stand as the heap has them.
use mathlib.Core.Bool.{Bool, true, false, cond}
use mathlib.Core.Path.{◌≡◌, refl, ◌∙◌, sym}
use mir.Val.{bool_byte}
use native.Mathlib.Omega.{arith}
use Rattle.lists.proofs.Range.{fill_none, fill_more, fill_all}
use Rattle.heapbytes.specs.HeapBytes.{byte_of, heap_bytes}
use Rattle.heapbytes.proofs.Bytes.{count_byte, slot_byte, mark_byte, link_byte}
use Rattle.heapcodec.proofs.Codec.{byte_more, heap_left, heap_written_lem}
use Rattle.heapcodec.proofs.write_heap.Goals as goal

-- a mark as a byte
mark_is : (u : Bool) → bool_byte u ≡ cond u 1 0
mark_is true = refl
mark_is false = refl

pub returns-then-bytes-ne-BYTES : goal.returns-then-bytes-ne-BYTES
returns-then-bytes-ne-BYTES c = sym (heap_left c.args.heap c.args.bytes.now c.if-bytes-ne-BYTES.true)

pub loop-i-init : goal.loop-i-init
loop-i-init c =
    let t = c.args.heap in
    let bytes = c.args.bytes.now in
    fill_more (byte_of t) 0 137 bytes 0 t.variables (fill_none (byte_of t) 0 137 bytes c.if-bytes-ne-BYTES.false) (omega arith) (count_byte t 0 (omega arith))

pub loop-i-preserved : goal.loop-i-preserved
loop-i-preserved c = byte_more c.args.heap 1 c.loop-i.i _ c.loop-i.bytes c.loop-i.invariant (omega arith) (slot_byte c.args.heap c.loop-i.i (omega arith))

pub loop-i-2-init : goal.loop-i-2-init
loop-i-2-init c = let e : c.loop-i.i ≡ 8 = omega arith in rw e at c.loop-i.invariant

pub loop-i-2-preserved : goal.loop-i-2-preserved
loop-i-2-preserved c =
    byte_more c.args.heap 9 c.loop-i-2.i _ c.loop-i-2.bytes c.loop-i-2.invariant (omega arith) (c.from.ensures ∙ mark_is _ ∙ mark_byte c.args.heap c.loop-i-2.i (omega arith))

pub loop-i-3-init : goal.loop-i-3-init
loop-i-3-init c = let e : c.loop-i-2.i ≡ 64 = omega arith in rw e at c.loop-i-2.invariant

pub loop-i-3-preserved : goal.loop-i-3-preserved
loop-i-3-preserved c = byte_more c.args.heap 73 c.loop-i-3.i _ c.loop-i-3.bytes c.loop-i-3.invariant (omega arith) (link_byte c.args.heap c.loop-i-3.i)

pub returns : goal.returns
unfolding heap_bytes
returns c =
    fill_all _ _ _ _ _ c.loop-i-3.invariant (omega arith) ∙ sym (heap_written_lem c.args.heap c.args.bytes.now c.if-bytes-ne-BYTES.false)
