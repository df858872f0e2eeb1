-- By the test of the bytes: no heap, or the heap of the arrays that are made of them.
use mathlib.Core.Bool.{Bool, true}
use mathlib.Core.List.{List}
use mathlib.Core.Path.{◌≡◌, ◌∙◌, sym}
use Prim.Native.Nat.{ℕ}
use native.Mathlib.Omega.{arith}
use borrow.Author.Rules.{rules}
use lib.ListN.{length, get_or}
use Rattle.std.specs.Prelude.{Some}
use Rattle.heapbytes.specs.HeapBytes.{bytes_readable, heap_from}
use Rattle.heapbytes.proofs.RoundTrip.{codes_same}
use Rattle.heapcodec.proofs.Codec.{readable_length, no_heap_read, heap_read}
use Rattle.heapcodec.proofs.read_heap.Goals as goal

-- where the bytes are a heap's
module _ (bytes : List ℕ) (r : Bool) (told : r ≡ bytes_readable bytes) (readable : r ≡ true) where
  reads_well : bytes_readable bytes ≡ true
  reads_well = sym told ∙ readable

  size : length bytes ≡ 137
  size = readable_length bytes reads_well

pub returns-then-not-is_readable : goal.returns-then-not-is_readable
returns-then-not-is_readable c = sym (no_heap_read c.args.bytes.now c.args.values (sym c.is_readable.ensures ∙ c.if-not-is_readable.true))

pub bounds-bytes-0 : goal.bounds-bytes-0
bounds-bytes-0 c = omega (arith, size c.args.bytes.now _ c.is_readable.ensures c.if-not-is_readable.false)

pub places_from-requires : goal.places_from-requires
places_from-requires c = (omega arith, omega (arith, size c.args.bytes.now _ c.is_readable.ensures c.if-not-is_readable.false))

pub marks_from-requires : goal.marks_from-requires
marks_from-requires c = size c.args.bytes.now _ c.is_readable.ensures c.if-not-is_readable.false

pub places_from-requires-2 : goal.places_from-requires-2
places_from-requires-2 c = (omega arith, omega (arith, size c.args.bytes.now _ c.is_readable.ensures c.if-not-is_readable.false))

pub returns : goal.returns
unfolding heap_from
returns c =
    let values = c.args.values in
    let count : length values ≡ 64 = search rules in
    (λ k. Some (record {
      variables = get_or c.args.bytes.now 0 0;
      vars = c.places_from.ensures k;
      used = c.marks_from.ensures k;
      links = c.places_from-2.ensures k;
      values = sym (codes_same values count) k;
    }))
    ∙ sym (heap_read c.args.bytes.now values (reads_well c.args.bytes.now _ c.is_readable.ensures c.if-not-is_readable.false))
