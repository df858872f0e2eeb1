-- Bytes that are no heap's are refused; else the step's outcome and heap, as bytes and codes.
use mathlib.Core.Path.{◌∙◌, sym}
use Rattle.heapbytes.proofs.Bytes.{with_values}
use Rattle.heapcodec.proofs.Codec.{readable_length, none_read, some_read, heap_written_lem}
use Rattle.stepbytes.proofs.Bytes.{unread, done, left, went}
use Rattle.stepbytes.proofs.step_bytes.Goals as goal

pub returns-in_default : goal.returns-in_default
returns-in_default c =
    let a = c.args in
    let bytes = a.heap.now in
    let values = a.values.now in
    unread bytes values a.kind a.a a.b a.value (sym (with_values bytes values c.told-values) ∙ none_read bytes values c.in_default.ensures)

pub returns-in-Moved : goal.returns-in-Moved
returns-in-Moved c =
    let a = c.args in
    let bytes = a.heap.now in
    let values = a.values.now in
    let s = c.step-stepped.result in
    let (reads, heap_is) = some_read bytes values c.in-Some.before c.in-Some.ensures in
    let after = went s.outcome c.in-Moved.is s.heap bytes values in
    done bytes values a.kind a.a a.b a.value (sym (with_values bytes values c.told-values) ∙ reads) c.in-Some.before heap_is s c.step-stepped.ensures
    _ _ (c.write_heap.ensures ∙ heap_written_lem s.heap bytes (readable_length bytes reads) ∙ after.0) after.1

pub returns-in_default-outcome : goal.returns-in_default-outcome
returns-in_default-outcome c =
    let a = c.args in
    let bytes = a.heap.now in
    let values = a.values.now in
    let s = c.step-stepped.result in
    let (reads, heap_is) = some_read bytes values c.in-Some.before c.in-Some.ensures in
    let same = left s.outcome c.in_default-outcome.not-Moved s.heap bytes values in
    done bytes values a.kind a.a a.b a.value (sym (with_values bytes values c.told-values) ∙ reads) c.in-Some.before heap_is s c.step-stepped.ensures
    _ _ same.0 same.1
