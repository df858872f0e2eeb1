-- Not 64 numbers, or what the bytes are.
use Rattle.list_calls.proofs.Lists.{none_lent, read_lent}
use Rattle.list_calls.proofs.heap_lent.Goals as goal

pub returns-then-values-ne64 : goal.returns-then-values-ne64
returns-then-values-ne64 c = none_lent c.args.heap.now c.args.values.now c.if-values-ne64.true

pub returns : goal.returns
returns c = rw (c.ok_or.ensures.value, c.read_heap.ensures, c.read_values.ensures) (read_lent c.args.heap.now c.args.values.now c.if-values-ne64.false)
