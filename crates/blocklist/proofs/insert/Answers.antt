-- No list, past it, or put in.
use native.Mathlib.Omega.{arith}
use Rattle.blocklist.proofs.Answering.{found_list, insert_none, insert_past, insert_by}
use Rattle.blocklist.proofs.insert.Goals as goal

pub returns-in_default : goal.returns-in_default
returns-in_default c =
    let t = c.args.heap.now in
    rw c.refused.ensures (insert_none t c.length_of.ensures.met c.args.n c.in_default.field-0 c.in_default.ensures.told)

pub returns-then-cells-n : goal.returns-then-cells-n
returns-then-cells-n c =
    let t = c.args.heap.now in
    rw c.refused-then-cells-n.ensures (insert_past t c.length_of.ensures.met c.in-Ok.cells (found_list t c.in-Ok.cells c.in-Ok.ensures.told) c.args.n c.if-cells-n.true)

pub put_in-requires : goal.put_in-requires
put_in-requires c = omega (arith, c.if-cells-n.false, (found_list c.args.heap.now c.in-Ok.cells c.in-Ok.ensures.told).most)

pub returns : goal.returns
returns c =
    let t = c.args.heap.now in
    insert_by t c.length_of.ensures.met c.in-Ok.cells (found_list t c.in-Ok.cells c.in-Ok.ensures.told) c.args.n c.if-cells-n.false _ c.put_in.ensures
