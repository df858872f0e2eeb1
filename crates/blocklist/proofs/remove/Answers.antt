-- No list, 0 or past it, the first, or another.
use native.Mathlib.Omega.{arith}
use Rattle.blocklist.proofs.Answering.{found_list, remove_none, remove_zero, remove_past, remove_first, remove_after}
use Rattle.blocklist.proofs.remove.Goals as goal
use Rattle.blocklist.proofs.remove.Goals.{then-n-eq0-via-then-n-eq0, then-n-eq0-via-else-n-eq0+then-cells-n}

pub returns-in_default : goal.returns-in_default
returns-in_default c =
    let t = c.args.heap.now in
    rw c.refused.ensures (remove_none t c.length_of.ensures.met c.args.n c.in_default.field-0 c.in_default.ensures.told)

pub returns-then-n-eq0 : goal.returns-then-n-eq0
returns-then-n-eq0 c =
    let t = c.args.heap.now in
    let m = c.length_of.ensures.met in
    let l = found_list t c.in-Ok.cells c.in-Ok.ensures.told in
    rw c.refused-then-n-eq0.ensures
    (elim c.then-n-eq0.branch [
      | then-n-eq0-via-then-n-eq0 w ↦ remove_zero t m c.in-Ok.cells l c.args.n w.if-n-eq0.true
      | then-n-eq0-via-else-n-eq0+then-cells-n w ↦ remove_past t m c.in-Ok.cells l c.args.n w.if-cells-n.true
    ])

pub returns-then-n-eq1 : goal.returns-then-n-eq1
returns-then-n-eq1 c =
    let t = c.args.heap.now in
    remove_first t c.length_of.ensures.met c.in-Ok.cells (found_list t c.in-Ok.cells c.in-Ok.ensures.told) c.args.n c.if-n-eq1.true c.if-cells-n.false _ c.take_first.ensures

pub take_after-requires : goal.take_after-requires
take_after-requires c = omega (arith, c.if-cells-n.false, (found_list c.args.heap.now c.in-Ok.cells c.in-Ok.ensures.told).most)

pub returns-else-n-eq1 : goal.returns-else-n-eq1
returns-else-n-eq1 c =
    let t = c.args.heap.now in
    remove_after t c.length_of.ensures.met c.in-Ok.cells (found_list t c.in-Ok.cells c.in-Ok.ensures.told) c.args.n (omega arith) c.if-cells-n.false _ c.take_after.ensures
