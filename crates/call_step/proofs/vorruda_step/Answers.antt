-- The step on bytes, without values before and after.
use Rattle.heapbytes.proofs.NoValues.{alone}
use Rattle.call_step.proofs.vorruda_step.Goals as goal

pub returns : goal.returns
returns c =
    let a = c.args in
    rw c.outcome_code.ensures (alone a.heap.now a.kind c.link_kind.result a.a a.b 0 _ _ _ c.link_kind.ensures c.step_bytes.ensures)
