-- Other than 64 numbers are refused.
use Rattle.heapbytes.proofs.Bytes.{other_count}
use Rattle.stepbytes.proofs.Bytes.{unread}
use Rattle.call_step_values.proofs.vorruda_step_values.Goals as goal

pub returns-in_default : goal.returns-in_default
returns-in_default c =
    let a = c.args in
    unread a.heap.now a.values.now a.kind a.a a.b a.value (other_count a.heap.now a.values.now c.in_default.ensures.cases)
