-- No list, not ready, or counted.
use Rattle.std.proofs.lemmas.Result.{err_from_is_err_and}
use Rattle.blocklist.proofs.Answering.{count_none, count_unready, count_done}
use Rattle.blocklist.proofs.count.Goals as goal

pub returns-in_default : goal.returns-in_default
returns-in_default c = rw c.refused.ensures (count_none c.args.heap.now c.length_of.ensures.met c.in_default.field-0 c.in_default.ensures.told)

pub returns-in_err-edit_by : goal.returns-in_err-edit_by
returns-in_err-edit_by c =
    let p = err_from_is_err_and c.from_residual.result c.from_residual.ensures.1 in
    rw (p.1, p.2) (count_unready c.args.heap.now c.length_of.ensures.met c.edit_by.new.heap _ c.in_err-edit_by.ensures)

pub returns : goal.returns
returns c = count_done c.args.heap.now c.length_of.ensures.met c.edit_by.new.heap c.in_ok-edit_by.ensures c.in-Ok.cells c.in-Ok.ensures.told
