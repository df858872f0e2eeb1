-- No heap is lent, the call refuses, or the heap after it is written.
use mathlib.Core.Path.{refl}
use Rattle.std.proofs.lemmas.Result.{err_from_is_err_and}
use Rattle.list_calls.proofs.Lists.{not_lent, lent_refused, lent_done}
use Rattle.list_calls.proofs.on_lent.Goals as goal

pub returns-in_err-lent : goal.returns-in_err-lent
returns-in_err-lent g c =
    let p = err_from_is_err_and c.from_residual.result c.from_residual.ensures.1 in
    rw (p.1, p.2) (not_lent c.args.heap.now c.args.values.now _ _ c.in_err-lent.ensures)

pub returns-in_err-answer : goal.returns-in_err-answer
returns-in_err-answer g c =
    let p = err_from_is_err_and c.from_residual-in_err-answer.result c.from_residual-in_err-answer.ensures.1 in
    rw (p.1, p.2)
    (lent_refused c.args.heap.now c.args.values.now _ c.in_ok-lent.lent c.in_ok-lent.ensures c.call.new.arg2 _
    (record { shown = _; shows = refl; left = _; met = c.in_err-answer.ensures; leaves = refl }))

pub returns : goal.returns
returns g c =
    rw (c.write_heap.ensures, c.write_values.ensures)
    (lent_done c.args.heap.now c.args.values.now _ c.in_ok-lent.lent c.in_ok-lent.ensures c.call.new.arg2 c.in_ok-answer.answer
    (record { shown = _; shows = refl; left = _; met = c.in_ok-answer.ensures; leaves = refl }))
