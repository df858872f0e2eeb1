-- What was read is written, or the refusal is told: by the one pass of the definitions.
use Rattle.std.proofs.lemmas.Result.{err_from_is_err_and}
use Rattle.translating.proofs.Answering.{answers_over, answers_ended, answers_refused}
use Rattle.translating.proofs.translate.Goals as goal

pub returns-in_err-p : goal.returns-in_err-p
returns-in_err-p c =
    let a = c.args in
    let p = err_from_is_err_and c.from_residual.result c.from_residual.ensures.1 in
    rw (p.1, p.2) (answers_refused a.text.now c.read_block.new.work a.bytes.now a.marks.now c.in_err-p.field-0.0 c.in_err-p.ensures)

pub returns-in-Over : goal.returns-in-Over
returns-in-Over c =
    let a = c.args in
    let e = c.write.ensures in
    answers_over a.text.now c.read_block.new.work a.bytes.now a.marks.now c.in_ok-p.field-0 c.in-Over.p c.in-Over.is c.in_ok-p.ensures
    _ c.put_header.ensures.1 c.write.result _ _ e.result e.bytes e.marks

pub returns-in-Ended : goal.returns-in-Ended
returns-in-Ended c =
    let a = c.args in
    rw c.into.ensures (answers_ended a.text.now c.read_block.new.work a.bytes.now a.marks.now c.in_ok-p.field-0 c.in-Ended.p c.in-Ended.is c.in_ok-p.ensures
    c.refused.result c.refused.ensures)
