-- The preamble is refused, or a transition, or the rest answers.
use Rattle.std.proofs.Common.{sym}
use Rattle.std.proofs.lemmas.Result.{err_from_is_err_and}
use Rattle.format.specs.Parser.{job_buffer}
use Rattle.reader.proofs.Jobs.{preamble_variables}
use Rattle.reader.proofs.WholeJob.{preamble_lost, transitions_lost, answered}
use Rattle.reader.proofs.read_job.Goals as goal

pub returns-in_err-preamble : goal.returns-in_err-preamble
returns-in_err-preamble c =
    let p = err_from_is_err_and c.from_residual.result c.from_residual.ensures.1 in
    rw (p.1, p.2) (preamble_lost c.args.job.now (sym c.in_err-preamble.ensures.answer))

pub transitions-requires : goal.transitions-requires
transitions-requires c = preamble_variables (job_buffer c.args.job.now) 0 c.in_ok-preamble.preamble _ (sym c.in_ok-preamble.ensures.answer)

pub returns-in_err-at : goal.returns-in_err-at
returns-in_err-at c =
    let p = err_from_is_err_and c.from_residual-in_err-at.result c.from_residual-in_err-at.ensures.1 in
    let e = rw (c.job.ensures.buffer, c.job.ensures.bytes) at c.in_err-at.ensures in
    rw (p.1, p.2) (transitions_lost c.args.job.now c.in_ok-preamble.preamble (sym c.in_ok-preamble.ensures.answer) (sym e))

pub returns : goal.returns
returns c =
    let e = rw (c.job.ensures.buffer, c.job.ensures.bytes) at c.in_ok-at.ensures in
    answered c.args.job.now c.in_ok-preamble.preamble (sym c.in_ok-preamble.ensures.answer) _ (sym e) c.read_rest.result c.read_rest.ensures
