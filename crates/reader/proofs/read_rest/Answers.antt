-- B is refused, or a forbidden shape, or bytes are left, or the header is made.
use Rattle.std.proofs.Common.{sym, arith}
use Rattle.std.proofs.lemmas.Result.{err_from_is_err_and}
use Rattle.reader.proofs.Jobs.{lost_bads, lost_forbidden, left_over, rest_made}
use Rattle.reader.proofs.read_rest.Goals as goal

pub returns-in_err-bads : goal.returns-in_err-bads
returns-in_err-bads c =
    let p = err_from_is_err_and c.from_residual.result c.from_residual.ensures.1 in
    let (job, place, none) = c.new-rest.ensures in
    let e = rw (job, place, none) at c.in_err-bads.ensures.number in
    rw (p.1, p.2) (lost_bads c.args.job.now c.args.preamble c.args.at (sym e))

pub returns-in_err-end : goal.returns-in_err-end
returns-in_err-end c =
    let p = err_from_is_err_and c.from_residual-in_err-end.result c.from_residual-in_err-end.ensures.1 in
    let (job, place, none) = c.new-rest.ensures in
    let e = rw (job, place, none) at c.in_ok-bads.ensures.number in
    let e2 = rw (c.job.ensures.buffer, c.job.ensures.bytes) at c.in_err-end.ensures in
    rw (p.1, p.2) (lost_forbidden c.args.job.now c.args.preamble c.args.at (sym e) (sym e2))

pub returns-then-end-job : goal.returns-then-end-job
returns-then-end-job c =
    let (job, place, none) = c.new-rest.ensures in
    let e = rw (job, place, none) at c.in_ok-bads.ensures.number in
    let e2 = rw (c.job.ensures.buffer, c.job.ensures.bytes) at c.in_ok-end.ensures in
    left_over c.args.job.now c.args.preamble c.args.at (sym e) (sym e2) (omega arith)

pub returns : goal.returns
returns c =
    let (job, place, none) = c.new-rest.ensures in
    let e = rw (job, place, none) at c.in_ok-bads.ensures.number in
    let e2 = rw (c.job.ensures.buffer, c.job.ensures.bytes) at c.in_ok-end.ensures in
    (_, rest_made c.args.job.now c.args.preamble c.args.at (sym e) (sym e2) (omega arith))
