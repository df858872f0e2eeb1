-- What was read, as the answer of a parser.
use Rattle.std.proofs.lemmas.Result.{err_from_is_err_and}
use Rattle.covering.proofs.read_alone.Goals as goal

pub returns-in_err-read : goal.returns-in_err-read
returns-in_err-read c =
    let p = err_from_is_err_and c.from_residual.result c.from_residual.ensures.1 in
    rw (p.1, p.2) c.in_err-read.ensures.alone

pub returns : goal.returns
returns c = c.in_ok-read.ensures.alone
