-- A job that is not read is refused as it is; one that is read goes on.
use Rattle.std.proofs.Common.{length, ap, ◌∙◌, arith}
use Rattle.std.proofs.lemmas.Result.{err_from_is_err_and}
use Rattle.std.proofs.lemmas.Bool.Decides.{nat_tests}
use Rattle.forbidden.specs.Written.{rewrite_read}
use Rattle.forbidding.specs.Answers.{set_of}
use Rattle.verdict.proofs.Numbers.{numbered}
use Rattle.forbidden.proofs.Written.{rewrites_none}
use Rattle.forbidding.proofs.Answers.{empty_job, long_job, fitting_job}
use Rattle.forbidding.proofs.rewrite_job.Goals.{then-is_empty-via-then-is_empty, then-is_empty-via-else-is_empty+then-job-gt65536}
use Rattle.forbidding.proofs.rewrite_job.Goals as goal

pub rewrite_read-requires : goal.rewrite_read-requires
rewrite_read-requires c = (c.in_ok-h.ensures, grind (arith, nat_tests, c.is_empty.ensures, c.if-is_empty.false), c.if-job-gt65536.false)

pub returns-then-is_empty : goal.returns-then-is_empty
returns-then-is_empty c =
    let a = c.args in
    rewrites_none a.job.now (set_of a.asked) _ 1 0 (omega arith) (elim c.then-is_empty.branch [
      | then-is_empty-via-then-is_empty w ↦ empty_job a.job.now _ _ (grind (arith, nat_tests, c.is_empty.ensures, w.if-is_empty.true))
      | then-is_empty-via-else-is_empty+then-job-gt65536 w ↦ long_job a.job.now _ _ w.if-job-gt65536.true
    ])

pub returns-in_err-h : goal.returns-in_err-h
returns-in_err-h c =
    let a = c.args in
    let p = err_from_is_err_and c.from_residual.result c.from_residual.ensures.1 in
    let e = fitting_job a.job.now (set_of a.asked) (length a.bytes.now) (grind (arith, nat_tests, c.is_empty.ensures, c.if-is_empty.false)) c.if-job-gt65536.false in
    rw (p.1, p.2) (rewrites_none a.job.now (set_of a.asked) _ _ _ (numbered c.in_err-h.field-0.0.refusal).0 (e ∙ ap (rewrite_read (set_of a.asked) (length a.bytes.now)) c.in_err-h.ensures))
