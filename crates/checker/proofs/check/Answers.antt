-- A length, a job that is not read, or what the certificate gives: each is the verdict of the bytes, and with it what acceptance says.
use mathlib.Core.Path.{◌≡◌, ◌∙◌, sym}
use Rattle.std.specs.Prelude.{Err}
use Rattle.std.proofs.lemmas.Result.{err_from_is_err_and}
use Rattle.format.specs.Verdict.{start_of, verdict}
use Rattle.verdict.specs.Verdict.{verdict_of}
use Rattle.verdict.specs.declared.Refusal.TheVariants.{JobLength, CertificateLength}
use Rattle.checker.proofs.Verdicts.{fits_most, job_length, certificate_length, job_refused, job_read, promised}
use Rattle.checker.proofs.check.Goals as goal

pub returns-then-not-fits : goal.returns-then-not-fits
returns-then-not-fits c =
    let p = promised c.args.job.now c.args.cert.now (Err (record { refusal = JobLength; place = 0 }))
    (job_length start_of c.args.job.now c.args.cert.now (sym c.fits.ensures ∙ c.if-not-fits.true)) in
    record { exact = p.0; accepted = p.1.0; safe = p.1.1 }

pub returns-then-not-fits-2 : goal.returns-then-not-fits-2
returns-then-not-fits-2 c =
    let p = promised c.args.job.now c.args.cert.now (Err (record { refusal = CertificateLength; place = 0 }))
    (certificate_length start_of c.args.job.now c.args.cert.now (sym c.fits.ensures ∙ c.if-not-fits.false) (sym c.fits-2.ensures ∙ c.if-not-fits-2.true)) in
    record { exact = p.0; accepted = p.1.0; safe = p.1.1 }

pub returns-in_err-h : goal.returns-in_err-h
returns-in_err-h c =
    let q = err_from_is_err_and c.from_residual.result c.from_residual.ensures.1 in
    let e : verdict_of c.from_residual.result ≡ verdict c.args.job.now c.args.cert.now =
    rw (q.1, q.2)
    (job_refused start_of c.args.job.now c.args.cert.now (sym c.fits.ensures ∙ c.if-not-fits.false) (sym c.fits-2.ensures ∙ c.if-not-fits-2.false) _ _ c.in_err-h.ensures) in
    let p = promised c.args.job.now c.args.cert.now c.from_residual.result e in
    record { exact = p.0; accepted = p.1.0; safe = p.1.1 }

pub check_read-requires : goal.check_read-requires
check_read-requires c = (c.in_ok-h.ensures, fits_most c.args.cert.now (sym c.fits-2.ensures ∙ c.if-not-fits-2.false))

pub returns : goal.returns
returns c =
    let p = promised c.args.job.now c.args.cert.now c.check_read.result
    (c.check_read.ensures
    ∙ job_read start_of c.args.job.now c.args.cert.now (sym c.fits.ensures ∙ c.if-not-fits.false) (sym c.fits-2.ensures ∙ c.if-not-fits-2.false) c.in_ok-h.h c.in_ok-h.ensures) in
    record { exact = p.0; accepted = p.1.0; safe = p.1.1 }
