-- As in `check`, with 8 judged or not, and with what was read.
use mathlib.Core.Path.{◌∙◌, sym, ap, subst}
use Prim.Native.Nat.{ℕ}
use Rattle.std.proofs.lemmas.Result.{err_from_is_err_and}
use Rattle.format.specs.Parser.{certificate_buffer}
use Rattle.format.specs.Verdict.{conclude, read_certificate}
use Rattle.checker.specs.Jobs.{file_in}
use Rattle.checker.specs.Pairs.{tested_if, MembersKept}
use Rattle.checker.proofs.Pairs.{places_job_length, places_length, places_refused, places_read}
use Rattle.checker.proofs.Verdicts.{fits_most, job_length, certificate_length, job_refused, job_read, promised_pair}
use Rattle.checker.proofs.check_pair.Goals as goal

pub returns-then-not-fits : goal.returns-then-not-fits
returns-then-not-fits c =
    let a = c.args in
    let short = sym c.fits.ensures ∙ c.if-not-fits.true in
    let (exact, accepted) = promised_pair a.job.now a.cert.now (tested_if a.judged) _ (job_length (tested_if a.judged) a.job.now a.cert.now short) in
    record { exact = exact; accepted = accepted; kept = tt; starts = places_job_length a.job.now a.cert.now _ short }

pub returns-then-not-fits-2 : goal.returns-then-not-fits-2
returns-then-not-fits-2 c =
    let a = c.args in
    let long = sym c.fits.ensures ∙ c.if-not-fits.false in
    let short = sym c.fits-2.ensures ∙ c.if-not-fits-2.true in
    let (exact, accepted) = promised_pair a.job.now a.cert.now (tested_if a.judged) _ (certificate_length (tested_if a.judged) a.job.now a.cert.now long short) in
    record { exact = exact; accepted = accepted; kept = tt; starts = places_length a.job.now a.cert.now _ long short }

pub returns-in_err-header : goal.returns-in_err-header
returns-in_err-header c =
    let a = c.args in
    let long = sym c.fits.ensures ∙ c.if-not-fits.false in
    let long₂ = sym c.fits-2.ensures ∙ c.if-not-fits-2.false in
    let (exact, accepted) = promised_pair a.job.now a.cert.now (tested_if a.judged) _ (job_refused (tested_if a.judged) a.job.now a.cert.now long long₂ _ _ c.in_err-header.ensures) in
    let p = err_from_is_err_and c.from_residual.result c.from_residual.ensures.1 in
    rw (p.1, p.2) (record { exact = exact; accepted = accepted; kept = tt; starts = places_refused a.job.now a.cert.now _ long long₂ _ _ c.in_err-header.ensures })

pub check_certificate-requires : goal.check_certificate-requires
check_certificate-requires c = (c.in_ok-header.ensures, fits_most c.args.cert.now (sym c.fits-2.ensures ∙ c.if-not-fits-2.false))

pub returns-in_err-counts : goal.returns-in_err-counts
returns-in_err-counts c =
    let a = c.args in
    let long = sym c.fits.ensures ∙ c.if-not-fits.false in
    let long₂ = sym c.fits-2.ensures ∙ c.if-not-fits-2.false in
    let h = c.in_ok-header.header in
    let verdict_is = c.in_err-counts.ensures.verdict
    ∙ ap (λ (q : ℕ). conclude (read_certificate q (certificate_buffer a.cert.now) (file_in a.job.now h) 0)) (c.tested_state-tested.ensures a.job.now)
    ∙ job_read (tested_if a.judged) a.job.now a.cert.now long long₂ h c.in_ok-header.ensures in
    let (exact, accepted) = promised_pair a.job.now a.cert.now (tested_if a.judged) _ verdict_is in
    let p = err_from_is_err_and c.from_residual-in_err-counts.result c.from_residual-in_err-counts.ensures.1 in
    rw (p.1, p.2)
    (record { exact = exact; accepted = accepted; kept = tt; starts = c.in_err-counts.ensures.starts ∙ places_read a.job.now a.cert.now _ long long₂ h c.in_ok-header.ensures })

pub returns : goal.returns
returns c =
    let a = c.args in
    let long = sym c.fits.ensures ∙ c.if-not-fits.false in
    let long₂ = sym c.fits-2.ensures ∙ c.if-not-fits-2.false in
    let h = c.in_ok-header.header in
    let tested-is = c.tested_state-tested.ensures a.job.now in
    let verdict_is = c.in_ok-counts.ensures.verdict
    ∙ ap (λ (q : ℕ). conclude (read_certificate q (certificate_buffer a.cert.now) (file_in a.job.now h) 0)) tested-is
    ∙ job_read (tested_if a.judged) a.job.now a.cert.now long long₂ h c.in_ok-header.ensures in
    let (exact, accepted) = promised_pair a.job.now a.cert.now (tested_if a.judged) _ verdict_is in
    record {
      exact = exact;
      accepted = accepted;
      kept = (c.in_ok-header.ensures, subst (λ (q : ℕ). MembersKept a.job.now a.cert.now h q c.in_ok-counts.counts.members c.check_certificate.new.starts) tested-is c.in_ok-counts.ensures.kept);
      starts = c.in_ok-counts.ensures.starts ∙ places_read a.job.now a.cert.now _ long long₂ h c.in_ok-header.ensures;
    }
