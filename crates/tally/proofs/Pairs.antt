-- Verdicts on pairs of buffers: each refusal's number is one of 1 to 31, and a tally of them says what they say.
use mathlib.Core.List.{List, [], ◌∷◌}
use mathlib.Core.Path.{◌≡◌, refl}
use Prim.Native.Nat.{ℕ, ◌≤◌}
use native.Mathlib.Omega.{arith}
use Rattle.format.specs.JobNumbers.{JobFile}
use Rattle.format.specs.Meaning.{InJob, job_number, job_range, job_left, InCertificate, member_unread, cover_unread, version_range, member_range, cover_range, versions_differ, member_satisfied, cover_fails, certificate_left, Meaning, job_length, certificate_length, in_job, in_certificate}
use Rattle.format.specs.Parser.{Reason, reason_number}
use Rattle.format.specs.Verdict.{start_of, Verdict, accepted, refused, verdict}
use Rattle.format.proofs.Means.{means}
use Rattle.tally.specs.Release.{tallied, taken_in, SaysOf, Numbered, AllNumbered, verdicts_on}
use Rattle.tally.specs.Tally.{begun}
use Rattle.tally.proofs.Release.{says}

abbrev InTable : Reason → Type 0
InTable why = (1 ≤ reason_number why) × (reason_number why ≤ 31)

of_job : {job : List ℕ} {why : Reason} {place : ℕ} → InJob job why place → InTable why
of_job (job_number place u) = (omega arith, omega arith)
of_job (job_range place o) = (omega arith, omega arith)
of_job (job_left f place i l) = (omega arith, omega arith)

of_certificate : {tested : ℕ} {f : JobFile} {certificate : List ℕ} {why : Reason} {place : ℕ} → InCertificate tested f certificate why place → InTable why
of_certificate (member_unread place u) = (omega arith, omega arith)
of_certificate (cover_unread place limit d u) = (omega arith, omega arith)
of_certificate (version_range n next e b) = (omega arith, omega arith)
of_certificate (member_range place p o) = (omega arith, omega arith)
of_certificate (cover_range place limit d n next e l) = (omega arith, omega arith)
of_certificate (versions_differ n next e b d) = (omega arith, omega arith)
of_certificate (member_satisfied place s) = (omega arith, omega arith)
of_certificate (cover_fails rule name place c) = (omega arith, omega arith)
of_certificate (certificate_left place c l) = (omega arith, omega arith)

of_both : {job certificate : List ℕ} {why : Reason} {place : ℕ} → Meaning job certificate why place → InTable why
of_both (job_length b) = (omega arith, omega arith)
of_both (certificate_length b c) = (omega arith, omega arith)
of_both (in_job why place b c i) = of_job i
of_both (in_certificate why place b c f i k) = of_certificate k

verdict_numbered : (job certificate : List ℕ) → Numbered (verdict job certificate)
verdict_numbered job certificate = go (verdict job certificate) refl
  where
    go : (v : Verdict) → verdict job certificate ≡ v → Numbered v
    go (accepted c) e = tt
    go (refused why place) e = of_both (means start_of job certificate why place e)

all_numbered : (pairs : List (List ℕ × List ℕ)) → AllNumbered (verdicts_on pairs)
all_numbered [] = tt
all_numbered ((job, certificate) ∷ pairs) = (verdict_numbered job certificate, all_numbered pairs)

-- so a tally of any pairs of buffers says what the verdicts on them say
pub release_says : (pairs : List (List ℕ × List ℕ)) → let vs = verdicts_on pairs in SaysOf (taken_in begun vs) (tallied begun vs)
release_says pairs = says (verdicts_on pairs) (all_numbered pairs)
