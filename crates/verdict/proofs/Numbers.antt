-- The numbers of refusals.
use Prim.Native.Nat.{◌≤◌}
use native.Mathlib.Omega.{arith}
use Rattle.format.specs.Parser.{reason_number}
use Rattle.verdict.specs.Verdict.{reason_of}
use Rattle.verdict.specs.declared.Refusal.{Refusal}
use Rattle.verdict.specs.declared.Refusal.TheVariants.{JobLength, CertificateLength, JobUnreadable, JobRange, JobLeft, CertificateUnreadable, CertificateRange, StartSatisfied, CoverFails, CertificateLeft, VersionsDiffer}

-- each refusal has a number from 1 to 20, so none is taken for the 23 of a full tally
pub numbered : (r : Refusal) → (1 ≤ reason_number (reason_of r)) × (reason_number (reason_of r) ≤ 20)
numbered JobLength = (omega arith, omega arith)
numbered CertificateLength = (omega arith, omega arith)
numbered JobUnreadable = (omega arith, omega arith)
numbered JobRange = (omega arith, omega arith)
numbered JobLeft = (omega arith, omega arith)
numbered CertificateUnreadable = (omega arith, omega arith)
numbered CertificateRange = (omega arith, omega arith)
numbered StartSatisfied = (omega arith, omega arith)
numbered (CoverFails broken) = (omega arith, omega arith)
numbered CertificateLeft = (omega arith, omega arith)
numbered VersionsDiffer = (omega arith, omega arith)
