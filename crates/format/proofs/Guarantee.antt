-- Demand 3 over bytes.
use mathlib.Core.List.{List}
use mathlib.Core.Path.{◌≡◌, sym, ◌∙◌}
use Prim.Native.Nat.{ℕ}
use Rattle.number.specs.NumberList.{encode}
use Rattle.number.specs.Range.{AtMost}
use Rattle.number.proofs.RoundTrip.{encode_decode}
use Rattle.cover.specs.Cover.{Inductive, Certified}
use Rattle.cover.proofs.Safe.{safe}
use Rattle.format.specs.Parser.{Parsed, parsed}
use Rattle.format.specs.JobNumbers.{JobFile, job_numbers}
use Rattle.format.specs.Verdict.{start_of, Counts, accepted, verdict}
use Rattle.format.specs.Conditions.{ConditionsAt, Conditions}
use Rattle.format.specs.JobBytes.{IsJob, SafeBytes}
use Rattle.format.proofs.Exact.{job_read, exact}

-- what members and covers show wherever runs begin, wherever 8 is judged
pub inductive : (tested : JobFile → ℕ) (job certificate : List ℕ) (counts : Counts) (c : ConditionsAt tested job certificate counts)
    → Inductive c.file.job c.members c.covers
inductive tested job certificate counts c =
    record {
      operations = λ t i. let (kind, a, b, (_, named)) = (c.job_is.in_range.transitions t i).op in (kind, a, b, named);
      members = λ m i. (c.members_range.members m i).shape;
      covers = c.hold;
    }

pub certified : (job certificate : List ℕ) (counts : Counts) (c : Conditions job certificate counts) → Certified c.file.job c.members c.covers
certified job certificate counts c = record { inductive = inductive start_of job certificate counts c; start = c.start }

-- SAFE: for all byte lists, if the verdict is accepted, no configuration on any run of the job satisfies a shape forbidden at its state
pub safe_bytes : (job certificate : List ℕ) (counts : Counts) → verdict job certificate ≡ accepted counts → SafeBytes job
safe_bytes job certificate counts v =
    let c = (exact job certificate counts).0 v in
    record { file = c.file; job_is = c.job_is; safe = safe c.file.job c.members c.covers (certified job certificate counts c) }

-- bytes are those of one job at most
pub one_job : (job : List ℕ) (f g : JobFile) → IsJob job f → IsJob job g → f ≡ g
one_job job f g i j =
    let (p, a) = job_read job f i in
    let (q, b) = job_read job g j in
    let e : ◌≡◌ {A = Parsed JobFile} (parsed f p) (parsed g q) = sym a ∙ b in
    cc

-- and they are the bytes of its numbers
pub job_bytes : (job : List ℕ) (f : JobFile) → AtMost 255 job → IsJob job f → job ≡ encode (job_numbers f)
job_bytes job f limit i = sym (encode_decode job (job_numbers f) limit i.reads).1
