-- Demand 3 can fail: the job of P3 and P4 is not safe.
use mathlib.Core.Path.{◌≡◌, refl, sym, ◌∙◌, subst}
use Rattle.run.specs.Run.{Safe}
use Rattle.run.proofs.NotSafe.{assign_null, not_safe}
use Rattle.number.specs.Number.{number_in}
use Rattle.format.specs.Parser.{Parsed, parsed, job_buffer, many, read_as, end}
use Rattle.format.specs.Job.{read_facts, read_shape, read_located, read_transition, read_job, read_whole_job}
use Rattle.format.specs.JobNumbers.{JobFile}
use Rattle.format.specs.JobBytes.{SafeBytes}
use Rattle.format.proofs.Exact.{job_read}
use Rattle.cases.specs.Rows.{J}

-- what its bytes read as
reads : read_whole_job (job_buffer (J 3)) 0 ≡ parsed (record { version = 1; states = 2; job = assign_null }) 14
unfolding number_in many read_as end read_shape read_facts read_located read_transition read_job read_whole_job
reads = refl

pub J3_not_safe : ¬ SafeBytes (J 3)
J3_not_safe s =
    let (next, e) = job_read (J 3) s.file s.job_is in
    let same : ◌≡◌ {A = Parsed JobFile} (parsed s.file next) (parsed (record { version = 1; states = 2; job = assign_null }) 14) = sym e ∙ reads in
    let job_is : s.file.job ≡ assign_null = cc in
    not_safe (subst Safe job_is s.safe)
