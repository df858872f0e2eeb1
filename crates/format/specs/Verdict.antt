-- The verdict on a job and a certificate, for every pair of byte lists.
use Rattle.std.specs.Prelude.{Bool, cond, List, ℕ, length}
use Rattle.lists.specs.List.{sum}
use Rattle.run.specs.Run.{Located}
use Rattle.cover.specs.Cover.{owed}
use Rattle.format.specs.Parser.{Reason, refusal, Parsed, parsed, fault, onward, Parser, ◌>>=◌, ◌>>◌, return, each, Buffer, job_buffer, certificate_buffer, within, end}
use Rattle.format.specs.Job.{read_whole_job}
use Rattle.format.specs.JobNumbers.{JobFile}
use Rattle.format.specs.Certificate.{without_places, read_members, test_start, read_cover}

-- "The counts are B, N and the covers in the order above." Document 02, Wish 8: "The verdict carries the sum over all covers as a fourth
-- count", that of the links followed.
pub record Counts : Type 0 where
  pub bads : ℕ
  pub members : ℕ
  pub covers : ℕ
  pub links : ℕ

-- "an answer carries either the three counts or a refusal with its place"; they are four with the links
pub data Verdict : Type 0 where
  accepted : Counts → Verdict
  refused : Reason → ℕ → Verdict

-- 8 is judged at one state, for the members that are there: by the checker at the job's start
abbrev pub start_of : JobFile → ℕ
start_of f = f.job.start

-- where it isn't judged, at the first number that is no state, so for no member
abbrev pub no_state : JobFile → ℕ
no_state f = f.states

-- "6 and 7 likewise from the certificate's first number to its last member; then 8, the first such member; then cover by cover 6, 7, 9; then
-- 10."
unfoldable pub read_certificate : ℕ → Buffer → JobFile → Parser Counts
read_certificate tested s f = do
  members ← read_members s f.version f.job.variables f.states
  let ms : List Located = without_places members
  let covered : List Located = owed f.job ms
  each (test_start tested) members
  links ← each (read_cover s ms) covered
  end s
  return (record { bads = length f.job.forbidden; members = length ms; covers = length covered; links = sum links })

-- the job, then the certificate, each from its first byte
unfoldable pub read_both : (JobFile → ℕ) → List ℕ → List ℕ → Parsed Counts
read_both tested job certificate = onward (read_whole_job (job_buffer job) 0) (λ f next. read_certificate (tested f) (certificate_buffer certificate) f 0)

abbrev pub conclude : Parsed Counts → Verdict
conclude (parsed counts next) = accepted counts
conclude (fault why place) = refused why place

abbrev pub fits : List ℕ → Bool
fits s = within 1 65537 (length s)

-- "1. The job's length is 0 or above 65,536 (place 0). 2. The certificate's length is 0 or above 65,536 (place 0)."
unfoldable pub verdict_at : (JobFile → ℕ) → List ℕ → List ℕ → Verdict
verdict_at tested job certificate =
    let read = conclude (read_both tested job certificate) in
    let sized = cond (fits certificate) read (refused (refusal 2) 0) in
    cond (fits job) sized (refused (refusal 1) 0)

-- with 8 judged at the job's start
abbrev pub verdict : List ℕ → List ℕ → Verdict
verdict = verdict_at start_of
