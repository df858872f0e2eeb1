-- A pair that is judged with what was read of it kept: the job's header, and the places of the members in a table.
use Rattle.std.specs.Prelude.{Bool, true, false, ◌&&◌, cond, List, ℕ, Result, Ok, Err}
use Rattle.format.specs.Job.{read_whole_job}
use Rattle.format.specs.JobNumbers.{JobFile}
use Rattle.format.specs.Parser.{Parsed, parsed, fault, job_buffer, certificate_buffer}
use Rattle.format.specs.Verdict.{start_of, no_state, Verdict, accepted, refused, fits}
use Rattle.layout.specs.Entries.{version_of}
use Rattle.reader.specs.Members.{member_places, with_places, MembersRead}
use Rattle.reader.specs.declared.Header.{Header}
use Rattle.verdict.specs.Verdict.{reason_of, counts_told}
use Rattle.verdict.specs.declared.Refused.{Refused}
use Rattle.checker.specs.declared.AcceptedPair.{AcceptedPair}

-- where 8 is judged: at the job's start, or at no state
abbrev pub tested_if : Bool → JobFile → ℕ
tested_if true = start_of
tested_if false = no_state

-- the verdict of the definitions that an accepted pair or a refusal is
abbrev pub pair_of : Result AcceptedPair Refused → Verdict
pair_of (Ok p) = accepted (counts_told p.counts)
pair_of (Err r) = refused (reason_of r.refusal) r.place

-- as many members are read, and the table has their places
abbrev pub MembersKept : List ℕ → List ℕ → Header → ℕ → ℕ → List ℕ → Type 0
MembersKept job cert h tested count table = (next : ℕ) × MembersRead cert (version_of job) h.variables h.states tested table count next

-- the table with the places of the members that are read for a job, up to the first that is not
abbrev pub placed : List ℕ → JobFile → List ℕ → List ℕ
placed cert f table = with_places (member_places (certificate_buffer cert) f.version f.job.variables f.states) table

abbrev placed_by : List ℕ → List ℕ → Parsed JobFile → List ℕ
placed_by cert table (parsed f next) = placed cert f table
placed_by cert table (fault why place) = table

-- as it was, where a length or the job is refused
unfoldable pub places_after : List ℕ → List ℕ → List ℕ → List ℕ
places_after job cert table = let by_job = placed_by cert table (read_whole_job (job_buffer job) 0) in cond (fits job && fits cert) by_job table
