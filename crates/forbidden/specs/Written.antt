-- The job written again with a set of the ready shapes after its own, over bytes. Document 02, wish 1: "Given a job, a variable and a state,
-- write the job again with them after its own". "Each of the three sets is asked for alone, the third without variable or state."
use Rattle.std.specs.Prelude.{Bool, true, ◌&&◌, cond, not, List, [], ◌∷◌, ◌++◌, ◌≡◌, ℕ, suc, ◌≤◌, ◌<◌, ltb, length, drop}
use Rattle.number.specs.CallResult.{CallResult}
use Rattle.number.specs.NumberList.{encode}
use Rattle.run.specs.Run.{Transition, Located, Job, Safe}
use Rattle.format.specs.Conditions.{Acceptable}
use Rattle.format.specs.Job.{read_whole_job}
use Rattle.format.specs.JobBytes.{IsJob}
use Rattle.format.specs.JobNumbers.{JobFile, job_numbers}
use Rattle.format.specs.Parser.{reason_number, Parsed, parsed, fault, job_buffer, within}
use Rattle.format.specs.Verdict.{fits}
use Rattle.forbidden.specs.Guarantees.{ListAt, NoneLostAt, StepsAtCells}
use Rattle.forbidden.specs.Sets.{not_list_shapes, lost_block_shapes, at_state, bad_steps_shapes, also_forbid}

-- a set that is asked for, the first two with a variable and a state
pub data ReadySet : Type 0 where
  not_list : ℕ → ℕ → ReadySet
  lost_block : ℕ → ℕ → ReadySet
  bad_steps : ReadySet

-- its shapes, for n variables and these transitions
abbrev pub shapes_of : ReadySet → ℕ → List Transition → List Located
shapes_of (not_list x q) n ts = at_state q (not_list_shapes n x)
shapes_of (lost_block x q) n ts = at_state q (lost_block_shapes n x)
shapes_of bad_steps n ts = bad_steps_shapes n ts

-- what a job that forbids the set guarantees on every run
abbrev pub Guarantees : ReadySet → Job → Type 0
Guarantees (not_list x q) j = ListAt j x q
Guarantees (lost_block x q) j = NoneLostAt j x q
Guarantees bad_steps j = StepsAtCells j

-- one of n variables and one of so many states are asked for
abbrev pub is_inside : ReadySet → ℕ → ℕ → Bool
is_inside (not_list x q) n states = within 1 (suc n) x && ltb q states
is_inside (lost_block x q) n states = within 1 (suc n) x && ltb q states
is_inside bad_steps n states = true

-- the same as a claim (`r_inside`): a variable from 1 to n and a state below `states` are asked for
abbrev pub Inside : ReadySet → ℕ → ℕ → Type 0
Inside (not_list x q) n states = ((1 ≤ x) × (x < suc n)) × (q < states)
Inside (lost_block x q) n states = ((1 ≤ x) × (x < suc n)) × (q < states)
Inside bad_steps n states = Unit {0}

-- the job with the set after its own
abbrev pub with_set : ReadySet → JobFile → JobFile
with_set set f = record { version = f.version; states = f.states; job = also_forbid (shapes_of set f.job.variables f.job.transitions) f.job }

-- the bytes that are written, or the number of a refusal and the value told with it
pub data Rewritten : Type 0 where
  written : List ℕ → Rewritten
  refused : ℕ → ℕ → Rewritten

-- "16 for a variable or state outside it, 31 for more than 64 forbidden shapes in all, 12 for short room"
unfoldable pub rewrite_file : ReadySet → ℕ → JobFile → Rewritten
rewrite_file set room f =
    let count = length (with_set set f).job.forbidden in
    let bytes = encode (job_numbers (with_set set f)) in
    cond (not (is_inside set f.job.variables f.states)) (refused 16 0)
    (cond (ltb 64 count) (refused 31 0)
    (cond (ltb room (length bytes)) (refused 12 (length bytes)) (written bytes)))

abbrev pub rewrite_read : ReadySet → ℕ → Parsed JobFile → Rewritten
rewrite_read set room (parsed f next) = rewrite_file set room f
rewrite_read set room (fault why place) = refused (reason_number why) place

-- What comes out for every job, set and room: "After the job's own refusals come 16 [..], 31 [..], 12 [..]".
unfoldable pub rewrite : List ℕ → ReadySet → ℕ → Rewritten
rewrite job set room = cond (fits job) (rewrite_read set room (read_whole_job (job_buffer job) 0)) (refused 1 0)

-- 0 with the bytes filled, or the refusal's number with its place, for 12 the length needed
abbrev pub rewrite_result : Rewritten → CallResult
rewrite_result (written bytes) = record { code = 0; values = length bytes ∷ [] }
rewrite_result (refused number value) = record { code = number; values = value ∷ [] }

-- the output then: its first bytes are filled and none beyond, and a refusal leaves it as it was
abbrev pub output_after : Rewritten → List ℕ → List ℕ
output_after (written bytes) out = bytes ++ drop (length bytes) out
output_after (refused number value) out = out

-- What is written reads as the job with the set after its own. If it is to be accepted with some certificate (`vorruda_check` then returns 0),
-- no heap on a run of the job satisfies what the job forbids, and the job guarantees what the set is for.
pub record Ready (job : List ℕ) (set : ReadySet) (bytes : List ℕ) : Type 0 where
  pub file : JobFile
  pub job_is : IsJob job file
  pub written_is : IsJob bytes (with_set set file)
  pub safe : (certificate : List ℕ) → Acceptable bytes certificate → Safe file.job
  pub guarantees : (certificate : List ℕ) → Acceptable bytes certificate → Guarantees set file.job

-- the output begins with such bytes, and the rest of it is as before
pub record ReadyIn (job : List ℕ) (set : ReadySet) (before after : List ℕ) : Type 0 where
  pub bytes : List ℕ
  pub after_is : after ≡ bytes ++ drop (length bytes) before
  pub ready : Ready job set bytes

-- what is promised of the result and of the output
pub record Rewrites (job : List ℕ) (set : ReadySet) (before : List ℕ) (told : CallResult) (after : List ℕ) : Type 0 where
  pub result : told ≡ rewrite_result (rewrite job set (length before))
  pub output : after ≡ output_after (rewrite job set (length before)) before
  pub ready : told.code ≡ 0 → ReadyIn job set before after
