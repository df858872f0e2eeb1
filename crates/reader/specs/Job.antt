-- What reading a job answers.
use Rattle.std.specs.Prelude.{true, List, map, ◌≡◌, ℕ, ◌+◌, ◌*◌, ◌≤◌, ◌<◌, length, get_or, Result, Ok, Err}
use Rattle.lists.specs.Range.{range}
use Rattle.format.specs.JobBytes.{Between}
use Rattle.format.specs.Job.{read_located, read_whole_job}
use Rattle.format.specs.JobNumbers.{JobFile}
use Rattle.format.specs.Parser.{parsed, fault, Parser, ◌>>=◌, ◌>>◌, return, here, many, job_buffer, ranged, end}
use Rattle.kinds.specs.Kinds.{allowed}
use Rattle.layout.specs.Entries.{version_of, entries_at, EntriesIn}
use Rattle.layout.specs.Transitions.{transition_at}
use Rattle.number.specs.Number.{number_at, numeral}
use Rattle.verdict.specs.Verdict.{reason_of}
use Rattle.verdict.specs.declared.Refused.{Refused}
use Rattle.jobreader.specs.declared.Preamble.{Preamble}
use Rattle.reader.specs.declared.Header.{Header}

-- the transition at a place is whole and in range
pub record TransitionIn (bytes : List ℕ) (variables states at : ℕ) : Type 0 where
  pub inside : at + 5 ≤ length bytes
  pub from : get_or bytes at 0 < states
  pub kind : Between 1 13 (get_or bytes (at + 1) 0)
  pub operands : allowed variables (get_or bytes (at + 1) 0) (get_or bytes (at + 2) 0) (get_or bytes (at + 3) 0) ≡ true
  pub to : get_or bytes (at + 4) 0 < states

-- the job's bytes are read as a job, and the header says what it is
pub record JobRead (job : List ℕ) (h : Header) : Type 0 where
  pub file : JobFile
  pub read : read_whole_job (job_buffer job) 0 ≡ parsed file (length job)
  pub version_is : file.version ≡ version_of job
  pub variables_are : file.job.variables ≡ h.variables
  pub states_are : file.states ≡ h.states
  pub start_is : file.job.start ≡ h.start
  pub transitions_are : file.job.transitions ≡ map (λ i. transition_at job (h.transitions_at + 5 * i)) (range 0 h.transitions)
  pub forbidden_are : file.job.forbidden ≡ entries_at job h.variables h.bads_at h.bads
  pub version : Between 1 2 (version_of job)
  pub variables : Between 1 8 h.variables
  pub states : Between 1 64 h.states
  pub start : h.start < h.states
  pub transitions_number : h.transitions ≤ 256
  -- version, V, S and the start state are one byte each, so the number of transitions stands at place 4, and they follow it
  pub transitions_place : number_at job 4 ≡ numeral h.transitions h.transitions_at
  pub transitions : (i : ℕ) → i < h.transitions → TransitionIn job h.variables h.states (h.transitions_at + 5 * i)
  pub bads_number : Between 1 64 h.bads
  pub bads_place : number_at job (h.transitions_at + 5 * h.transitions) ≡ numeral h.bads h.bads_at
  pub bads : EntriesIn job h.variables h.bads_at h.bads

-- what follows the transitions: the forbidden shapes, and nothing after them; with the numbers before, it makes a header
unfoldable pub read_rest : List ℕ → Preamble → Parser Header
read_rest job f = do
  bads ← ranged (job_buffer job) 1 65
  bads-at ← here
  many bads (read_located (version_of job) (job_buffer job) f.variables f.states)
  end (job_buffer job)
  return
      (record {
        variables = f.variables;
        states = f.states;
        start = f.start;
        transitions = f.transitions;
        transitions_at = f.at;
        bads = bads;
        bads_at = bads-at;
      })

abbrev pub RestAnswered : List ℕ → Preamble → ℕ → Result Header Refused → Type 0
RestAnswered job f at (Ok h) = (next : ℕ) × (read_rest job f at ≡ parsed h next)
RestAnswered job f at (Err r) = read_rest job f at ≡ fault (reason_of r.refusal) r.place

abbrev pub JobAnswered : List ℕ → Result Header Refused → Type 0
JobAnswered job (Ok h) = JobRead job h
JobAnswered job (Err r) = read_whole_job (job_buffer job) 0 ≡ fault (reason_of r.refusal) r.place
