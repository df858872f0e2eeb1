-- A job by its bytes and its header.
use Rattle.std.specs.Prelude.{List, ℕ, ◌+◌, ◌*◌}
use Rattle.lists.specs.List.{concat_map, sum}
use Rattle.run.specs.Run.{Transition, Located, Job}
use Rattle.cover.specs.Cover.{predecessors_by, owed}
use Rattle.format.specs.Certificate.{read_cover}
use Rattle.format.specs.Conditions.{counts_of}
use Rattle.format.specs.JobNumbers.{JobFile}
use Rattle.format.specs.Parser.{Parser, ◌>>=◌, ◌>>◌, return, each, certificate_buffer, end}
use Rattle.format.specs.Verdict.{Counts}
use Rattle.layout.specs.Entries.{version_of, entries_at}
use Rattle.layout.specs.Transitions.{transition_at}
use Rattle.reader.specs.Transitions.{transitions_in}
use Rattle.reader.specs.declared.Header.{Header}

module _ (job : List ℕ) (h : Header) where
  abbrev pub transition_in : ℕ → Transition
  transition_in i = transition_at job (h.transitions_at + 5 * i)

  -- the state that a transition leads to
  abbrev pub to_state : ℕ → ℕ
  to_state i = (transition_in i).to

  abbrev pub file_in : JobFile
  file_in =
      record {
        version = version_of job;
        states = h.states;
        job =
            record {
              variables = h.variables;
              start = h.start;
              transitions = transitions_in job h;
              forbidden = entries_at job h.variables h.bads_at h.bads;
            };
      }

  -- what is owed for one member
  abbrev pub owed_by : Located → List Located
  owed_by m = concat_map (predecessors_by m) (transitions_in job h)

-- the covers that a job and members owe, and nothing after them
unfoldable pub read_covers : List ℕ → Job → List Located → Parser Counts
read_covers cert j ms = do
  links ← each (read_cover (certificate_buffer cert) ms) (owed j ms)
  end (certificate_buffer cert)
  return (counts_of j ms (sum links))
