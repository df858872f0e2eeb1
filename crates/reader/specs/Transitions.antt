-- The transitions of a job by its bytes and its header.
use Rattle.std.specs.Prelude.{List, ℕ}
use Rattle.run.specs.Run.{Transition}
use Rattle.layout.specs.Transitions.{transitions_from}
use Rattle.reader.specs.declared.Header.{Header}

abbrev pub transitions_in : List ℕ → Header → List Transition
transitions_in job h = transitions_from job h.transitions_at 0 h.transitions
