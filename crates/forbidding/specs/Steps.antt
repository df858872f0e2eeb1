-- The transitions of a job by their bytes, and what they step through.
use Rattle.std.specs.Prelude.{List, ℕ, ◌+◌, ◌*◌, ◌≤◌, ◌<◌, length}
use Rattle.lists.specs.List.{◌∈◌}
use Rattle.forbidden.specs.Sets.{steps_through}
use Rattle.layout.specs.Transitions.{transition_at}

-- the transition at a place is whole, and it leaves a state below 64 and steps through none but variables 1 to n
pub record StepIn (job : List ℕ) (n at : ℕ) : Type 0 where
  pub whole : at + 5 ≤ length job
  pub from : (transition_at job at).from < 64
  pub through : (v : ℕ) → v ∈ steps_through (transition_at job at).op → (1 ≤ v) × (v ≤ n)

-- each of so many transitions is
abbrev pub StepsIn : List ℕ → ℕ → ℕ → ℕ → Type 0
StepsIn job n first count = (i : ℕ) → i < count → StepIn job n (first + 5 * i)
