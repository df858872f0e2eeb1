-- Operations that are done in place, by their kinds: a table with one place changed, and what a function says of a cell that it looks up.
use Rattle.std.specs.Prelude.{Bool, true, false, List, ◌≡◌, ℕ, ◌<◌, length, get_or, set, Option, Some, None, MatchOption}
use Rattle.heap.specs.Place.{cell}
use Rattle.heap.specs.Operation.{operation}
use Rattle.kinds.specs.Kinds.{number_of}
use Rattle.kinds.specs.declared.Kind.{Kind}
use Rattle.place.specs.declared.Place.{Place}
use Rattle.stepper.specs.Step.{stays, perform_named}
use Rattle.stepper.specs.declared.Heap64.{Heap64}
use Rattle.stepper.specs.declared.Outcome.TheVariants.{Refused}
use Rattle.stepper.specs.declared.StepRefusal.TheVariants.{BadOperation}
use Rattle.stepper.specs.declared.Stepped.{Stepped}

-- an operation by its kind in the code, refused where there is none
abbrev pub perform_kind : Heap64 → ℕ → Option Kind → ℕ → ℕ → Stepped
perform_kind t value None a b = stays t (Refused BadOperation)
perform_kind t value (Some k) a b = perform_named t value (operation t.variables (number_of k) a b)

-- variable v, from 0, at a place
abbrev pub with_var : Heap64 → ℕ → Place → Heap64
with_var t v p = record { variables = t.variables; vars = set t.vars v p; used = t.used; links = t.links; values = t.values }

-- the link of cell i at a place
abbrev pub with_link : Heap64 → ℕ → Place → Heap64
with_link t i p = record { variables = t.variables; vars = t.vars; used = t.used; links = set t.links i p; values = t.values }

-- the number of the used cell that is at a place; none where the place is no cell
abbrev pub CellAt : Heap64 → ℕ → Option ℕ → Type 0
CellAt t p r = MatchOption r (p < 3) (λ i. (i < 64) × (p ≡ cell i) × (get_or t.used i false ≡ true))

-- the number of the first cell that is not used; none where all are
abbrev pub FirstUnused : List Bool → Option ℕ → Type 0
FirstUnused used r =
    MatchOption r ((k : ℕ) → k < length used → get_or used k false ≡ true)
    (λ i. (i < length used) × (get_or used i false ≡ false) × ((k : ℕ) → k < i → get_or used k false ≡ true))
