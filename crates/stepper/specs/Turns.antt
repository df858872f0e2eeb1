-- Several steps in turn.
use Rattle.std.specs.Prelude.{true, false, List, [], ◌∷◌, ◌≡◌, ℕ, zero, suc, ◌/◌, ◌%◌}
use Rattle.stepper.specs.Step.{stays, Steps}
use Rattle.stepper.specs.Table.{well_formed}
use Rattle.stepper.specs.declared.Heap64.{Heap64}
use Rattle.stepper.specs.declared.Outcome.{Outcome}
use Rattle.stepper.specs.declared.Outcome.TheVariants.{Moved, Blocked, Refused}
use Rattle.stepper.specs.declared.StepRefusal.TheVariants.{IllFormed}
use Rattle.stepper.specs.declared.Stepped.{Stepped}

-- where a step moved, `on`; where it did not, `over`
abbrev pub on_moved : Outcome → Type 0 → Type 0 → Type 0
on_moved Moved on over = on
on_moved Blocked on over = over
on_moved (Refused r) on over = over

-- r comes of n times the operation, by steps, and then of `rest`; the first step that does not move ends it
abbrev pub Repeats : ℕ → ℕ → ℕ → ℕ → (Heap64 → Stepped → Type 0) → Heap64 → Stepped → Type 0
Repeats kind a b zero rest t r = rest t r
Repeats kind a b (suc n) rest t r =
    (s : Stepped) × Steps t kind a b 0 s × on_moved s.outcome (Repeats kind a b n rest s.heap r) (r ≡ s)

-- all of it is done
abbrev pub ended : Heap64 → Stepped → Type 0
ended t r = r ≡ stays t Moved

-- r comes of the operations in turn. A turn is one number: to the base 16 its digits are, from the last on, b, a and the kind; what is left before
-- them is how many times the operation is done.
abbrev pub InTurn : List ℕ → Heap64 → Stepped → Type 0
InTurn [] t r = ended t r
InTurn (turn ∷ turns) t r = Repeats (turn / 256 % 16) (turn / 16 % 16) (turn % 16) (turn / 4096) (InTurn turns) t r

-- What several steps promise: refusal 13, or what steps in turn give.
pub record StepsInTurn (t : Heap64) (turns : List ℕ) (r : Stepped) : Type 0 where
  pub ill_formed : well_formed t ≡ false → r ≡ stays t (Refused IllFormed)
  pub in_turn : well_formed t ≡ true → InTurn turns t r
