-- What the parts of the code promise: a refusal after 13, and an edit by its steps in turn.
use Rattle.std.specs.Prelude.{cond, Result, Ok, Err, List, [], ◌∷◌, ◌≡◌, ℕ, ◌+◌, ◌*◌}
use Rattle.stepper.specs.Turns.{StepsInTurn}
use Rattle.stepper.specs.declared.Heap64.{Heap64}
use Rattle.stepper.specs.declared.Outcome.{Outcome}
use Rattle.stepper.specs.declared.Outcome.TheVariants.{Moved, Blocked, Refused}
use Rattle.stepper.specs.declared.StepRefusal.TheVariants as step-refusal
use Rattle.stepper.specs.declared.Stepped.{Stepped}
use Rattle.blocklist.specs.Answers.{ready, Edited, hands_back}
use Rattle.blocklist.specs.declared.ListRefusal.{ListRefusal}
use Rattle.blocklist.specs.declared.ListRefusal.TheVariants.{IllFormed, Full}

abbrev pub refused_as : Heap64 → ListRefusal → ListRefusal
refused_as t r = cond (ready t) r IllFormed

-- what becomes of an edit by the outcome of its steps, none of which is blocked
abbrev pub edit_of : Outcome → Result (Unit {0}) ListRefusal
edit_of Moved = Ok tt
edit_of Blocked = Err IllFormed
edit_of (Refused step-refusal.IllFormed) = Err IllFormed
edit_of (Refused step-refusal.BadOperation) = Err IllFormed
edit_of (Refused step-refusal.Full) = Err Full

abbrev pub edited_as : Heap64 → Heap64 → Result (Unit {0}) ListRefusal → Edited
edited_as t after (Ok e) = (Ok e, after)
edited_as t after (Err r) = hands_back t r

-- r is the answer to an edit whose steps are these turns
abbrev pub EditedBy : Heap64 → List ℕ → Edited → Type 0
EditedBy t turns r = (s : Stepped) × StepsInTurn t turns s × (r ≡ edited_as t s.heap (edit_of s.outcome))

-- ---- the turns. The first is one of variable 3: it is refused just where there are fewer than three variables

-- n times an operation, and once
abbrev pub times : ℕ → ℕ → ℕ → ℕ → ℕ
times n kind a b = 4096 * n + (256 * kind + (16 * a + b))

abbrev pub once : ℕ → ℕ → ℕ → ℕ
once = times 1

-- 3 := null, 2 := null: all of a count, and the end of an edit
abbrev pub rest_turns : List ℕ
rest_turns = once 3 3 0 ∷ once 3 2 0 ∷ []

-- new(3), 3.next := 1, 1 := 3: a cell is put in front; n times 3 := 3.next: the one after which it belongs; 2 := 3.next, 3.next := 1: the rest is held, and
-- the ring closed; 3 := 1, 1 := 1.next, 3.next := 2: the head is where it was, and the ring open; 3 := null, 2 := null
abbrev pub insert_turns : ℕ → List ℕ
insert_turns n =
    once 6 3 0 ∷ once 5 3 1 ∷ once 3 1 3 ∷ times n 4 3 3 ∷ once 4 2 3 ∷ once 5 3 1 ∷ once 3 3 1 ∷ once 4 1 1 ∷ once 5 3 2 ∷ rest_turns

-- 3 := 1, 1 := 1.next, delete(3): the first goes; 3 := null, 2 := null
abbrev pub first_turns : List ℕ
first_turns = once 3 3 1 ∷ once 4 1 1 ∷ once 7 3 0 ∷ rest_turns

-- 3 := 1; i times 3 := 3.next: the one before the cell that goes; 2 := 3.next, 3.next := 1: its link keeps the head; 1 := 2, 2 := 2.next, delete(1): the cell
-- goes, the rest is held; 1 := 3.next, 3.next := 2: the head is where it was, and the rest linked; 3 := null, 2 := null
abbrev pub after_turns : ℕ → List ℕ
after_turns i =
    once 3 3 1 ∷ times i 4 3 3 ∷ once 4 2 3 ∷ once 5 3 1 ∷ once 3 1 2 ∷ once 4 2 2 ∷ once 7 1 0 ∷ once 4 1 3 ∷ once 5 3 2 ∷ rest_turns
