-- What the stepper does.
use Rattle.std.specs.Prelude.{Bool, true, false, ◌&&◌, cond, List, [], ◌∷◌, ◌≡◌, ℕ, suc, eqb, leb, ltb}
use Rattle.std.proofs.Math.Logic.{ite}
use Rattle.std.proofs.Math.Option.{Option, none, some}
use Rattle.heap.specs.Operation.{Op, equal, different, new, equal_value, below_value, larger, smaller, Enabled, enabled?, after, operation, numbers_of}
use Rattle.stepper.specs.Table.{heap_of, table_of, well_formed}
use Rattle.stepper.specs.declared.Heap64.{Heap64}
use Rattle.stepper.specs.declared.Outcome.{Outcome}
use Rattle.stepper.specs.declared.Outcome.TheVariants.{Moved, Blocked, Refused}
use Rattle.stepper.specs.declared.StepRefusal.TheVariants.{IllFormed, BadOperation, Full}
use Rattle.stepper.specs.declared.Stepped.{Stepped}

-- 0 for moved, document 01's number for a refusal; for blocked, which "is no refusal", 100
abbrev pub outcome_code : Outcome → ℕ
outcome_code Moved = 0
outcome_code Blocked = 100
outcome_code (Refused IllFormed) = 13
outcome_code (Refused BadOperation) = 14
outcome_code (Refused Full) = 15

abbrev pub stays : Heap64 → Outcome → Stepped
stays t o = record { heap = t; outcome = o }

-- "New takes the lowest unused cell, so a freed cell serves again.": its number, 64 where all are used
unfoldable pub lowest_unused : List Bool → ℕ
lowest_unused [] = 0
lowest_unused (u ∷ us) = cond u (suc (lowest_unused us)) 0

-- new, which is kind 6
abbrev pub allocates : Op → Bool
allocates o = eqb (numbers_of o).0 6

-- What an operation leaves open is chosen so: new takes the lowest unused cell; larger, smaller and read write the value that is lent. The
-- others leave nothing open.
abbrev pub choice : Heap64 → ℕ → Op → ℕ
choice t value o = cond (allocates o) (lowest_unused t.used) value

-- a = b or a ≠ b
abbrev pub comparison : Bool → ℕ → ℕ → Op
comparison true = equal
comparison false = different

-- the test equal or below of two values
abbrev pub value_test : Bool → ℕ → ℕ → Op
value_test true = equal_value
value_test false = below_value

-- the test of two codes of values, v and w: there are values, and they are equal, or the first is below the second
abbrev pub codes_meet : Bool → ℕ → ℕ → Bool
codes_meet is-equal v w = ltb 0 v && cond is-equal (eqb v w) (ltb v w)

-- a larger or a smaller value
abbrev pub other_value : Bool → ℕ → ℕ → Op
other_value true = larger
other_value false = smaller

-- the value with code w is larger than the one with code v, or smaller, and there are both
abbrev pub codes_differ : Bool → ℕ → ℕ → Bool
codes_differ is-larger v w = cond is-larger (codes_meet false v w) (codes_meet false w v)

-- the table of the heap after an operation with that choice
abbrev pub table_after : Heap64 → Op → ℕ → Heap64
table_after t o x = table_of t.variables (after o x (heap_of t))

-- an operation on a well formed table, with a value lent: refusal 15, or the operation on the heap that the table stands for, or blocked
unfoldable pub perform : Heap64 → ℕ → Op → Stepped
perform t value o =
    cond (allocates o && leb 64 (lowest_unused t.used)) (stays t (Refused Full))
    (ite (enabled? o (choice t value o) (heap_of t)) (stays (table_after t o (choice t value o)) Moved) (stays t Blocked))

abbrev pub perform_named : Heap64 → ℕ → Option Op → Stepped
perform_named t value none = stays t (Refused BadOperation)
perform_named t value (some o) = perform t value o

-- for operations that leave no value open: such a one is performed, whatever value is lent
abbrev pub Performs : Heap64 → Op → Stepped → Type 0
Performs t o r = (value : ℕ) → r ≡ perform t value o

-- "The stepper tries 13, then 14, then 15."
unfoldable pub step_of : Heap64 → ℕ → ℕ → ℕ → ℕ → Stepped
step_of t kind a b value =
    cond (well_formed t) (perform_named t value (operation t.variables kind a b)) (stays t (Refused IllFormed))

-- What the stepper promises. A step that moved has done the operation on the heap that the table stands for; a well formed table stays well
-- formed; and new, which is enabled "always", is not blocked.
pub record Steps (t : Heap64) (kind a b value : ℕ) (r : Stepped) : Type 0 where
  pub result : r ≡ step_of t kind a b value
  pub does :
      r.outcome ≡ Moved
      → (o : Op) × (operation t.variables kind a b ≡ some o) × Enabled o (choice t value o) (heap_of t)
      × (heap_of r.heap ≡ after o (choice t value o) (heap_of t))
  pub returns : (r.outcome ≡ Moved → ⊥) → r.heap ≡ t
  pub formed : well_formed t ≡ true → well_formed r.heap ≡ true
  pub new_moves : (c : ℕ) → operation t.variables kind a b ≡ some (new c) → r.outcome ≡ Blocked → ⊥
