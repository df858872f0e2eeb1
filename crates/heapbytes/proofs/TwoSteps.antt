-- Steps over the same bytes and numbers compose: a step on those that another left is a step on the heap that the other gave.
use mathlib.Core.Bool.{Bool, true, false}
use mathlib.Core.List.{List}
use mathlib.Core.Path.{◌≡◌, refl, sym, subst}
use Prim.Native.Nat.{ℕ}
use native.Mathlib.Omega.{arith}
use Rattle.stepper.specs.Step.{outcome_code, Steps}
use Rattle.stepper.specs.Table.{Sized}
use Rattle.stepper.specs.declared.Heap64.{Heap64}
use Rattle.stepper.specs.declared.Outcome.{Outcome}
use Rattle.stepper.specs.declared.Outcome.TheVariants.{Moved, Blocked, Refused}
use Rattle.stepper.specs.declared.StepRefusal.TheVariants.{IllFormed, BadOperation, Full}
use Rattle.stepper.specs.declared.Stepped.{Stepped}
use Rattle.stepper.proofs.Steps.{sized_step}
use Rattle.heapbytes.specs.HeapBytes.{readable, heap_from, heap_bytes, bytes_after, values_after, StepsBytes}
use Rattle.heapbytes.proofs.RoundTrip.{bytes_readable_lem, heap_from_bytes}

pub sized_from : (bytes values : List ℕ) → Sized (heap_from bytes values)
unfolding heap_from
sized_from bytes values = record { vars = refl; used = refl; links = refl; values = refl }

pub is_moved : (o : Outcome) → 0 ≡ outcome_code o → o ≡ Moved
is_moved Moved e = refl
is_moved Blocked e = absurd (omega arith)
is_moved (Refused IllFormed) e = absurd (omega arith)
is_moved (Refused BadOperation) e = absurd (omega arith)
is_moved (Refused Full) e = absurd (omega arith)

module _ (bytes values : List ℕ) (kind a b value : ℕ) where
  -- the arrays of the heap after a step have their lengths
  pub sized_after : (s : Stepped) → Steps (heap_from bytes values) kind a b value s → Sized s.heap
  sized_after s steps =
      subst (λ (r : Stepped). Sized r.heap) (sym steps.result) (sized_step (heap_from bytes values) kind a b value (sized_from bytes values))

  module _ (bytes' values' : List ℕ) (m : StepsBytes bytes values kind a b value 0 bytes' values') where
    -- where a step moved, the bytes and numbers after it are those of the heap that it gave
    moved : (s : Stepped) × Steps (heap_from bytes values) kind a b value s × (readable bytes' values' ≡ true) × (heap_from bytes' values' ≡ s.heap)
    moved = by_readable (readable bytes values) refl
      where
        by_readable : (r : Bool) → readable bytes values ≡ r
            → (s : Stepped) × Steps (heap_from bytes values) kind a b value s × (readable bytes' values' ≡ true) × (heap_from bytes' values' ≡ s.heap)
        by_readable false e = absurd (omega (arith, (m.unreadable e).0))
        by_readable true e =
            let (s, steps, code_is, bytes_are, values_are) = m.stepped e in
            let written : bytes' ≡ heap_bytes s.heap = rw (is_moved s.outcome code_is) at bytes_are in
            let codes_written : values' ≡ s.heap.values = rw (is_moved s.outcome code_is) at values_are in
            let sized = sized_after s steps in
            (s, steps, rw (written, codes_written) (bytes_readable_lem s.heap sized), rw (written, codes_written) (heap_from_bytes s.heap sized))

    -- and every further step on these is a step on that heap
    pub steps_compose : (s : Stepped) × Steps (heap_from bytes values) kind a b value s
        × ((kind' a' b' value' code : ℕ) (later laterValues : List ℕ) → StepsBytes bytes' values' kind' a' b' value' code later laterValues
        → (s' : Stepped) × Steps s.heap kind' a' b' value' s' × (code ≡ outcome_code s'.outcome)
        × (later ≡ bytes_after s'.outcome s'.heap bytes') × (laterValues ≡ values_after s'.outcome s'.heap values'))
    steps_compose =
        let (s, steps, reads, heap_is) = moved in (
          s,
          steps,
          λ kind' a' b' value' code later laterValues m'.
              let (s', steps', code_is, later-is, values_are) = m'.stepped reads in
              (s', subst (λ (t : Heap64). Steps t kind' a' b' value' s') heap_is steps', code_is, later-is, values_are),
        )
