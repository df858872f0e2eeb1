-- The call's promise, by its outcome.
use mathlib.Core.Bool.{Bool, true, false}
use mathlib.Core.List.{List}
use mathlib.Core.Path.{◌≡◌, refl, subst}
use Prim.Native.Nat.{ℕ}
use native.Mathlib.Omega.{arith}
use Rattle.stepper.specs.Step.{outcome_code, Steps}
use Rattle.stepper.specs.declared.Heap64.{Heap64}
use Rattle.stepper.specs.declared.Outcome.{Outcome}
use Rattle.stepper.specs.declared.Outcome.TheVariants.{Moved, Blocked, Refused}
use Rattle.stepper.specs.declared.Stepped.{Stepped}
use Rattle.heapbytes.specs.HeapBytes.{readable, heap_from, heap_bytes, bytes_after, values_after, StepsBytes}

module _ (bytes values : List ℕ) (kind a b value : ℕ) where
  pub unread : readable bytes values ≡ false → StepsBytes bytes values kind a b value 13 bytes values
  unread e = record { unreadable = λ z. (refl, refl, refl); stepped = λ z. let q : ◌≡◌ {A = ℕ} 0 1 = cc in absurd (omega arith) }

  module _ (e : readable bytes values ≡ true) (t : Heap64) (t_is : t ≡ heap_from bytes values) (s : Stepped) (steps : Steps t kind a b value s) where
    pub done : (bytes' values' : List ℕ) → bytes' ≡ bytes_after s.outcome s.heap bytes → values' ≡ values_after s.outcome s.heap values
        → StepsBytes bytes values kind a b value (outcome_code s.outcome) bytes' values'
    done bytes' values' f g =
        record {
          unreadable = λ z. let q : ◌≡◌ {A = ℕ} 0 1 = cc in absurd (omega arith);
          stepped = λ z. (s, subst (λ u. Steps u kind a b value s) t_is steps, refl, f, g);
        }

-- an outcome other than the first, moved, leaves the bytes and the numbers
pub left : (o : Outcome) → (o ≡ Moved → ⊥) → (t : Heap64) (bytes values : List ℕ)
    → (bytes ≡ bytes_after o t bytes) × (values ≡ values_after o t values)
left Moved k t bytes values = absurd (k refl)
left Blocked k t bytes values = (refl, refl)
left (Refused r) k t bytes values = (refl, refl)

-- moved: those of the heap after the step
pub went : (o : Outcome) → o ≡ Moved → (t : Heap64) (bytes values : List ℕ) → (heap_bytes t ≡ bytes_after o t bytes) × (t.values ≡ values_after o t values)
went o e t bytes values = rw e (refl, refl)

-- where 0 is not told, the values stay
pub kept : (bytes values : List ℕ) (kind a b value code : ℕ) (bytes' values' : List ℕ) → StepsBytes bytes values kind a b value code bytes' values'
    → (code ≡ 0 → ⊥) → values' ≡ values
kept bytes values kind a b value code bytes' values' m n = go (readable bytes values) refl
  where
    by_outcome : (o : Outcome) (t : Heap64) → code ≡ outcome_code o → values' ≡ values_after o t values → values' ≡ values
    by_outcome Moved t c v = absurd (n c)
    by_outcome Blocked t c v = v
    by_outcome (Refused r) t c v = v

    go : (r : Bool) → readable bytes values ≡ r → values' ≡ values
    go false e = (m.unreadable e).2
    go true e = let (s, _, c, _, v) = m.stepped e in by_outcome s.outcome s.heap c v
