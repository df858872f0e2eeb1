-- Kinds 1 to 7 leave a heap without values.
use mathlib.Core.Bool.{Bool, true, false}
use mathlib.Core.List.{List}
use mathlib.Core.Logic.{ite}
use mathlib.Core.Option.{none, some}
use mathlib.Core.Path.{◌≡◌, refl, ap, subst, ◌∙◌}
use Prim.Native.Nat.{ℕ, zero, suc, ◌≤◌, ◌<◌}
use native.Mathlib.Decide.{ℕ_discrete, dec_le, dec_lt}
use native.Mathlib.Nat.{zero-add}
use native.Mathlib.Omega.{arith}
use borrow.Author.Tests.{le-leb, lt-leb}
use lib.ListN.{get_or, get_or-eq_default}
use Rattle.heap.specs.Heap.{Heap, update}
use Rattle.heap.specs.Operation.{Op, Kind, after, operation}
use Rattle.heap.specs.Place.{cell}
use Rattle.heap.proofs.Codes.{by_code}
use Rattle.heap.proofs.Rows.{by_row, in_table}
use Rattle.lists.proofs.List.{end, ◌&◌}
use Rattle.lists.proofs.Range.{get_or_from, tabled}
use Rattle.stepper.specs.Step.{choice, Steps}
use Rattle.stepper.specs.Table.{heap_of, value_of}
use Rattle.stepper.specs.declared.Outcome.{Outcome}
use Rattle.stepper.specs.declared.Outcome.TheVariants.{Moved, Blocked, Refused}
use Rattle.stepper.specs.declared.Stepped.{Stepped}
use Rattle.heapbytes.specs.HeapBytes.{readable, codes_from, heap_from, values_after, StepsBytes, no_values, link_kind}
use Rattle.heapbytes.proofs.TwoSteps.{sized_after}

-- ---- heaps

-- no cell of the heap has a value
abbrev Valueless : Heap → Type 0
Valueless h = (p : ℕ) → h.value p ≡ none

-- taking a value out leaves none
taken_out : (h : Heap) → Valueless h → (q p : ℕ) → update h.value q none p ≡ none
taken_out h n q p = go (ℕ_discrete p q)
  where
    go : (d : Dec (p ≡ q)) → ite d none (h.value p) ≡ none
    go (yes e) = refl
    go (no e) = n p

-- an operation of kinds 1 to 7 writes no value
no_value : (n kind a b : ℕ) (o : Op) → operation n kind a b ≡ some o → kind ≤ 7 → (x : ℕ) (h : Heap) → Valueless h → Valueless (after o x h)
no_value n kind a b o e most x h none_has =
    let t = in_table n kind a b o e in
    subst (λ (o : Op). Valueless (after o x h)) t.named
    (by_row (λ (k : ℕ) (row : Kind). k ≤ 7 → Valueless (after (row.op a b) x h))
    ((λ l. none_has) & (λ l. none_has) & (λ l. none_has) & (λ l. none_has) & (λ l. none_has)
    & (λ l. taken_out h none_has (cell x)) & (λ l. taken_out h none_has (h.var a))
    & (λ l. absurd (omega arith)) & (λ l. absurd (omega arith)) & (λ l. absurd (omega arith)) & (λ l. absurd (omega arith))
    & (λ l. absurd (omega arith)) & (λ l. absurd (omega arith)) & end)
    kind t.row t.found most)

-- ---- tables

-- the table of noValues has none
valueless : (bytes : List ℕ) → Valueless (heap_of (heap_from bytes no_values))
unfolding heap_from
valueless bytes = by_code (λ p. (heap_of (heap_from bytes no_values)).value p ≡ none) refl refl refl (λ i. ap value_of (zeros i))
  where
    zeros : (i : ℕ) → get_or (codes_from no_values) i 0 ≡ 0
    zeros i = go (dec_lt i 64)
      where
        go : Dec (i < 64) → get_or (codes_from no_values) i 0 ≡ 0
        go (yes h) = get_or_from (λ i. get_or no_values i 0) 0 0 64 i h ∙ ap (λ k. get_or no_values k 0) (zero-add i) ∙ get_or_from (λ i. 0) 0 0 64 i h
        go (no h) = get_or-eq_default (codes_from no_values) 0 {n = i} (omega arith)

no_code : (c : ℕ) → value_of c ≡ none → c ≡ 0
no_code zero e = refl
no_code (suc v) e = let z : ◌≡◌ {A = ℕ} 0 1 = cc in absurd (omega arith)

link_kind_lem : (kind : ℕ) → link_kind kind ≤ 7
link_kind_lem kind = go (dec_le kind 7)
  where
    go : Dec (kind ≤ 7) → link_kind kind ≤ 7
    go (yes l) = rw (le-leb kind 7 l) l
    go (no l) = rw (lt-leb kind 7 (omega arith)) (omega arith)

-- a step of kinds 1 to 7 on a heap without values gives one without values
none_after : (bytes : List ℕ) (kind a b value : ℕ) (s : Stepped) → Steps (heap_from bytes no_values) (link_kind kind) a b value s
    → values_after s.outcome s.heap no_values ≡ no_values
none_after bytes kind a b value s steps = go s.outcome refl
  where
    go : (o : Outcome) → s.outcome ≡ o → values_after o s.heap no_values ≡ no_values
    go Moved e =
        let (o, named, enabled, heap_is) = steps.does e in
        let none_has = no_value (heap_from bytes no_values).variables (link_kind kind) a b o named (link_kind_lem kind) (choice (heap_from bytes no_values) value o) (heap_of (heap_from bytes no_values)) (valueless bytes) in
        tabled (λ i. 0) 0 64 s.heap.values (sized_after bytes no_values (link_kind kind) a b value s steps).values
        (λ i h. no_code _ (ap (λ (h : Heap). h.value (cell i)) heap_is ∙ none_has (cell i)))
    go Blocked e = refl
    go (Refused r) e = refl

-- so the call, on bytes alone, leaves none either; k is the kind, or 0 where that is above 7
pub alone : (bytes : List ℕ) (kind k a b value code : ℕ) (bytes' values' : List ℕ) → k ≡ link_kind kind
    → StepsBytes bytes no_values k a b value code bytes' values' → StepsBytes bytes no_values (link_kind kind) a b value code bytes' no_values
alone bytes kind k a b value code bytes' values' k_is m = subst (StepsBytes bytes no_values (link_kind kind) a b value code bytes') (go (readable bytes no_values) refl) n
  where
    n : StepsBytes bytes no_values (link_kind kind) a b value code bytes' values'
    n = subst (λ (k : ℕ). StepsBytes bytes no_values k a b value code bytes' values') k_is m

    go : (r : Bool) → readable bytes no_values ≡ r → values' ≡ no_values
    go false e = (n.unreadable e).2
    go true e = let (s, steps, _, _, values_are) = n.stepped e in values_are ∙ none_after bytes kind a b value s steps
