-- A heap of 64 cells written as bytes and numbers reads back as that heap.
use mathlib.Core.Bool.{Bool, true, false, cond}
use mathlib.Core.List.{List}
use mathlib.Core.Path.{◌≡◌, refl, sym, ap, ◌∙◌}
use Prim.Native.Nat.{ℕ, ◌+◌, ◌<◌}
use native.Mathlib.Nat.{zero-add}
use native.Mathlib.Omega.{arith}
use borrow.Author.Tests.{lt-ltb, eq-eqb}
use lib.Dec.{eqb, ltb}
use lib.ListN.{length, get_or}
use Rattle.lists.proofs.Range.{length_from, get_or_from, tabled}
use Rattle.lists.proofs.Test.{and_both, all_made}
use Rattle.place.specs.Place.{place_of}
use Rattle.place.specs.declared.Place.{Place}
use Rattle.stepper.specs.Table.{Sized}
use Rattle.stepper.specs.declared.Heap64.{Heap64}
use Rattle.heapbytes.specs.HeapBytes.{bytes_readable, readable, places_from, slots_from, marks_from, links_from, codes_from, heap_from, byte_of, heap_bytes}
use Rattle.heapbytes.proofs.Bytes.{count_byte, slot_byte, mark_byte, link_byte}

-- 64 codes are read as they are
pub codes_same : (values : List ℕ) → length values ≡ 64 → codes_from values ≡ values
codes_same values c = sym (tabled (λ i. get_or values i 0) 0 64 values c (λ i h. refl))

module _ (t : Heap64) where
  byte : (i : ℕ) → i < 137 → get_or (heap_bytes t) i 0 ≡ byte_of t i
  unfolding heap_bytes
  byte i h = get_or_from (byte_of t) 0 0 137 i h ∙ ap (byte_of t) (zero-add i)

  abbrev mark : Bool → ℕ
  mark u = cond u 1 0

  mark_at : (i : ℕ) → i < 64 → get_or (heap_bytes t) (9 + i) 0 ≡ mark (get_or t.used i false)
  mark_at i h = byte (9 + i) (omega arith) ∙ sym (mark_byte t i h)

  places_at : (from n : ℕ) (l : List Place) → length l ≡ n → ((i : ℕ) → i < n → get_or (heap_bytes t) (from + i) 0 ≡ (get_or l i (place_of 0)).code)
      → places_from from n (heap_bytes t) ≡ l
  places_at from n l e h =
      sym (tabled (λ i. place_of (get_or (heap_bytes t) (from + i) 0)) (place_of 0) n l e (λ i b. sym (ap place_of (h i b))))

  module _ (s : Sized t) where
    pub bytes_readable_lem : readable (heap_bytes t) t.values ≡ true
    unfolding readable bytes_readable heap_bytes
    bytes_readable_lem =
        and_both _ _ (eq-eqb (length t.values) 64 s.values)
        (and_both _ _ (eq-eqb (length (heap_bytes t)) 137 (length_from (byte_of t) 0 137))
        (all_made (λ i. ltb (get_or (heap_bytes t) (9 + i) 0) 2) 64 0
        (λ i l h. lt-ltb (get_or (heap_bytes t) (9 + i) 0) 2 (rw (mark_at i (omega arith)) (small (get_or t.used i false))))))
      where
        small : (u : Bool) → mark u < 2
        small true = omega arith
        small false = omega arith

    pub heap_from_bytes : heap_from (heap_bytes t) t.values ≡ t
    unfolding heap_from
    heap_from_bytes = λ k. record { variables = variables k; vars = vars k; used = used k; links = links k; values = values k }
      where
        variables : get_or (heap_bytes t) 0 0 ≡ t.variables
        variables = byte 0 (omega arith) ∙ sym (count_byte t 0 (omega arith))

        vars : slots_from (heap_bytes t) ≡ t.vars
        vars = places_at 1 8 t.vars s.vars (λ i h. byte (1 + i) (omega arith) ∙ sym (slot_byte t i h))

        links : links_from (heap_bytes t) ≡ t.links
        links = places_at 73 64 t.links s.links (λ i h. byte (73 + i) (omega arith) ∙ sym (link_byte t i))

        is_used : (u : Bool) → u ≡ eqb (mark u) 1
        is_used true = refl
        is_used false = refl

        used : marks_from (heap_bytes t) ≡ t.used
        used =
            sym (tabled (λ i. eqb (get_or (heap_bytes t) (9 + i) 0) 1) false 64 t.used s.used
            (λ i h. rw (mark_at i h) (is_used (get_or t.used i false))))

        values : codes_from t.values ≡ t.values
        values = codes_same t.values s.values
