-- Bytes and numbers that are a heap's; the bytes of a heap, by their places.
use mathlib.Core.Bool.{false, cond}
use mathlib.Core.List.{List}
use mathlib.Core.Path.{◌≡◌}
use Prim.Native.Nat.{ℕ, ◌+◌, ◌-◌, ◌<◌}
use native.Mathlib.Omega.{arith}
use borrow.Author.Tests.{lt-ltb, le-ltb, eq-eqb, ne_eqb}
use lib.ListN.{length, get_or}
use Rattle.place.specs.Place.{place_of}
use Rattle.stepper.specs.declared.Heap64.{Heap64}
use Rattle.heapbytes.specs.HeapBytes.{bytes_readable, readable, byte_of}

module _ (bytes values : List ℕ) where
  pub other_count : (length values ≡ 64 → ⊥) → readable bytes values ≡ false
  unfolding readable
  other_count n = simp (ne_eqb (length values) 64 n)

  pub with_values : length values ≡ 64 → bytes_readable bytes ≡ readable bytes values
  unfolding readable
  with_values c = simp (eq-eqb (length values) 64 c)

module _ (t : Heap64) (i : ℕ) where
  pub count_byte : i < 1 → t.variables ≡ byte_of t i
  unfolding byte_of
  count_byte h = simp (lt-ltb i 1 h)

  pub slot_byte : i < 8 → (get_or t.vars i (place_of 0)).code ≡ byte_of t (1 + i)
  unfolding byte_of
  slot_byte h = let e : (1 + i) - 1 ≡ i = omega arith in simp (le-ltb (1 + i) 1 (omega arith), lt-ltb (1 + i) 9 (omega arith), e)

  pub mark_byte : i < 64 → cond (get_or t.used i false) 1 0 ≡ byte_of t (9 + i)
  unfolding byte_of
  mark_byte h =
      let e : (9 + i) - 9 ≡ i = omega arith in
      simp (le-ltb (9 + i) 1 (omega arith), le-ltb (9 + i) 9 (omega arith), lt-ltb (9 + i) 73 (omega arith), e)

  pub link_byte : (get_or t.links i (place_of 0)).code ≡ byte_of t (73 + i)
  unfolding byte_of
  link_byte =
      let e : (73 + i) - 73 ≡ i = omega arith in
      simp (le-ltb (73 + i) 1 (omega arith), le-ltb (73 + i) 9 (omega arith), le-ltb (73 + i) 73 (omega arith), e)
