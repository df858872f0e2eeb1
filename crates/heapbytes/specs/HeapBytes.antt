-- A heap as 137 bytes and 64 numbers: byte 0 is V, bytes 1 to 8 are the variable slots, 9 to 72 the used marks, 73 to 136 the links; the
-- numbers are the codes of the cells' values.
use Rattle.std.specs.Prelude.{Bool, true, false, ◌&&◌, cond, List, map, ◌≡◌, ℕ, ◌+◌, ◌-◌, eqb, leb, ltb, length, get_or}
use Rattle.lists.specs.Range.{range}
use Rattle.lists.specs.Test.{all_from}
use Rattle.place.specs.Place.{place_of}
use Rattle.place.specs.declared.Place.{Place}
use Rattle.stepper.specs.Step.{outcome_code, Steps}
use Rattle.stepper.specs.declared.Heap64.{Heap64}
use Rattle.stepper.specs.declared.Outcome.{Outcome}
use Rattle.stepper.specs.declared.Outcome.TheVariants.{Moved, Blocked, Refused}
use Rattle.stepper.specs.declared.Stepped.{Stepped}

-- 137 bytes, each used mark 0 or 1
unfoldable pub bytes_readable : List ℕ → Bool
bytes_readable bytes = eqb (length bytes) 137 && all_from 64 0 (λ i. ltb (get_or bytes (9 + i) 0) 2)

-- and 64 numbers
unfoldable pub readable : List ℕ → List ℕ → Bool
readable bytes values = eqb (length values) 64 && bytes_readable bytes

-- what they say, array by array; the places of n variables or links are given from a byte on
abbrev pub places_from : ℕ → ℕ → List ℕ → List Place
places_from first n bytes = map (λ i. place_of (get_or bytes (first + i) 0)) (range 0 n)

abbrev pub slots_from : List ℕ → List Place
slots_from = places_from 1 8

abbrev pub marks_from : List ℕ → List Bool
marks_from bytes = map (λ i. eqb (get_or bytes (9 + i) 0) 1) (range 0 64)

abbrev pub links_from : List ℕ → List Place
links_from = places_from 73 64

abbrev pub codes_from : List ℕ → List ℕ
codes_from values = map (λ i. get_or values i 0) (range 0 64)

-- the heap that readable bytes and numbers are
unfoldable pub heap_from : List ℕ → List ℕ → Heap64
heap_from bytes values =
    record {
      variables = get_or bytes 0 0;
      vars = slots_from bytes;
      used = marks_from bytes;
      links = links_from bytes;
      values = codes_from values;
    }

-- byte i of a heap
unfoldable pub byte_of : Heap64 → ℕ → ℕ
byte_of t i =
    cond (ltb i 1) t.variables
    (cond (ltb i 9) (get_or t.vars (i - 1) (place_of 0)).code
    (cond (ltb i 73) (cond (get_or t.used (i - 9) false) 1 0) (get_or t.links (i - 73) (place_of 0)).code))

unfoldable pub heap_bytes : Heap64 → List ℕ
heap_bytes t = map (byte_of t) (range 0 137)

-- the bytes and the numbers after a step. The header (include/vorruda.h): "Where it isn't 0, heap and values stay as they
-- are."
abbrev pub bytes_after : Outcome → Heap64 → List ℕ → List ℕ
bytes_after Moved t bytes = heap_bytes t
bytes_after Blocked t bytes = bytes
bytes_after (Refused r) t bytes = bytes

abbrev pub values_after : Outcome → Heap64 → List ℕ → List ℕ
values_after Moved t values = t.values
values_after Blocked t values = values
values_after (Refused r) t values = values

-- what the call on bytes and numbers promises: 13 where they are no heap's, else what the stepper promises of the heap that they are
pub record StepsBytes (bytes values : List ℕ) (kind a b value code : ℕ) (bytes' values' : List ℕ) : Type 0 where
  pub unreadable : readable bytes values ≡ false → (code ≡ 13) × (bytes' ≡ bytes) × (values' ≡ values)
  pub stepped :
      readable bytes values ≡ true
      → (s : Stepped) × Steps (heap_from bytes values) kind a b value s × (code ≡ outcome_code s.outcome)
      × (bytes' ≡ bytes_after s.outcome s.heap bytes) × (values' ≡ values_after s.outcome s.heap values)

-- ---- the call on bytes alone: kinds 1 to 7, on a heap without values

abbrev pub no_values : List ℕ
no_values = map (λ i. 0) (range 0 64)

-- a kind above 7 counts as 0, which is no kind
abbrev pub link_kind : ℕ → ℕ
link_kind kind = cond (leb kind 7) kind 0
