-- The block list on a heap as a host lends it: 137 bytes, and 64 numbers for the values of its cells.
use Rattle.std.specs.Prelude.{true, false, cond, Result, Ok, Err, List, [], ◌∷◌, ◌≡◌, ℕ}
use Rattle.number.specs.CallResult.{lent}
use Rattle.stepper.specs.declared.Heap64.{Heap64}
use Rattle.heapbytes.specs.HeapBytes.{readable, heap_from, heap_bytes}
use Rattle.blocklist.specs.Answers.{refusal_number, Counted, Edited, Counts, Inserts, Removes}
use Rattle.blocklist.specs.declared.ListRefusal.{ListRefusal}
use Rattle.blocklist.specs.declared.ListRefusal.TheVariants.{IllFormed}

-- what a host is told of an edit, or of a count
abbrev pub edit_number : {A : Type 0} → Result A ListRefusal → ℕ
edit_number (Ok a) = 0
edit_number (Err r) = refusal_number r

-- the bytes and the numbers afterwards. The header (include/vorruda_list.h): "0 is success, any other a refusal, and then heap and values stay as they
-- are."
abbrev pub bytes_after : {A : Type 0} → Result A ListRefusal → Heap64 → List ℕ → List ℕ
bytes_after (Ok a) t bytes = heap_bytes t
bytes_after (Err r) t bytes = bytes

abbrev pub values_after : {A : Type 0} → Result A ListRefusal → Heap64 → List ℕ → List ℕ
values_after (Ok a) t values = t.values
values_after (Err r) t values = values

-- What an edit on bytes and numbers promises: 13 where they are no heap's, else what the list promises of the heap that they are.
pub record EditsBytes (Edits : Heap64 → Edited → Type 0) (bytes values : List ℕ) (number : ℕ) (bytes' values' : List ℕ) : Type 0 where
  pub unreadable : readable bytes values ≡ false → (number ≡ 13) × (bytes' ≡ bytes) × (values' ≡ values)
  pub edits :
      readable bytes values ≡ true
      → (r : Edited) × Edits (heap_from bytes values) r × (number ≡ edit_number r.0)
      × (bytes' ≡ bytes_after r.0 r.1 bytes) × (values' ≡ values_after r.0 r.1 values)

abbrev pub InsertsBytes : List ℕ → List ℕ → ℕ → ℕ → List ℕ → List ℕ → Type 0
InsertsBytes bytes values n = EditsBytes (λ t r. Inserts t n r) bytes values

abbrev pub RemovesBytes : List ℕ → List ℕ → ℕ → ℕ → List ℕ → List ℕ → Type 0
RemovesBytes bytes values n = EditsBytes (λ t r. Removes t n r) bytes values

-- how many cells are told
abbrev pub cells_told : Result ℕ ListRefusal → ℕ
cells_told (Ok n) = n
cells_told (Err r) = 0

-- The same for a count, and how many cells it tells.
pub record CountsBytes (bytes values : List ℕ) (number cells : ℕ) (bytes' values' : List ℕ) : Type 0 where
  pub unreadable : readable bytes values ≡ false → (number ≡ 13) × (cells ≡ 0) × (bytes' ≡ bytes) × (values' ≡ values)
  pub counts :
      readable bytes values ≡ true
      → (r : Counted) × Counts (heap_from bytes values) r × (number ≡ edit_number r.0) × (cells ≡ cells_told r.0)
      × (bytes' ≡ bytes_after r.0 r.1 bytes) × (values' ≡ values_after r.0 r.1 values)

-- they are told in the array `out` that the host lends
abbrev pub CountTells : List ℕ → List ℕ → List ℕ → ℕ → List ℕ → List ℕ → List ℕ → Type 0
CountTells bytes values out number bytes' values' out' =
    (cells : ℕ) × CountsBytes bytes values number cells bytes' values' × (out' ≡ lent (cells ∷ []) out)

-- ---- what the parts of the code promise

-- the heap that bytes and numbers are, or 13
unfoldable pub heap_lent : List ℕ → List ℕ → Result Heap64 ListRefusal
heap_lent bytes values = cond (readable bytes values) (Ok (heap_from bytes values)) (Err IllFormed)

-- what a call of the list answers on bytes and numbers, by what it answers on heaps
pub record AnswersBytes {A : Type 0} (Answers : Heap64 → Result A ListRefusal × Heap64 → Type 0) (bytes values : List ℕ) (answer : Result A ListRefusal)
    (bytes' values' : List ℕ) : Type 0 where
  pub unreadable : readable bytes values ≡ false → (answer ≡ Err IllFormed) × (bytes' ≡ bytes) × (values' ≡ values)
  pub answers :
      readable bytes values ≡ true
      → (after : Heap64) × Answers (heap_from bytes values) (answer, after) × (bytes' ≡ bytes_after answer after bytes)
      × (values' ≡ values_after answer after values)
