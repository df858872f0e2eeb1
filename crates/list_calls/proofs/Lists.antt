-- The promises of the calls, from those of the list.
use mathlib.Core.Bool.{Bool, true, false, true≢false}
use mathlib.Core.List.{List}
use mathlib.Core.Path.{◌≡◌, refl, sym, ap, ◌∙◌, subst}
use Prim.Native.Nat.{ℕ}
use lib.ListN.{length}
use native.Mathlib.Decide.{ℕ_discrete}
use Rattle.std.specs.Prelude.{Result, Ok, Err}
use Rattle.std.specs.Option.{ok_or}
use Rattle.stepper.specs.declared.Heap64.{Heap64}
use Rattle.heapbytes.specs.HeapBytes.{bytes_readable, readable, codes_from, heap_from}
use Rattle.heapbytes.proofs.Bytes.{other_count, with_values}
use Rattle.heapbytes.proofs.RoundTrip.{codes_same}
use Rattle.heapcodec.specs.Codec.{read_heap, heap_written, values_written}
use Rattle.heapcodec.proofs.Codec.{no_heap_read, heap_read, readable_length, heap_written_lem, values_written_lem}
use Rattle.blocklist.specs.Answers.{Edited}
use Rattle.blocklist.specs.declared.ListRefusal.{ListRefusal}
use Rattle.blocklist.specs.declared.ListRefusal.TheVariants.{IllFormed}
use Rattle.list_calls.specs.ListBytes.{edit_number, EditsBytes, heap_lent, AnswersBytes}

module _ (bytes values : List ℕ) where
  -- the heap that is lent: none where there are other than 64 numbers, else what the bytes are read as
  pub none_lent : (length values ≡ 64 → ⊥) → Err IllFormed ≡ heap_lent bytes values
  unfolding heap_lent
  none_lent n = rw (other_count bytes values n) refl

  pub read_lent : length values ≡ 64 → ok_or (read_heap bytes (codes_from values)) IllFormed ≡ heap_lent bytes values
  unfolding heap_lent
  read_lent c = rw (codes_same values c) (go (bytes_readable bytes) refl)
    where
      go : (r : Bool) → bytes_readable bytes ≡ r → ok_or (read_heap bytes values) IllFormed ≡ heap_lent bytes values
      go false e = rw (no_heap_read bytes values e, sym (with_values bytes values c) ∙ e) refl
      go true e = rw (heap_read bytes values e, sym (with_values bytes values c) ∙ e) refl

  -- readable ones have their lengths
  values_length : readable bytes values ≡ true → length values ≡ 64
  values_length e = go (ℕ_discrete (length values) 64)
    where
      go : Dec (length values ≡ 64) → length values ≡ 64
      go (yes c) = c
      go (no n) = absurd (true≢false (sym e ∙ other_count bytes values n))

  bytes_length : readable bytes values ≡ true → length bytes ≡ 137
  bytes_length e = readable_length bytes (with_values bytes values (values_length e) ∙ e)

  module _ {A : Type 0} (Answers : Heap64 → Result A ListRefusal × Heap64 → Type 0) where
    -- where no heap is lent
    pub not_lent : (r : ListRefusal) → Err r ≡ heap_lent bytes values → AnswersBytes Answers bytes values (Err r) bytes values
    unfolding heap_lent
    not_lent r e = go (readable bytes values) refl
      where
        go : (o : Bool) → readable bytes values ≡ o → AnswersBytes Answers bytes values (Err r) bytes values
        go true z = let n : ◌≡◌ {A = Result Heap64 ListRefusal} (Err r) (Ok (heap_from bytes values)) = rw z at e in cc
        go false z =
            let same : ◌≡◌ {A = Result Heap64 ListRefusal} (Err r) (Err IllFormed) = rw z at e in
            let r_is : r ≡ IllFormed = cc in
            record { unreadable = λ q. (ap Err r_is, refl, refl); answers = λ q. absurd (true≢false (sym q ∙ z)) }

    -- where one is, and what is written there
    module _ (t : Heap64) (lent : Ok t ≡ heap_lent bytes values) (after : Heap64) where
      lent_is : (readable bytes values ≡ true) × (t ≡ heap_from bytes values)
      unfolding heap_lent
      lent_is = go (readable bytes values) refl
        where
          go : (o : Bool) → readable bytes values ≡ o → (readable bytes values ≡ true) × (t ≡ heap_from bytes values)
          go false z = let n : ◌≡◌ {A = Result Heap64 ListRefusal} (Ok t) (Err IllFormed) = rw z at lent in cc
          go true z = let same : ◌≡◌ {A = Result Heap64 ListRefusal} (Ok t) (Ok (heap_from bytes values)) = rw z at lent in (z, cc)

      pub lent_refused : (r : ListRefusal) → Answers t (Err r, after) → AnswersBytes Answers bytes values (Err r) bytes values
      lent_refused r promised =
          record {
            unreadable = λ q. absurd (true≢false (sym lent_is.0 ∙ q));
            answers = λ q. (after, subst (λ (u : Heap64). Answers u (Err r, after)) lent_is.1 promised, refl, refl);
          }

      pub lent_done : (a : A) → Answers t (Ok a, after) → AnswersBytes Answers bytes values (Ok a) (heap_written after bytes) (values_written after.values values)
      lent_done a promised =
          record {
            unreadable = λ q. absurd (true≢false (sym lent_is.0 ∙ q));
            answers = λ q. (
              after,
              subst (λ (u : Heap64). Answers u (Ok a, after)) lent_is.1 promised,
              heap_written_lem after bytes (bytes_length q),
              values_written_lem after.values values (values_length q),
            );
          }

  -- what a host is told of an edit whose answers on heaps are these
  pub edits_by : (Answers Edits : Heap64 → Edited → Type 0) → ((t : Heap64) (r : Edited) → Answers t r → Edits t r)
      → (answer : Result (Unit {0}) ListRefusal) (bytes' values' : List ℕ) → AnswersBytes Answers bytes values answer bytes' values'
      → EditsBytes Edits bytes values (edit_number answer) bytes' values'
  edits_by Answers Edits weaker answer bytes' values' p =
      record {
        unreadable = λ z. let (is, bytes_same, values_same) = p.unreadable z in (ap edit_number is, bytes_same, values_same);
        edits = λ z. let (after, promised, heap_written, codes_written) = p.answers z in ((answer, after), weaker _ (answer, after) promised, refl, heap_written, codes_written);
      }
