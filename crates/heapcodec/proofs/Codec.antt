-- What the code reads and writes of a heap's bytes and values.
use mathlib.Core.Bool.{Bool, true, false, ◌&&◌}
use mathlib.Core.List.{List}
use mathlib.Core.Path.{◌≡◌, refl, sym, subst, ◌∙◌}
use Prim.Native.Nat.{ℕ, ◌+◌, ◌-◌, ◌<◌}
use native.Mathlib.Decide.{dec_lt}
use native.Mathlib.Omega.{arith}
use borrow.Author.Tests.{lt-ltb, eq-eqb, ne_eqb, eqb-true, ltb-true}
use lib.Dec.{eqb, ltb}
use lib.ListN.{length, get_or, set, get_or-append, get_or-eq_default, take, drop, length-take, length-drop, length-append}
use Rattle.std.proofs.lemmas.List.{get_or-take, get_or-drop, get_or-append_right}
use Rattle.std.specs.Prelude.{◌++◌, ◌↔◌, min, nat_eq, Some, None, EachIndex, IsTrue}
use Rattle.lists.specs.Test.{all_from}
use Rattle.lists.proofs.Range.{Filled, length_from, get_or_from, tabled, fill_more}
use Rattle.lists.proofs.Test.{and_left, and_right, and_both, all_made, all_at}
use Rattle.stepper.specs.declared.Heap64.{Heap64}
use Rattle.heapbytes.specs.HeapBytes.{bytes_readable, codes_from, heap_from, byte_of, heap_bytes, no_values}
use Rattle.heapcodec.specs.Codec.{read_heap, heap_written, values_written}

-- ---- the test of the bytes

module _ (bytes : List ℕ) where
  abbrev marks : List ℕ
  marks = take 64 (drop 9 bytes)

  abbrev Fit : Type 0
  Fit = EachIndex marks (λ k. get_or marks k 0 < 2)

  abbrev mark_fits : ℕ → Bool
  mark_fits i = ltb (get_or bytes (9 + i) 0) 2

  pub other_length : (length bytes ≡ 137 → ⊥) → nat_eq (length bytes) 137 ≡ bytes_readable bytes
  unfolding bytes_readable
  other_length n = simp (ne_eqb (length bytes) 137 n)

  pub readable_length : bytes_readable bytes ≡ true → length bytes ≡ 137
  unfolding bytes_readable
  readable_length e = eqb-true (length bytes) 137 (and_left (eqb (length bytes) 137) (all_from 64 0 mark_fits) e)

  -- what a test of the marks told
  pub marks_tested : length bytes ≡ 137 → (r : Bool) → IsTrue r ↔ Fit → r ≡ bytes_readable bytes
  unfolding bytes_readable
  marks_tested e r t = simp (eq-eqb (length bytes) 137 e) (go r t.0 t.1 (all_from 64 0 mark_fits) refl)
    where
      size : length marks ≡ 64
      size = simp (length-take, length-drop) (omega arith)

      at : (k : ℕ) → k < 64 → get_or marks k 0 ≡ get_or bytes (9 + k) 0
      at k h = get_or-take 64 (drop 9 bytes) k 0 h ∙ get_or-drop 9 bytes k 0

      go : (r : Bool) → (r ≡ true → Fit) → (Fit → r ≡ true) → (o : Bool) → all_from 64 0 mark_fits ≡ o → r ≡ o
      go true fit h true z = refl
      go true fit h false z =
          let all : all_from 64 0 mark_fits ≡ true =
          all_made mark_fits 64 0 (λ k l b. lt-ltb (get_or bytes (9 + k) 0) 2 (let m = fit refl k (omega (arith, size)) in rw (at k (omega arith)) at m)) in
          let z' : true ≡ false = sym all ∙ z in cc
      go false fit h true z =
          let t : false ≡ true = h (λ k b. ltb-true (get_or marks k 0) 2 (rw (at k (omega (arith, size))) (all_at mark_fits 64 0 k z (omega arith) (omega (arith, size))))) in
          cc
      go false fit h false z = refl

-- one mark more is tested
abbrev pub MarksFit : List ℕ → ℕ → Type 0
MarksFit marks n = (k : ℕ) → k < n → get_or marks k 0 < 2

pub mark_tested : (marks : List ℕ) (i : ℕ) (b : Bool) → IsTrue b ↔ MarksFit marks i → IsTrue (b && ltb (get_or marks i 0) 2) ↔ MarksFit marks (i + 1)
mark_tested marks i b t = (λ e k h. there e k h (dec_lt k i), λ f. and_both b _ (t.1 (λ k h. f k (omega arith))) (lt-ltb (get_or marks i 0) 2 (f i (omega arith))))
  where
    there : b && ltb (get_or marks i 0) 2 ≡ true → (k : ℕ) → k < i + 1 → Dec (k < i) → get_or marks k 0 < 2
    there e k h (yes l) = t.0 (and_left b _ e) k l
    there e k h (no n) = let last : k ≡ i = omega arith in rw last (ltb-true (get_or marks i 0) 2 (and_right b _ e))

-- ---- the numbers: as many as there are, at most 64, and zeros after them

module _ (values : List ℕ) (n : ℕ) (n_is : n ≡ min (length values) 64) where
  abbrev read : List ℕ
  read = take n values ++ drop n no_values

  pub codes_read : read ≡ codes_from values
  codes_read = tabled (λ j. get_or values j 0) 0 64 read size (λ j b. at j b (dec_lt j n))
    where
      front : length (take n values) ≡ n
      front = simp length-take (omega arith)

      size : length read ≡ 64
      size = simp (length-append, length-take, length-drop) (omega (arith, length_from {A = ℕ} (λ j. 0) 0 64))

      zeros : (j : ℕ) → Dec (j < 64) → get_or no_values j 0 ≡ 0
      zeros j (yes h) = get_or_from (λ j. 0) 0 0 64 j h
      zeros j (no h) = get_or-eq_default no_values 0 {n = j} (omega arith)

      at : (j : ℕ) → j < 64 → Dec (j < n) → get_or read j 0 ≡ get_or values j 0
      at j b (yes l) = get_or-append (take n values) (drop n no_values) 0 j (omega (arith, front)) ∙ get_or-take n values j 0 l
      at j b (no l) =
          get_or-append_right (take n values) (drop n no_values) n j 0 front (omega arith)
          ∙ get_or-drop n no_values (j - n) 0 ∙ zeros (n + (j - n)) (dec_lt (n + (j - n)) 64) ∙ sym (get_or-eq_default values 0 {n = j} (omega arith))

-- ---- one more byte of a heap is written, the i-th from the first of its kind on

pub byte_more : (t : Heap64) (first i x : ℕ) (bytes : List ℕ) → Filled (byte_of t) 0 137 bytes (first + i) → first + i < 137 → x ≡ byte_of t (first + i)
    → Filled (byte_of t) 0 137 (set bytes (first + i) x) (first + (i + 1))
byte_more t first i x bytes f h e =
    let next : (first + i) + 1 ≡ first + (i + 1) = omega arith in
    subst (Filled (byte_of t) 0 137 (set bytes (first + i) x)) next (fill_more (byte_of t) 0 137 bytes (first + i) x f h e)

-- ---- what is read and written, by the test of the bytes or their length

module _ (bytes values : List ℕ) where
  pub no_heap_read : bytes_readable bytes ≡ false → read_heap bytes values ≡ None
  unfolding read_heap
  no_heap_read e = rw e refl

  pub heap_read : bytes_readable bytes ≡ true → read_heap bytes values ≡ Some (heap_from bytes values)
  unfolding read_heap
  heap_read e = rw e refl

  -- and what it tells of the bytes
  pub none_read : None ≡ read_heap bytes values → bytes_readable bytes ≡ false
  none_read e = go (bytes_readable bytes) refl
    where
      go : (r : Bool) → bytes_readable bytes ≡ r → bytes_readable bytes ≡ false
      go false z = z
      go true z = let n : None ≡ Some (heap_from bytes values) = e ∙ heap_read z in cc

  pub some_read : (t : Heap64) → Some t ≡ read_heap bytes values → (bytes_readable bytes ≡ true) × (t ≡ heap_from bytes values)
  some_read t e = go (bytes_readable bytes) refl
    where
      go : (r : Bool) → bytes_readable bytes ≡ r → (bytes_readable bytes ≡ true) × (t ≡ heap_from bytes values)
      go false z = let n : Some t ≡ None = e ∙ no_heap_read z in cc
      go true z = let same : Some t ≡ Some (heap_from bytes values) = e ∙ heap_read z in (z, cc)

module _ (t : Heap64) (bytes : List ℕ) where
  pub heap_left : (length bytes ≡ 137 → ⊥) → heap_written t bytes ≡ bytes
  unfolding heap_written
  heap_left n = rw (ne_eqb (length bytes) 137 n) refl

  pub heap_written_lem : length bytes ≡ 137 → heap_written t bytes ≡ heap_bytes t
  unfolding heap_written
  heap_written_lem e = rw (eq-eqb (length bytes) 137 e) refl

module _ (codes values : List ℕ) where
  pub values_left : (length values ≡ 64 → ⊥) → values_written codes values ≡ values
  unfolding values_written
  values_left n = rw (ne_eqb (length values) 64 n) refl

  pub values_written_lem : length values ≡ 64 → values_written codes values ≡ codes
  unfolding values_written
  values_written_lem e = rw (eq-eqb (length values) 64 e) refl
