-- The bytes of a number and of a list, and the writer's loops over what is left of the list.
use mathlib.Core.Bool.{Bool, true, false, cond}
use mathlib.Core.List.{List, [], ◌∷◌, ◌++◌, append-nil, append_assoc}
use mathlib.Core.Path.{◌≡◌, refl, sym, ap, ap₂, ◌∙◌}
use Prim.Native.Nat.{ℕ, zero, suc, ◌+◌, ◌/◌, ◌%◌, ◌≤◌, ◌<◌}
use native.Mathlib.Decide.{dec_lt}
use native.Mathlib.Nat.{not-suc-le-zero}
use native.Mathlib.Numerals.{add-one}
use native.Mathlib.Omega.{arith}
use borrow.Author.Tests.{lt-ltb, le-ltb}
use lib.Dec.{ltb}
use lib.ListN.{length, get_or, take, drop, length-append, length-take, length-drop, take-append-drop, drop_of_length-le}
use lib.Seq.{drop-cons, sets, sets-eq, take_at, drop_at, drop-drop}
use Rattle.number.specs.Number.{largest, bytes_of}
use Rattle.number.specs.NumberList.{encode, first_above, answer}
use Rattle.number.specs.declared.WriteRefusal.TheVariants.{TooLarge, TooShort}
use Rattle.std.specs.Prelude.{Ok, Err}

-- ---- the bytes of one number

module _ (n : ℕ) where
  pub one : n < 128 → bytes_of n ≡ n ∷ []
  unfolding bytes_of
  one h = simp (lt-ltb n 128 h)

  pub two : 128 ≤ n → n < 16384 → bytes_of n ≡ (n % 128 + 128) ∷ (n / 128) ∷ []
  unfolding bytes_of
  two l h = simp (le-ltb n 128 l, lt-ltb n 16384 h)

  pub three : 16384 ≤ n → bytes_of n ≡ (n % 128 + 128) ∷ (n / 128 % 128 + 128) ∷ (n / 16384) ∷ []
  unfolding bytes_of
  three l = simp (le-ltb n 128 (omega arith), le-ltb n 16384 l)

  pub some_bytes : 1 ≤ length (bytes_of n)
  some_bytes = by_size (dec_lt n 128) (dec_lt n 16384)
    where
      by_size : Dec (n < 128) → Dec (n < 16384) → 1 ≤ length (bytes_of n)
      by_size (yes h) d = omega (arith, ap length (one h))
      by_size (no h) (yes k) = omega (arith, ap length (two (omega arith) k))
      by_size (no h) (no k) = omega (arith, ap length (three (omega arith)))

-- a run of stores that leaves the bytes vs at a place
pub stored : (l : List ℕ) (at n : ℕ) (vs : List ℕ) → bytes_of n ≡ vs → at + length (bytes_of n) ≤ length l
    → sets l at vs ≡ take at l ++ bytes_of n ++ drop (at + length (bytes_of n)) l
stored l at n vs e h = rw e (sets-eq vs l at (rw e at h))

-- ---- what is left of the list

module _ (ns : List ℕ) (i : ℕ) (inside : i < length ns) where
  left : drop i ns ≡ get_or ns i 0 ∷ drop (i + 1) ns
  left = rw add-one (drop-cons ns i 0 inside)

  pub encode_left : encode (drop i ns) ≡ bytes_of (get_or ns i 0) ++ encode (drop (i + 1) ns)
  unfolding encode
  encode_left = ap encode left

  pub length_left : length (encode (drop i ns)) ≡ length (bytes_of (get_or ns i 0)) + length (encode (drop (i + 1) ns))
  length_left = ap length encode_left ∙ length-append (bytes_of (get_or ns i 0)) (encode (drop (i + 1) ns))

  pub above_here : largest < get_or ns i 0 → first_above (drop i ns) ≡ 0
  unfolding first_above
  above_here h = ap first_above left ∙ simp (lt-ltb largest (get_or ns i 0) h)

  pub above_later : get_or ns i 0 ≤ largest → first_above (drop i ns) ≡ suc (first_above (drop (i + 1) ns))
  unfolding first_above
  above_later h = ap first_above left ∙ simp (le-ltb largest (get_or ns i 0) h)

module _ (ns : List ℕ) (i : ℕ) (past : length ns ≤ i) where
  pub encode_end : encode (drop i ns) ≡ []
  unfolding encode
  encode_end = ap encode (drop_of_length-le ns past)

  pub above_end : first_above (drop i ns) ≡ 0
  unfolding first_above
  above_end = ap first_above (drop_of_length-le ns past)

pub small : (ns : List ℕ) (i : ℕ) → first_above ns ≡ length ns → i < length ns → get_or ns i 0 ≤ largest
unfolding first_above
small [] i e h = absurd (not-suc-le-zero h)
small (n ∷ ns) i e h = by_size i h (dec_lt largest n) (small ns)
  where
    by_size : (i : ℕ) → i < suc (length ns) → Dec (largest < n)
        → ((j : ℕ) → first_above ns ≡ length ns → j < length ns → get_or ns j 0 ≤ largest) → get_or (n ∷ ns) i 0 ≤ largest
    by_size i h (yes k) rest = absurd (omega (arith, simp (lt-ltb largest n k) at e))
    by_size zero h (no k) rest = omega arith
    by_size (suc i) h (no k) rest = rest i (omega (arith, simp (le-ltb largest n (omega arith)) at e)) (omega arith)

-- ---- the output while it is filled

-- i numbers are written, up to the place `at`
pub record Filling (ns out₀ out : List ℕ) (at i : ℕ) : Type 0 where
  pub inside : i ≤ length ns
  pub same : length out ≡ length out₀
  pub ends : at + length (encode (drop i ns)) ≡ length (encode ns)
  pub front : take at out ++ encode (drop i ns) ≡ encode ns
  pub rest : drop at out ≡ drop at out₀

pub fill_none : (ns out : List ℕ) → Filling ns out out 0 0
fill_none ns out = record { inside = omega arith; same = refl; ends = omega arith; front = refl; rest = refl }

module _ (ns out₀ out : List ℕ) (at i : ℕ) (f : Filling ns out₀ out at i) where
  pub fill_more : (out' : List ℕ) → i < length ns → length (encode ns) ≤ length out₀
      → out' ≡ take at out ++ bytes_of (get_or ns i 0) ++ drop (at + length (bytes_of (get_or ns i 0))) out
      → Filling ns out₀ out' (at + length (bytes_of (get_or ns i 0))) (i + 1)
  fill_more out' h room e =
      let bs = bytes_of (get_or ns i 0) in
      let k = length bs in
      let left-length = length_left ns i h in
      let written : length (take at out ++ bs) ≡ at + k = simp (length-append, length-take) (omega (arith, f.same, f.ends)) in
      record {
        inside = omega arith;
        same = rw e (length-append (take at out ++ bs) (drop (at + k) out) ∙ omega (arith, written, length-drop (at + k) out, f.same, f.ends));
        ends = omega (arith, f.ends);
        front =
            rw (e, take_at (take at out ++ bs) (drop (at + k) out) (at + k) written, append_assoc, ← encode_left ns i h) f.front;
        rest =
            rw (e, drop_at (take at out ++ bs) (drop (at + k) out) (at + k) written, ← drop-drop k at out, ← drop-drop k at out₀, f.rest);
      }

  pub fill_all : length ns ≤ i → out ≡ encode ns ++ drop (length (encode ns)) out₀
  fill_all h =
      let none = encode_end ns i h in
      let e : at ≡ length (encode ns) = omega (arith, f.ends, ap length none) in
      let all : take at out ≡ encode ns = sym (append-nil (take at out)) ∙ ap (λ (r : List ℕ). take at out ++ r) (sym none) ∙ f.front in
      rw (← e) (sym (take-append-drop at out) ∙ ap₂ ◌++◌ all f.rest)

-- ---- the answer

pub above_most : (ns : List ℕ) → first_above ns ≤ length ns
unfolding first_above
above_most [] = omega arith
above_most (n ∷ ns) = by_size (ltb largest n) (above_most ns)
  where
    by_size : (b : Bool) → first_above ns ≤ length ns → cond b 0 (suc (first_above ns)) ≤ suc (length ns)
    by_size true h = omega arith
    by_size false h = omega arith

module _ (ns : List ℕ) (room : ℕ) where
  pub answer_large : first_above ns < length ns → Err (TooLarge (first_above ns)) ≡ answer ns room
  unfolding answer
  answer_large h = simp (lt-ltb (first_above ns) (length ns) h)

  module _ (small : length ns ≤ first_above ns) where
    pub answer_short : room < length (encode ns) → Err (TooShort (length (encode ns))) ≡ answer ns room
    unfolding answer
    answer_short h = simp (le-ltb (first_above ns) (length ns) small, lt-ltb room (length (encode ns)) h)

    pub answer_filled : length (encode ns) ≤ room → Ok (length (encode ns)) ≡ answer ns room
    unfolding answer
    answer_filled h = simp (le-ltb (first_above ns) (length ns) small, le-ltb room (length (encode ns)) h)
