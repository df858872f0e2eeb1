-- The round trips in terms of the writer's answer and its output.
use mathlib.Core.List.{List, [], ◌∷◌}
use mathlib.Core.Path.{◌≡◌, refl, sym, ap}
use Prim.Native.Nat.{ℕ, ◌≤◌, ◌<◌}
use native.Mathlib.Decide.{dec_lt}
use native.Mathlib.Omega.{arith}
use borrow.Author.Tests.{lt-ltb, le-ltb}
use lib.ListN.{length, take, drop}
use lib.Seq.{take_at, drop_at}
use Rattle.number.specs.Number.{largest}
use Rattle.number.specs.NumberList.{encode, numbers, decode, first_above, answer, output}
use Rattle.number.specs.Range.{AtMost}
use Rattle.std.specs.Prelude.{Ok}
use Rattle.number.proofs.Writing.{answer_large, answer_short, answer_filled}
use Rattle.number.proofs.RoundTrip.{decode_encode, encode_decode}

-- no number is above 65,535 exactly if all are at most that
none_above : (ns : List ℕ) → AtMost largest ns → length ns ≤ first_above ns
unfolding first_above
none_above [] h = omega arith
none_above (n ∷ ns) h = let rest = none_above ns h.1 in simp (le-ltb largest n h.0) (omega arith)

all_at_most : (ns : List ℕ) → length ns ≤ first_above ns → AtMost largest ns
unfolding first_above
all_at_most [] h = tt
all_at_most (n ∷ ns) h = by_size (dec_lt largest n) (all_at_most ns)
  where
    by_size : Dec (largest < n) → (length ns ≤ first_above ns → AtMost largest ns) → AtMost largest (n ∷ ns)
    by_size (yes k) rest = absurd (omega (arith, simp (lt-ltb largest n k) at h))
    by_size (no k) rest = (omega arith, rest (omega (arith, simp (le-ltb largest n (omega arith)) at h)))

-- where the writer fills k bytes, the numbers are in range and these are their bytes
filled : (ns : List ℕ) (room k : ℕ) → answer ns room ≡ Ok k → AtMost largest ns × (length (encode ns) ≡ k)
filled ns room k e = by_answer (dec_lt (first_above ns) (length ns)) (dec_lt room (length (encode ns)))
  where
    by_answer : Dec (first_above ns < length ns) → Dec (room < length (encode ns)) → AtMost largest ns × (length (encode ns) ≡ k)
    by_answer (yes h) d = let z : ◌≡◌ {A = ℕ} 0 1 = cc (answer_large ns room h) in absurd (omega arith)
    by_answer (no h) (yes d) = let z : ◌≡◌ {A = ℕ} 0 1 = cc (answer_short ns room (omega arith) d) in absurd (omega arith)
    by_answer (no h) (no d) = (all_at_most ns (omega arith), cc (answer_filled ns room (omega arith) (omega arith)))

module _ (ns out : List ℕ) where
  -- where the writer says that it filled k bytes, these read as the list, and the bytes beyond are as they were
  pub written_reads : (k : ℕ) → answer ns (length out) ≡ Ok k
      → (decode (take k (output (answer ns (length out)) ns out)) ≡ numbers ns) × (drop k (output (answer ns (length out)) ns out) ≡ drop k out)
  unfolding output
  written_reads k e =
      let (small, size) = filled ns (length out) k e in
      rw (e, take_at (encode ns) (drop k out) k size, drop_at (encode ns) (drop k out) k size) (decode_encode ns small, refl)

  -- bytes that read as the list are what the writer writes for it, wherever there is room
  pub read_writes : (bytes : List ℕ) → AtMost 255 bytes → decode bytes ≡ numbers ns → length bytes ≤ length out
      → (answer ns (length out) ≡ Ok (length bytes)) × (take (length bytes) (output (answer ns (length out)) ns out) ≡ bytes)
  unfolding output
  read_writes bytes limit e room =
      let (small, same) = encode_decode bytes ns limit e in
      let fits : length (encode ns) ≤ length out = rw same room in
      let a : answer ns (length out) ≡ Ok (length bytes) = rw (← same) (sym (answer_filled ns (length out) (none_above ns small) fits)) in
      (a, rw (a, take_at (encode ns) (drop (length bytes) out) (length bytes) (ap length same)) same)
