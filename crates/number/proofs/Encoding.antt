-- The bytes of lists of numbers that are put together, and of numbers of one byte.
use mathlib.Core.List.{List, [], ◌∷◌, ◌++◌, append_assoc}
use mathlib.Core.Path.{◌≡◌, refl, sym, ap, ◌∙◌}
use Prim.Native.Nat.{ℕ, ◌<◌}
use native.Mathlib.Omega.{arith}
use Rattle.number.specs.Number.{bytes_of}
use Rattle.number.specs.NumberList.{encode}
use Rattle.number.specs.Range.{AtMost}
use Rattle.number.proofs.Writing.{one}

pub encode_append : (a b : List ℕ) → encode (a ++ b) ≡ encode a ++ encode b
unfolding encode
encode_append [] b = refl
encode_append (n ∷ a) b = ap (λ (l : List ℕ). bytes_of n ++ l) (encode_append a b) ∙ sym (append_assoc (bytes_of n) (encode a) (encode b))

-- a number of one byte, ahead of others
pub encode_byte : (n : ℕ) (ns : List ℕ) → n < 128 → encode (n ∷ ns) ≡ n ∷ encode ns
unfolding encode
encode_byte n ns h = rw (one n h) refl

-- numbers of one byte each are their bytes
pub encode_bytes : (ns : List ℕ) → AtMost 127 ns → encode ns ≡ ns
unfolding encode
encode_bytes [] h = refl
encode_bytes (n ∷ ns) (h, hs) = encode_byte n ns (omega arith) ∙ ap (λ (l : List ℕ). n ∷ l) (encode_bytes ns hs)
