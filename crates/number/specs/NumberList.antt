-- Lists of numbers as bytes.
use Rattle.std.specs.Prelude.{cond, List, [], ◌∷◌, ◌++◌, ℕ, zero, suc, ltb, length, drop, Result, Ok, Err}
use Rattle.number.specs.Number.{largest, bytes_of, Read, number_at}
use Rattle.number.specs.CallResult.{CallResult}
use Rattle.number.specs.declared.WriteRefusal.{WriteRefusal}
use Rattle.number.specs.declared.WriteRefusal.TheVariants.{TooLarge, TooShort}

-- the bytes of a list of numbers: those of each, in order
unfoldable pub encode : List ℕ → List ℕ
encode [] = []
encode (n ∷ ns) = bytes_of n ++ encode ns

-- the list that was read, or the place of the number that could not be
pub data DecodedList : Type 0 where
  numbers : List ℕ → DecodedList
  refused : ℕ → DecodedList

-- the number ahead of the list, where there is one
abbrev pub with_number : ℕ → DecodedList → DecodedList
with_number n (numbers ns) = numbers (n ∷ ns)
with_number n (refused at) = refused at

-- after one read: the number before what the rest reads as, or the refusal
abbrev pub followed : (ℕ → DecodedList) → Read → DecodedList
followed rest (Ok r) = with_number r.value (rest r.next)
followed rest (Err e) = refused e.at

-- "Reading a list is reading number after number to the end." A number has at least one byte, so as many turns as there are bytes are
-- enough.
unfoldable pub decode_from : ℕ → List ℕ → ℕ → DecodedList
decode_from zero s at = cond (ltb at (length s)) (refused at) (numbers [])
decode_from (suc turns) s at = cond (ltb at (length s)) (followed (decode_from turns s) (number_at s at)) (numbers [])

abbrev pub decode : List ℕ → DecodedList
decode s = decode_from (length s) s 0

-- the index of the first number above 65,535; the list's length if there is none
unfoldable pub first_above : List ℕ → ℕ
first_above [] = 0
first_above (n ∷ ns) = cond (ltb largest n) 0 (suc (first_above ns))

-- how many bytes the writer filled, or why it filled none
abbrev pub Written : Type 0
Written = Result ℕ WriteRefusal

-- What the writer answers where the output has room for so many bytes. "The writer tries 11 over the whole list, then 12; otherwise it
-- fills the first bytes, touches none beyond and gives how many it filled."
unfoldable pub answer : List ℕ → ℕ → Written
answer ns room =
    cond (ltb (first_above ns) (length ns)) (Err (TooLarge (first_above ns)))
    (cond (ltb room (length (encode ns))) (Err (TooShort (length (encode ns)))) (Ok (length (encode ns))))

-- the output after that answer: a refused write leaves it as it was
unfoldable pub output : Written → List ℕ → List ℕ → List ℕ
output (Ok k) ns out = encode ns ++ drop k out
output (Err refusal) ns out = out

-- 0 with the bytes filled; 11 with the index; 12 with the length needed
abbrev pub write_result : Written → CallResult
write_result (Ok k) = record { code = 0; values = k ∷ [] }
write_result (Err (TooLarge i)) = record { code = 11; values = i ∷ [] }
write_result (Err (TooShort k)) = record { code = 12; values = k ∷ [] }
