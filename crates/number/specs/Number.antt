-- Numbers as bytes. Document 01: "A number is 0 to 65,535, low seven bits first, a byte of 128 or more meaning another follows, in the
-- fewest bytes (at most three)."
use Rattle.std.specs.Prelude.{cond, List, [], ◌∷◌, ℕ, ◌+◌, ◌-◌, ◌*◌, ◌/◌, ◌%◌, eqb, leb, ltb, length, get_or, Result, Ok, Err}
use Rattle.number.specs.CallResult.{CallResult}
use Rattle.number.specs.declared.Numeral.{Numeral}
use Rattle.number.specs.declared.Unreadable.{Unreadable}

abbrev pub largest : ℕ
largest = 65535

-- the bytes of a number
unfoldable pub bytes_of : ℕ → List ℕ
bytes_of n =
    cond (ltb n 128) (n ∷ [])
    (cond (ltb n 16384) ((n % 128 + 128) ∷ (n / 128) ∷ []) ((n % 128 + 128) ∷ (n / 128 % 128 + 128) ∷ (n / 16384) ∷ []))

-- what is read at a place: a number with the place after it, or nothing, with the place asked for
abbrev pub Read : Type 0
Read = Result Numeral Unreadable

abbrev pub numeral : ℕ → ℕ → Read
numeral n next = Ok (record { value = n; next = next })

abbrev pub no_numeral : ℕ → Read
no_numeral at = Err (record { at = at })

-- the number that starts at a place, where `left` bytes are left of which a, b and c are the first
unfoldable pub number_in : ℕ → ℕ → ℕ → ℕ → ℕ → Read
number_in at left a b c =
    cond (leb left 0) (no_numeral at)
    (cond (ltb a 128) (numeral a (at + 1))
    (cond (leb left 1) (no_numeral at)
    (cond (eqb b 0) (no_numeral at)
    (cond (ltb b 128) (numeral (a - 128 + b * 128) (at + 2))
    (cond (leb left 2) (no_numeral at)
    (cond (eqb c 0) (no_numeral at)
    (cond (ltb c 4) (numeral (a - 128 + (b - 128) * 128 + c * 16384) (at + 3)) (no_numeral at))))))))

-- "One number may also be read alone, from any place; it gives number and next place, or 3 at the place it was asked for."
abbrev pub number_at : List ℕ → ℕ → Read
number_at s at = number_in at (length s - at) (get_or s at 0) (get_or s (at + 1) 0) (get_or s (at + 2) 0)

-- 0 with the number and the next place, or refusal 3 with its place
abbrev pub read_result : Read → CallResult
read_result (Ok r) = record { code = 0; values = r.value ∷ r.next ∷ [] }
read_result (Err e) = record { code = 3; values = e.at ∷ 0 ∷ [] }
