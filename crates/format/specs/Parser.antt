-- Reading a buffer from a place on.
use Rattle.std.specs.Prelude.{Bool, ◌&&◌, cond, List, [], ◌∷◌, ℕ, zero, suc, leb, ltb, length, Ok, Err}
use Rattle.std.proofs.Math.Option.{Option, none, some}
use Rattle.number.specs.Number.{number_at, Read, no_numeral, numeral}

-- Why something is refused: by document 01's number of the refusal; or, which is 9, by the rule of a cover that broke and the cell or variable that
-- is named (document 02, wish 2).
pub data Reason : Type 0 where
  refusal : ℕ → Reason
  broken_rule : ℕ → ℕ → Reason

-- the number of the refusal
abbrev pub reason_number : Reason → ℕ
reason_number (refusal number) = number
reason_number (broken_rule rule name) = 9

-- a value with the next place, or a refusal with its place
pub data Parsed (A : Type 0) : Type 0 where
  parsed : A → ℕ → Parsed A
  fault : Reason → ℕ → Parsed A

-- what is read from a place on
abbrev pub Parser : Type 0 → Type 0
Parser A = ℕ → Parsed A

-- goes on with the value and the next place; the first refusal stays
abbrev pub onward : {A B : Type 0} → Parsed A → (A → Parser B) → Parsed B
onward (parsed x next) rest = rest x next
onward (fault why place) rest = fault why place

infixl 1 ◌>>=◌ ◌>>◌
abbrev pub ◌>>=◌ : {A B : Type 0} → Parser A → (A → Parser B) → Parser B
(p >>= rest) at = onward (p at) rest

abbrev pub ◌>>◌ : {A B : Type 0} → Parser A → Parser B → Parser B
(p >> rest) at = onward (p at) (λ x. rest)

abbrev pub return : {A : Type 0} → A → Parser A
return x at = parsed x at

-- the place that was reached
abbrev pub here : Parser ℕ
here at = parsed at at

-- refused for this reason at a place unless the test holds
abbrev pub require : Bool → Reason → ℕ → Parser (Unit {0})
require test why place at = cond test (parsed tt at) (fault why place)

-- one after the other, so many times
unfoldable pub many : {A : Type 0} → ℕ → Parser A → Parser (List A)
many zero p = return []
many (suc left) p = do
  x ← p
  xs ← many left p
  return (x ∷ xs)

-- one for each element, in turn
unfoldable pub each : {A B : Type 0} → (A → Parser B) → List A → Parser (List B)
each p [] = return []
each p (x ∷ xs) = do
  y ← p x
  ys ← each p xs
  return (y ∷ ys)

-- The bytes of a job or of a certificate, with the refusals for a number that can't be read, for one that breaks its range and for bytes
-- that are left.
pub record Buffer : Type 0 where
  pub bytes : List ℕ
  pub unreadable : Reason
  pub outside : Reason
  pub left : Reason

-- "3. A number of the job can't be read [..] 4. A number of the job reads but breaks its range or the table of kinds [..] 5. Bytes are left
-- after the job"
abbrev pub job_buffer : List ℕ → Buffer
job_buffer s = record { bytes = s; unreadable = refusal 3; outside = refusal 4; left = refusal 5 }

-- "6. A number of the certificate can't be read, as in 3. 7. A number of the certificate breaks its range [..] 10. Bytes are left after the
-- last cover"
abbrev pub certificate_buffer : List ℕ → Buffer
certificate_buffer s = record { bytes = s; unreadable = refusal 6; outside = refusal 7; left = refusal 10 }

-- n is at least `low` and below `limit`
abbrev pub within : ℕ → ℕ → ℕ → Bool
within low limit n = leb low n && ltb n limit

-- n itself if the test holds
abbrev pub such : (ℕ → Bool) → ℕ → Option ℕ
such test n = cond (test n) (some n) none

module _ (s : Buffer) where
  -- the number that stands from `at` up to `next`, as what it means; refused if that is nothing
  abbrev pub judged : {A : Type 0} → ℕ → ℕ → Option A → Parsed A
  judged at next none = fault s.outside at
  judged at next (some x) = parsed x next

  -- the same, once it is read
  abbrev pub meant : {A : Type 0} → (ℕ → Option A) → ℕ → Read → Parsed A
  meant meaning at (Ok r) = judged at r.next (meaning r.value)
  meant meaning at (Err e) = fault s.unreadable at

  -- a number, as what it means: nothing if it breaks its range. "(place: its first byte)"
  unfoldable pub read_as : {A : Type 0} → (ℕ → Option A) → Parser A
  read_as meaning at = meant meaning at (number_at s.bytes at)

  -- a number from `low` on and below `limit`
  abbrev pub ranged : ℕ → ℕ → Parser ℕ
  ranged low limit = read_as (such (within low limit))

  -- "Bytes are left [..] (the first of them)."
  unfoldable pub end : Parser (Unit {0})
  end at = require (leb (length s.bytes) at) s.left at at
