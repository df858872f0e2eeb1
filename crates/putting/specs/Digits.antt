-- Numbers in decimal digits, as bytes.
use Rattle.std.specs.Prelude.{cond, List, [], ◌∷◌, ◌++◌, ℕ, zero, suc, ◌+◌, ◌-◌, ◌*◌, ◌/◌, ◌%◌, ◌≤◌, ltb}

-- the digits of n, with so many turns; 48 is "0"
unfoldable pub digits_from : ℕ → ℕ → List ℕ
digits_from zero n = (48 + n) ∷ []
digits_from (suc turns) n = let front = digits_from turns (n / 10) in cond (ltb n 10) ((48 + n) ∷ []) (front ++ ((48 + n % 10) ∷ []))

-- the digits of n, the highest first; a tenth of a number above 0 is less, so n turns are enough
abbrev pub digits : ℕ → List ℕ
digits n = digits_from n n

-- the number that digits are read as, after those that made `front`
abbrev pub value_from : ℕ → List ℕ → ℕ
value_from front [] = front
value_from front (b ∷ bs) = value_from (front * 10 + (b - 48)) bs

abbrev pub value : List ℕ → ℕ
value bs = value_from 0 bs

-- each is a digit, "0" to "9"
abbrev pub Digits : List ℕ → Type 0
Digits [] = Unit {0}
Digits (b ∷ bs) = ((48 ≤ b) × (b ≤ 57)) × Digits bs
