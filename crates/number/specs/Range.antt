-- What the round trips speak of.
use Rattle.std.specs.Prelude.{List, [], ◌∷◌, ◌++◌, ◌≡◌, ℕ, ◌+◌, ◌≤◌, length, drop}
use Rattle.number.specs.Number.{largest, bytes_of}

-- every element is at most m
abbrev pub AtMost : ℕ → List ℕ → Type 0
AtMost m [] = Unit {0}
AtMost m (x ∷ xs) = (x ≤ m) × AtMost m xs

-- n stands at a place of s, and `next` is the place after its bytes
pub record Stands (s : List ℕ) (at n next : ℕ) : Type 0 where
  pub small : n ≤ largest
  pub bytes : drop at s ≡ bytes_of n ++ drop next s
  pub after : next ≡ at + length (bytes_of n)
