-- Transitions by the state that they lead to: `to` gives that state for each, by its number.
use Rattle.std.specs.Prelude.{cond, List, ◌≡◌, ℕ, zero, suc, ◌+◌, ◌-◌, ◌≤◌, ◌<◌, eqb, length, get_or}

-- one more than the number of the first transition into a state, of those from the i-th on, `left` of them; 0 if there is none
unfoldable pub next_into : (ℕ → ℕ) → ℕ → ℕ → ℕ → ℕ
next_into to state zero i = 0
next_into to state (suc left) i = let later = next_into to state left (suc i) in cond (eqb (to i) state) (suc i) later

-- slot 64 + j of an index is the next transition into the same state, for each from the i-th on
abbrev pub Chained : (ℕ → ℕ) → ℕ → ℕ → List ℕ → Type 0
Chained to count i index = (j : ℕ) → i ≤ j → j < count → get_or index (64 + j) 0 ≡ next_into to (to j) (count - suc j) (suc j)

-- the transitions from the i-th on are in the index: slot s is the first of them into state s
pub record IndexedFrom (to : ℕ → ℕ) (count i : ℕ) (index : List ℕ) : Type 0 where
  pub slots : length index ≡ 320
  pub head : (s : ℕ) → s < 64 → get_or index s 0 ≡ next_into to s (count - i) i
  pub next : Chained to count i index
