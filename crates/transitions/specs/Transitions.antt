-- Transitions by their bytes, and an index of them by the state that they lead to.
use Rattle.std.specs.Prelude.{Bool, ◌&&◌, cond, List, ℕ, zero, suc, ◌+◌, ◌-◌, ◌*◌, eqb, leb, ltb, length, get_or, set}
use Rattle.transitions.specs.declared.Transition.{Transition}

-- the transition whose first byte is at a place
abbrev pub transition_from : List ℕ → ℕ → Transition
transition_from job at =
    record { from = get_or job at 0; kind = get_or job (at + 1) 0; a = get_or job (at + 2) 0; b = get_or job (at + 3) 0; to = get_or job (at + 4) 0 }

abbrev pub zeros : Transition
zeros = record { from = 0; kind = 0; a = 0; b = 0; to = 0 }

-- the same; five zeros where its bytes are not all there
unfoldable pub transition_bytes : List ℕ → ℕ → Transition
transition_bytes job at = cond (leb (at + 5) (length job)) (transition_from job at) zeros

-- the last five bytes; five zeros where there are fewer
unfoldable pub transition_ending : List ℕ → Transition
transition_ending bytes = cond (leb 5 (length bytes)) (transition_from bytes (length bytes - 5)) zeros

-- the transition that an index names by k, one more than its number, of those from a place on; five zeros for 0
unfoldable pub transition_named : List ℕ → ℕ → ℕ → Transition
transition_named job first k = cond (eqb k 0) zeros (transition_bytes job (first + 5 * (k - 1)))

-- the state that the i-th transition leads to, of those from a place on
abbrev pub to_byte : List ℕ → ℕ → ℕ → ℕ
to_byte job first i = get_or job (first + 5 * i + 4) 0

-- ---- An index by states, in an array: slot s is one more than the number of the first transition into state s, slot 64 + i one more than the
-- number of the next transition after the i-th into the same state; 0 for none.

-- the i-th transition, which leads to a state, put in front of those in the index; a state above 63 has no slot
unfoldable pub index_one : ℕ → ℕ → List ℕ → List ℕ
index_one state i index = cond (ltb state 64) (set (set index (64 + i) (get_or index state 0)) state (suc i)) (set index (64 + i) 0)

-- the transitions before the i-th, last to first; `to` gives the state of each
unfoldable pub index_with : (ℕ → ℕ) → ℕ → List ℕ → List ℕ
index_with to zero index = index
index_with to (suc i) index = index_with to i (index_one (to i) i index)

-- there are at most 256, and all their bytes are there
unfoldable pub are_there : List ℕ → ℕ → ℕ → Bool
are_there job first count = leb count 256 && leb (first + 5 * count) (length job)

-- so many transitions from a place on
abbrev pub indexed : List ℕ → ℕ → ℕ → List ℕ → List ℕ
indexed job first count index = cond (are_there job first count) (index_with (to_byte job first) count index) index
