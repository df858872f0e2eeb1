-- The elements of a mapped list.
use mathlib.Core.List.{List, [], ◌∷◌, map}
use mathlib.Core.Option.{some, none}
use mathlib.Core.Path.{◌≡◌, refl}
use Prim.Native.Nat.{ℕ, zero, suc, ◌≤◌, ◌<◌}
use native.Mathlib.Omega.{arith}
use lib.ListN.{length, get_or, get_elem?}

pub element : {A : Type 0} (f : ℕ → A) (xs : List ℕ) (i : ℕ) → i < length xs → get_elem? (map f xs) i ≡ some (f (get_or xs i 0))
element f [] i b = absurd (omega arith)
element f (x ∷ xs) zero b = refl
element f (x ∷ xs) (suc i) b = element f xs i (omega arith)

pub no_element : {A : Type 0} (f : ℕ → A) (xs : List ℕ) (i : ℕ) → length xs ≤ i → get_elem? (map f xs) i ≡ none
no_element f [] i b = refl
no_element f (x ∷ xs) zero b = absurd (omega arith)
no_element f (x ∷ xs) (suc i) b = no_element f xs i (omega arith)
