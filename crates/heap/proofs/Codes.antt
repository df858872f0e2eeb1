-- Places kept in lists, by their codes: where an operand and a link stand in the list.
use mathlib.Core.List.{List}
use mathlib.Core.Path.{◌≡◌, refl, sym, ◌∙◌}
use Prim.Native.Nat.{ℕ, zero, suc, ◌+◌, ◌-◌, ◌≤◌, ◌<◌}
use native.Mathlib.Omega.{arith}
use lib.ListN.{length, get_or, get_or-eq_default}
use Rattle.heap.specs.Codes.{var_in, link_in}
use Rattle.heap.specs.Place.{nowhere, cell}

-- a code, by cases: nowhere, #, *, a cell
pub by_code : (P : ℕ → Type 0) → P 0 → P 1 → P 2 → ((i : ℕ) → P (cell i)) → (p : ℕ) → P p
by_code P p0 p1 p2 pc zero = p0
by_code P p0 p1 p2 pc (suc zero) = p1
by_code P p0 p1 p2 pc (suc (suc zero)) = p2
by_code P p0 p1 p2 pc (suc (suc (suc i))) = pc i

-- p is a cell of a shape with n cells
abbrev pub CellOf : ℕ → ℕ → Type 0
CellOf n p = (cell 0 ≤ p) × (p < cell n)

-- what holds of each cell by its number holds of each cell
pub by_number : (n : ℕ) (P : ℕ → Type 0) → ((i : ℕ) → i < n → P (cell i)) → (p : ℕ) → CellOf n p → P p
by_number n P h zero (a, b) = absurd (omega arith)
by_number n P h (suc zero) (a, b) = absurd (omega arith)
by_number n P h (suc (suc zero)) (a, b) = absurd (omega arith)
by_number n P h (suc (suc (suc i))) (a, b) = h i (omega arith)

-- the operand after null is the variable with that number
pub operand_slot : (l : List ℕ) (a : ℕ) → 1 ≤ a → get_or l (a - 1) nowhere ≡ var_in l a
operand_slot l zero h = absurd (omega arith)
operand_slot l (suc v) h = let e : suc v - 1 ≡ v = omega arith in rw e refl

pub link_slot : (l : List ℕ) (p : ℕ) → 3 ≤ p → get_or l (p - 3) nowhere ≡ link_in l p
link_slot l =
    by_code (λ p. 3 ≤ p → get_or l (p - 3) nowhere ≡ link_in l p) (λ h. absurd (omega arith)) (λ h. absurd (omega arith)) (λ h. absurd (omega arith))
    (λ i h. let e : cell i - 3 ≡ i = omega arith in rw e refl)

-- what is no cell's code, and a cell past the list, has no link
pub link_low : (l : List ℕ) (p : ℕ) → p < 3 → nowhere ≡ link_in l p
link_low l = by_code (λ p. p < 3 → nowhere ≡ link_in l p) (λ h. refl) (λ h. refl) (λ h. refl) (λ i h. absurd (omega arith))

pub link_past : (l : List ℕ) (p : ℕ) → length l + 3 ≤ p → nowhere ≡ link_in l p
link_past l p h = sym (get_or-eq_default l nowhere (omega arith)) ∙ link_slot l p (omega arith)
