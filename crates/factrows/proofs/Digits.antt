-- Digits of rows: of `or`, of a power of two, of none, of a row without one.
use mathlib.Core.Path.{◌≡◌, refl, sym, ap, ◌∙◌, subst}
use mathlib.Core.Logic.{◌⊎◌, inl, inr}
use Prim.Native.Nat.{ℕ, zero, suc, ◌+◌, ◌*◌, ◌/◌, ◌%◌, ◌^◌, ◌≤◌, ◌<◌, max}
use native.Mathlib.Nat.{mod-lt, zero-lt-suc, max-le, le-max_left, le-max_right, zero-max, one-mul, div-one, zero-div, div-eq_of_lt}
use native.Mathlib.Omega.{arith}
use lib.Arith.{digits_mod}
use lib.Pow.{shl-shr, shr-shr, pow-lt, shl_exact}
use lib.Bits.{bit_or, bit_xor, differ, or_shr, or_step, xor_shr, xor_step, shifted_half, shifted_even}
use Rattle.factrows.specs.Rows.{digit, off_row}

pub digit_lt : (x j : ℕ) → digit x j < 2
unfolding digit
digit_lt x j = mod-lt (x / 2 ^ j) (zero-lt-suc 1)

max_lt : (x y : ℕ) → x < 2 → y < 2 → max x y < 2
max_lt x y a b = let z : max x y ≤ 1 = max-le (omega arith) (omega arith) in omega arith

digit_or : (a b j : ℕ) → digit (bit_or a b) j ≡ max (digit a j) (digit b j)
unfolding digit
digit_or a b j =
    ap (λ (x : ℕ). x % 2) (or_shr a b j ∙ or_step (a / 2 ^ j) (b / 2 ^ j))
    ∙ digits_mod (bit_or (a / 2 ^ j / 2) (b / 2 ^ j / 2)) (max_lt (a / 2 ^ j % 2) (b / 2 ^ j % 2) (mod-lt (a / 2 ^ j) (zero-lt-suc 1)) (mod-lt (b / 2 ^ j) (zero-lt-suc 1)))

pub or_out : (a b j : ℕ) → digit (bit_or a b) j ≡ 1 → (digit a j ≡ 1) ⊎ (digit b j ≡ 1)
or_out a b j e = go (digit a j) (digit b j) (digit_lt a j) (sym (digit_or a b j) ∙ e)
  where
    go : (x y : ℕ) → x < 2 → max x y ≡ 1 → (x ≡ 1) ⊎ (y ≡ 1)
    go zero y h e = inr (sym (zero-max y) ∙ e)
    go (suc zero) y h e = inl refl
    go (suc (suc x)) y h e = absurd (omega arith)

pub or_left : (a b j : ℕ) → digit a j ≡ 1 → digit (bit_or a b) j ≡ 1
or_left a b j e =
    let l = le-max_left (digit a j) (digit b j) in
    let u = max_lt (digit a j) (digit b j) (digit_lt a j) (digit_lt b j) in
    digit_or a b j ∙ omega arith

pub or_right : (a b j : ℕ) → digit b j ≡ 1 → digit (bit_or a b) j ≡ 1
or_right a b j e =
    let l = le-max_right (digit a j) (digit b j) in
    let u = max_lt (digit a j) (digit b j) (digit_lt a j) (digit_lt b j) in
    digit_or a b j ∙ omega arith

-- ---- one digit

pub bit_same : (i : ℕ) → digit (2 ^ i) i ≡ 1
unfolding digit
bit_same i = ap (λ (x : ℕ). x % 2) (ap (λ (x : ℕ). x / 2 ^ i) (sym (one-mul (2 ^ i))) ∙ shl-shr 1 i)

pub bit_other : (i j : ℕ) → digit (2 ^ i) j ≡ 1 → i ≡ j
unfolding digit
bit_other zero zero e = refl
bit_other zero (suc j) e = absurd (let z : 1 / 2 ^ suc j ≡ 0 = div-eq_of_lt (pow-lt {i = 0} {j = suc j} (zero-lt-suc j)) in let y : 1 / 2 ^ suc j % 2 ≡ 0 = ap (λ (x : ℕ). x % 2) z in omega arith)
bit_other (suc i) zero e =
    absurd (let y : 2 ^ suc i / 2 ^ 0 % 2 ≡ 0 = ap (λ (x : ℕ). x % 2) (div-one (2 ^ suc i) ∙ sym (one-mul (2 ^ suc i))) ∙ shifted_even 1 i in omega arith)
bit_other (suc i) (suc j) e = ap suc (bit_other i j (sym step ∙ e))
  where
    half : 2 ^ suc i / 2 ≡ 2 ^ i
    half = ap (λ (x : ℕ). x / 2) (sym (one-mul (2 ^ suc i))) ∙ shifted_half 1 i ∙ one-mul (2 ^ i)

    add : 1 + j ≡ suc j
    add = omega arith

    step : 2 ^ suc i / 2 ^ suc j % 2 ≡ 2 ^ i / 2 ^ j % 2
    step = ap (λ (x : ℕ). 2 ^ suc i / 2 ^ x % 2) (sym add) ∙ ap (λ (x : ℕ). x % 2) (sym (shr-shr (2 ^ suc i) 1 j) ∙ ap (λ (x : ℕ). x / 2 ^ j) half)

-- `1u16 << j`
pub bit_fits : (j : ℕ) → j < 16 → 1 * 2 ^ j % 65536 ≡ 2 ^ j
bit_fits j h = shl_exact {a = 1} 1 j 16 (omega arith) (omega arith) ∙ one-mul (2 ^ j)

-- ---- none

pub no_digit : (j : ℕ) → digit 0 j ≡ 0
unfolding digit
no_digit j = ap (λ (x : ℕ). x % 2) (zero-div (2 ^ j))

-- ---- one digit less

differ_lt : (x y : ℕ) → x < 2 → y < 2 → differ x y < 2
differ_lt zero y a b = b
differ_lt (suc x) zero a b = a
differ_lt (suc zero) (suc zero) a b = omega arith
differ_lt (suc zero) (suc (suc y)) a b = absurd (omega arith)
differ_lt (suc (suc x)) (suc y) a b = absurd (omega arith)

digit_xor : (a b j : ℕ) → digit (bit_xor a b) j ≡ differ (digit a j) (digit b j)
unfolding digit
digit_xor a b j =
    ap (λ (x : ℕ). x % 2) (xor_shr a b j ∙ xor_step (a / 2 ^ j) (b / 2 ^ j))
    ∙ digits_mod (bit_xor (a / 2 ^ j / 2) (b / 2 ^ j / 2)) (differ_lt (a / 2 ^ j % 2) (b / 2 ^ j % 2) (mod-lt (a / 2 ^ j) (zero-lt-suc 1)) (mod-lt (b / 2 ^ j) (zero-lt-suc 1)))

-- differing from a digit that is not above it
differ_out : (x y : ℕ) → x < 2 → y < 2 → differ x y ≡ 1 → (y ≡ 1 → x ≡ 1) → (x ≡ 1) × (¬ (y ≡ 1))
differ_out zero y a b e f = absurd (let z = f e in omega arith)
differ_out (suc zero) zero a b e f = (refl, λ z. omega arith)
differ_out (suc zero) (suc zero) a b e f = absurd (omega arith)
differ_out (suc zero) (suc (suc y)) a b e f = absurd (omega arith)
differ_out (suc (suc x)) y a b e f = absurd (omega arith)

differ_in : (x y : ℕ) → y < 2 → x ≡ 1 → ¬ (y ≡ 1) → differ x y ≡ 1
differ_in x zero b e n = ap (λ (z : ℕ). differ z 0) e
differ_in x (suc zero) b e n = absurd (n refl)
differ_in x (suc (suc y)) b e n = absurd (omega arith)

pub off_out : (x c q : ℕ) → digit (off_row x c) q ≡ 1 → (digit x q ≡ 1) × (¬ (q ≡ c))
unfolding off_row
off_out x c q e = go (differ_out (digit (bit_or x (2 ^ c)) q) (digit (2 ^ c) q) (digit_lt (bit_or x (2 ^ c)) q) (digit_lt (2 ^ c) q) (sym (digit_xor (bit_or x (2 ^ c)) (2 ^ c) q) ∙ e) (or_right x (2 ^ c) q))
  where
    pick : ¬ (digit (2 ^ c) q ≡ 1) → (digit x q ≡ 1) ⊎ (digit (2 ^ c) q ≡ 1) → digit x q ≡ 1
    pick n (inl z) = z
    pick n (inr z) = absurd (n z)

    go : (digit (bit_or x (2 ^ c)) q ≡ 1) × (¬ (digit (2 ^ c) q ≡ 1)) → (digit x q ≡ 1) × (¬ (q ≡ c))
    go (f, n) = (pick n (or_out x (2 ^ c) q f), λ z. n (subst (λ (y : ℕ). digit (2 ^ c) y ≡ 1) (sym z) (bit_same c)))

pub off_in : (x c q : ℕ) → digit x q ≡ 1 → ¬ (q ≡ c) → digit (off_row x c) q ≡ 1
unfolding off_row
off_in x c q e n =
    digit_xor (bit_or x (2 ^ c)) (2 ^ c) q
    ∙ differ_in (digit (bit_or x (2 ^ c)) q) (digit (2 ^ c) q) (digit_lt (2 ^ c) q) (or_left x (2 ^ c) q e) (λ z. n (sym (bit_other c q z)))
