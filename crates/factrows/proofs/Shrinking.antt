-- Rows without the place of a digit.
use mathlib.Core.Path.{◌≡◌, sym, ap, ◌∙◌, subst}
use Prim.Native.Nat.{ℕ, suc, ◌+◌, ◌-◌, ◌*◌, ◌/◌, ◌%◌, ◌^◌, ◌≤◌, ◌<◌}
use native.Mathlib.Nat.{mod-lt, mod-eq_of_lt, mul-le-mul_right}
use native.Mathlib.Omega.{arith}
use lib.Bits.{or_shifted}
use lib.Pow.{pow_pos, split, high, low, field, mod-mod-pow, shr-shr}
use Rattle.factrows.specs.Rows.{digit, shrink}

-- ---- the code's numbers

pub high_fits : (x c : ℕ) → x < 65536 → x / 2 ^ c * 2 ^ c % 65536 ≡ x / 2 ^ c * 2 ^ c
high_fits x c h = mod-eq_of_lt (omega (arith, split x c))

pub half_fits : (x c : ℕ) → x < 65536 → x / 2 ^ c / 2 * 2 ^ c % 65536 ≡ x / 2 ^ c / 2 * 2 ^ c
half_fits x c h =
    let a : x / 2 ^ c / 2 ≤ x / 2 ^ c = omega arith in
    mod-eq_of_lt (omega (arith, split x c, mul-le-mul_right (2 ^ c) a))

pub low_part : (x c : ℕ) → x - x / 2 ^ c * 2 ^ c ≡ x % 2 ^ c
low_part x c = omega (arith, split x c)

-- ---- its digits

pub low_digit : (x c q : ℕ) → q < c → digit (x % 2 ^ c) q ≡ digit x q
unfolding digit
low_digit x c q h = subst (λ (n : ℕ). digit (x % 2 ^ n) q ≡ digit x q) (sym e) (at (c - q - 1))
  where
    e : c ≡ (c - q - 1 + 1) + q
    e = omega arith

    at : (j : ℕ) → digit (x % 2 ^ ((j + 1) + q)) q ≡ digit x q
    at j = ap (λ (y : ℕ). y % 2) (field x (j + 1) q) ∙ mod-mod-pow (x / 2 ^ q) j 1

module _ (x c : ℕ) where
  sum : shrink x c ≡ x / 2 ^ c / 2 * 2 ^ c + x % 2 ^ c
  unfolding shrink
  sum = or_shifted (x / 2 ^ c / 2) c (x % 2 ^ c) (mod-lt x (pow_pos c))

  pub shrink_low : (q : ℕ) → q < c → digit (shrink x c) q ≡ digit x q
  shrink_low q h =
      sym (low_digit (shrink x c) c q h)
      ∙ ap (λ (y : ℕ). digit y q) (ap (λ (y : ℕ). y % 2 ^ c) sum ∙ low (x / 2 ^ c / 2) c (mod-lt x (pow_pos c)))
      ∙ low_digit x c q h

  pub shrink_high : (q : ℕ) → c ≤ q → digit (shrink x c) q ≡ digit x (suc q)
  unfolding digit
  shrink_high q h = ap (λ (n : ℕ). digit (shrink x c) n) e ∙ at (q - c) ∙ ap (digit x) f
    where
      e : q ≡ c + (q - c)
      e = omega arith

      f : c + 1 + (q - c) ≡ suc q
      f = omega arith

      at : (r : ℕ) → digit (shrink x c) (c + r) ≡ digit x (c + 1 + r)
      at r =
          ap (λ (y : ℕ). y % 2)
          (sym (shr-shr (shrink x c) c r) ∙ ap (λ (y : ℕ). y / 2 ^ r) (ap (λ (y : ℕ). y / 2 ^ c) sum ∙ high (x / 2 ^ c / 2) c (mod-lt x (pow_pos c)) ∙ shr-shr x c 1) ∙ shr-shr x (c + 1) r)
