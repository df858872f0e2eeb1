-- The greatest common divisor, and lowest terms.
use mathlib.Core.Logic.{◌⊎◌, inl, inr}
use mathlib.Core.Path.{◌≡◌, sym, ap, ap₂, ◌∙◌, subst}
use Prim.Native.Nat.{ℕ, zero, suc, ◌-◌, ◌*◌, ◌/◌, ◌%◌, ◌<◌, ◌∣◌}
use native.Mathlib.Nat.{dvd-mod_iff, dvd_antisymm, dvd_of_mul-dvd-mul_right, mul-dvd-mul_right, eq-one_of_dvd-one, pos_of_dvd_of_pos, div-mul_cancel, mod-lt, not-suc-le-zero, eq-zero-or-pos, one-mul, zero-mul, mul_left_comm, ne_of_gt, mod-eq-sub-div-mul, mul-div-mul_right, mul_comm, mul-sub, mul_assoc, dvd-mul_right, dvd-mul_left, eq_of_mul-eq-mul_right, mul_right_comm}
use native.Mathlib.Omega.{arith}
use borrow.Author.Tests.{eq-eqb, ne_eqb}
use Rattle.std.proofs.lemmas.Nat.Gcd.{IsGcd-from_zero, IsGcd-from_mod, same_from_IsGcd}
use Rattle.sheet.specs.Lowest.{gcd_from, gcd, Greatest, Lowest}

greatest_from : (turns a b : ℕ) → b < turns → Greatest a b (gcd_from turns a b)
unfolding gcd_from
greatest_from zero a b h = absurd (not-suc-le-zero h)
greatest_from (suc turns) a b h = by_size (eq-zero-or-pos b) (λ small. greatest_from turns b (a % b) small)
  where
    by_size : (b ≡ 0) ⊎ (0 < b) → (a % b < turns → Greatest b (a % b) (gcd_from turns b (a % b))) → Greatest a b (gcd_from (suc turns) a b)
    by_size (inl e) rest = rw (eq-eqb b 0 e) (IsGcd-from_zero a b e)
    by_size (inr p) rest = rw (ne_eqb b 0 (ne_of_gt p)) (IsGcd-from_mod a b _ (rest (omega (arith, mod-lt a p))))

pub gcd_greatest : (a b : ℕ) → Greatest a b (gcd a b)
gcd_greatest a b = greatest_from (suc b) a b (omega arith)

-- one turn
pub gcd_none : (a b : ℕ) → b ≡ 0 → a ≡ gcd a b
unfolding gcd_from
gcd_none a b e = rw (eq-eqb b 0 e)

pub gcd_turn : (a b : ℕ) → gcd b (a % b) ≡ gcd a b
gcd_turn a b = same_from_IsGcd a b _ _ (IsGcd-from_mod a b _ (gcd_greatest b (a % b))) (gcd_greatest a b)

-- the divisor is at least 1 where one of the two is
pub gcd_some : (n d : ℕ) → 0 < d → 0 < gcd n d
gcd_some n d p = pos_of_dvd_of_pos (gcd_greatest n d).1 p

-- "fractions in lowest terms"
pub in_lowest : (n d : ℕ) → 0 < d → Lowest n d (n / gcd n d) (d / gcd n d)
in_lowest n d p =
    record {
      some_parts = by_size (eq-zero-or-pos (d / gcd n d));
      same = ap (λ (m : ℕ). n / gcd n d * m) (sym under) ∙ mul_left_comm (n / gcd n d) (d / gcd n d) (gcd n d) ∙ ap (λ (m : ℕ). d / gcd n d * m) over;
      lowest = λ k l r. eq-one_of_dvd-one (dvd_of_mul-dvd-mul_right k some (subst (λ (m : ℕ). k * gcd n d ∣ m) (sym (one-mul (gcd n d))) (both k l r)));
    }
  where
    some : 0 < gcd n d
    some = gcd_some n d p

    over : n / gcd n d * gcd n d ≡ n
    over = div-mul_cancel (gcd n d) (gcd_greatest n d).0

    under : d / gcd n d * gcd n d ≡ d
    under = div-mul_cancel (gcd n d) (gcd_greatest n d).1

    by_size : (d / gcd n d ≡ 0) ⊎ (0 < d / gcd n d) → 0 < d / gcd n d
    by_size (inl e) = let none : d ≡ 0 = sym under ∙ ap (λ (m : ℕ). m * gcd n d) e ∙ zero-mul (gcd n d) in absurd (omega arith)
    by_size (inr h) = h

    both : (k : ℕ) → k ∣ n / gcd n d → k ∣ d / gcd n d → k * gcd n d ∣ gcd n d
    both k l r =
        (gcd_greatest n d).2 (k * gcd n d)
        (subst (λ (m : ℕ). k * gcd n d ∣ m) over (mul-dvd-mul_right k l (gcd n d)))
        (subst (λ (m : ℕ). k * gcd n d ∣ m) under (mul-dvd-mul_right k r (gcd n d)))

-- ---- there is only one fraction in lowest terms

mod_scaled : (a b c : ℕ) → 0 < c → a * c % (b * c) ≡ a % b * c
mod_scaled a b c h =
    mod-eq-sub-div-mul (a * c) (b * c)
    ∙ ap (λ (k : ℕ). a * c - k * (b * c)) (mul-div-mul_right a b h)
    ∙ sym (ap (λ (k : ℕ). k * c) (mod-eq-sub-div-mul a b) ∙ mul_comm (a - a / b * b) c ∙ mul-sub c a (a / b * b) ∙ ap₂ ◌-◌ (mul_comm c a) (mul_comm c (a / b * b) ∙ mul_assoc (a / b) b c))

-- what divides both multiples divides the divisor's
most_scaled : (turns a b c k : ℕ) → 0 < c → b < turns → k ∣ a * c → k ∣ b * c → k ∣ gcd_from turns a b * c
unfolding gcd_from
most_scaled zero a b c k p h l r = absurd (not-suc-le-zero h)
most_scaled (suc turns) a b c k p h l r = by_size (eq-zero-or-pos b) (λ small rest. most_scaled turns b (a % b) c k p small r rest)
  where
    by_size : (b ≡ 0) ⊎ (0 < b) → (a % b < turns → k ∣ a % b * c → k ∣ gcd_from turns b (a % b) * c) → k ∣ gcd_from (suc turns) a b * c
    by_size (inl e) rest = rw (eq-eqb b 0 e) l
    by_size (inr q) rest =
        rw (ne_eqb b 0 (ne_of_gt q))
        (rest (omega (arith, mod-lt a q)) (subst (λ (m : ℕ). k ∣ m) (mod_scaled a b c p) ((dvd-mod_iff k r).1 l)))

-- what has no divisor in common with p and divides p * m divides m
pub divides_other : (p q m : ℕ) → 0 < m → ((k : ℕ) → k ∣ p → k ∣ q → k ≡ 1) → q ∣ p * m → q ∣ m
divides_other p q m some apart h =
    let g = gcd_greatest p q in
    let one = apart (gcd p q) g.0 g.1 in
    subst (λ (k : ℕ). q ∣ k) (ap (λ (k : ℕ). k * m) one ∙ one-mul m) (most_scaled (suc q) p q m q some (omega arith) h (dvd-mul_right q m))

pub lowest_one : (n d p q p' q' : ℕ) → 0 < d → Lowest n d p q → Lowest n d p' q' → (p ≡ p') × (q ≡ q')
lowest_one n d p q p' q' some x y = (over, under)
  where
    cross : p * q' ≡ p' * q
    cross =
        eq_of_mul-eq-mul_right d some (p * q') (p' * q)
        (mul_right_comm p q' d ∙ ap (λ (k : ℕ). k * q') x.same ∙ mul_assoc q n q' ∙ ap (λ (k : ℕ). q * k) (mul_comm n q' ∙ sym y.same)
        ∙ sym (mul_assoc q p' d) ∙ ap (λ (k : ℕ). k * d) (mul_comm q p'))

    under : q ≡ q'
    under =
        dvd_antisymm (divides_other p q q' y.some_parts x.lowest (subst (λ (k : ℕ). q ∣ k) (sym cross) (dvd-mul_left q p')))
        (divides_other p' q' q x.some_parts y.lowest (subst (λ (k : ℕ). q' ∣ k) cross (dvd-mul_left q' p)))

    over : p ≡ p'
    over = eq_of_mul-eq-mul_right d some p p' (x.same ∙ ap (λ (k : ℕ). k * n) under ∙ sym y.same)
