-- What stands at a place, case by case.
use mathlib.Core.Bool.{Bool, true, false, cond}
use mathlib.Core.List.{List}
use mathlib.Core.Path.{◌≡◌, refl, sym, ap}
use Prim.Native.Nat.{ℕ, suc, ◌+◌, ◌-◌, ◌*◌, ◌≤◌, ◌<◌}
use native.Mathlib.Omega.{arith}
use borrow.Author.Tests.{ltb-true, ltb-false, leb-false, eqb-false, le-leb, lt-leb, lt-ltb, le-ltb, eq-eqb, ne_eqb}
use lib.Dec.{eqb, leb, ltb}
use lib.ListN.{length, get_or}
use Rattle.std.specs.Prelude.{Ok, Err}
use Rattle.number.specs.Number.{number_in, number_at, Read, no_numeral, numeral}

-- ---- what two reads that are the same have in common

abbrev value_in : Read → ℕ
value_in (Ok r) = r.value
value_in (Err e) = 0

abbrev next_in : Read → ℕ
next_in (Ok r) = r.next
next_in (Err e) = 0

-- the place asked for, one up, where nothing is read
abbrev refused_in : Read → ℕ
refused_in (Ok r) = 0
refused_in (Err e) = suc e.at

module _ {m end n next : ℕ} (e : numeral m end ≡ numeral n next) where
  pub same_value : m ≡ n
  same_value = ap value_in e

  pub same_next : end ≡ next
  same_next = ap next_in e

pub same_place : {at p : ℕ} → no_numeral at ≡ no_numeral p → at ≡ p
same_place e = omega (arith, ap refused_in e)

pub read_or_not : {at n next : ℕ} → no_numeral at ≡ numeral n next → ⊥
read_or_not e = omega (arith, ap refused_in e)

-- ---- the cases

by_test : (P : Read → Type 0) (b : Bool) {x y : Read} → (b ≡ true → P x) → (b ≡ false → P y) → P (cond b x y)
by_test P true f g = f refl
by_test P false f g = g refl

-- What holds of a number of one byte, of two and of three, and of what can't be read, holds of what is read.
pub by_bytes : (at left a b c : ℕ) (P : Read → Type 0) → P (no_numeral at) → (0 < left → a < 128 → P (numeral a (at + 1)))
    → (1 < left → 128 ≤ a → (b ≡ 0 → ⊥) → b < 128 → P (numeral (a - 128 + b * 128) (at + 2)))
    → (2 < left → 128 ≤ a → (b ≡ 0 → ⊥) → 128 ≤ b → (c ≡ 0 → ⊥) → c < 4 → P (numeral (a - 128 + (b - 128) * 128 + c * 16384) (at + 3)))
    → P (number_in at left a b c)
unfolding number_in
by_bytes at left a b c P unread one two three =
    by_test P (leb left 0) (λ _. unread)
    (λ l₀. by_test P (ltb a 128) (λ h. one (leb-false left 0 l₀) (ltb-true a 128 h))
    (λ a₀. by_test P (leb left 1) (λ _. unread)
    (λ l₁. by_test P (eqb b 0) (λ _. unread)
    (λ b₀. by_test P (ltb b 128) (λ h. two (leb-false left 1 l₁) (ltb-false a 128 a₀) (eqb-false b 0 b₀) (ltb-true b 128 h))
    (λ b₁. by_test P (leb left 2) (λ _. unread)
    (λ l₂. by_test P (eqb c 0) (λ _. unread)
    (λ c₀. by_test P (ltb c 4)
    (λ h. three (leb-false left 2 l₂) (ltb-false a 128 a₀) (eqb-false b 0 b₀) (ltb-false b 128 b₁) (eqb-false c 0 c₀) (ltb-true c 4 h)) (λ _. unread))))))))

-- what is known of a number that was read, where a is the first of the bytes that are left
pub record KnownNumber (at left a n next : ℕ) : Type 0 where
  pub some : 0 < left
  pub on : at < next
  pub inside : next ≤ at + left
  pub value : n < 128 → n ≡ a
  pub after : n < 128 → next ≡ at + 1

pub known_number : (at left a b c n next : ℕ) → number_in at left a b c ≡ numeral n next → KnownNumber at left a n next
known_number at left a b c n next =
    by_bytes at left a b c (λ r. r ≡ numeral n next → KnownNumber at left a n next) (λ e. absurd (read_or_not e))
    (λ l h e.
    let m : a ≡ n = same_value e in
    let z : at + 1 ≡ next = same_next e in
    record { some = l; on = omega arith; inside = omega arith; value = λ _. omega arith; after = λ _. omega arith })
    (λ l h b₀ b₁ e.
    let m : a - 128 + b * 128 ≡ n = same_value e in
    let z : at + 2 ≡ next = same_next e in
    record { some = omega arith; on = omega arith; inside = omega arith; value = λ k. absurd (omega arith); after = λ k. absurd (omega arith) })
    (λ l h b₀ b₁ c₀ c₁ e.
    let m : a - 128 + (b - 128) * 128 + c * 16384 ≡ n = same_value e in
    let z : at + 3 ≡ next = same_next e in
    record { some = omega arith; on = omega arith; inside = omega arith; value = λ k. absurd (omega arith); after = λ k. absurd (omega arith) })

-- what can't be read is refused at the place asked for
pub unreadable_at : (at left a b c p : ℕ) → number_in at left a b c ≡ no_numeral p → at ≡ p
unreadable_at at left a b c p =
    by_bytes at left a b c (λ r. r ≡ no_numeral p → at ≡ p) same_place (λ l h. read) (λ l h b₀ b₁. read) (λ l h b₀ b₁ c₀ c₁. read)
  where
    read : {n next : ℕ} → numeral n next ≡ no_numeral p → at ≡ p
    read e = absurd (read_or_not (sym e))

-- ---- what is read in each case

module _ (s : List ℕ) (at : ℕ) where
  pub past_end : length s ≤ at → no_numeral at ≡ number_at s at
  unfolding number_in
  past_end h = simp (le-leb (length s - at) 0 (omega arith))

  pub one_byte : (a : ℕ) → a ≡ get_or s at 0 → at < length s → a < 128 → numeral a (at + 1) ≡ number_at s at
  unfolding number_in
  one_byte a ea h ha = rw (← ea) (simp (lt-leb (length s - at) 0 (omega arith), lt-ltb a 128 ha))

  module _ (a : ℕ) (ea : a ≡ get_or s at 0) (ha : 128 ≤ a) where
    pub cut_at_one : at < length s → length s - at ≤ 1 → no_numeral at ≡ number_at s at
    unfolding number_in
    cut_at_one h h1 =
        rw (← ea) (simp (lt-leb (length s - at) 0 (omega arith), le-ltb a 128 ha, le-leb (length s - at) 1 h1))

    module _ (b : ℕ) (eb : b ≡ get_or s (at + 1) 0) (h1 : 1 < length s - at) where
      pub zero_second : b ≡ 0 → no_numeral at ≡ number_at s at
      unfolding number_in
      zero_second z =
          rw (← ea, ← eb)
          (simp (lt-leb (length s - at) 0 (omega arith), le-ltb a 128 ha, lt-leb (length s - at) 1 h1, eq-eqb b 0 z))

      module _ (nb : b ≡ 0 → ⊥) where
        pub two_bytes : b < 128 → numeral (a - 128 + b * 128) (at + 2) ≡ number_at s at
        unfolding number_in
        two_bytes hb =
            rw (← ea, ← eb)
            (simp (lt-leb (length s - at) 0 (omega arith), le-ltb a 128 ha, lt-leb (length s - at) 1 h1, ne_eqb b 0 nb, lt-ltb b 128 hb))

        module _ (hb : 128 ≤ b) where
          pub cut_at_two : length s - at ≤ 2 → no_numeral at ≡ number_at s at
          unfolding number_in
          cut_at_two h2 =
              rw (← ea, ← eb)
              (simp (lt-leb (length s - at) 0 (omega arith), le-ltb a 128 ha, lt-leb (length s - at) 1 h1, ne_eqb b 0 nb, le-ltb b 128 hb, le-leb (length s - at) 2 h2))

          module _ (c : ℕ) (ec : c ≡ get_or s (at + 2) 0) (h2 : 2 < length s - at) where
            pub zero_third : c ≡ 0 → no_numeral at ≡ number_at s at
            unfolding number_in
            zero_third z =
                rw (← ea, ← eb, ← ec)
                (simp (lt-leb (length s - at) 0 (omega arith), le-ltb a 128 ha, lt-leb (length s - at) 1 h1, ne_eqb b 0 nb, le-ltb b 128 hb, lt-leb (length s - at) 2 h2, eq-eqb c 0 z))

            pub three_bytes : (c ≡ 0 → ⊥) → c < 4 → numeral (a - 128 + (b - 128) * 128 + c * 16384) (at + 3) ≡ number_at s at
            unfolding number_in
            three_bytes nc hc =
                rw (← ea, ← eb, ← ec)
                (simp (lt-leb (length s - at) 0 (omega arith), le-ltb a 128 ha, lt-leb (length s - at) 1 h1, ne_eqb b 0 nb, le-ltb b 128 hb, lt-leb (length s - at) 2 h2, ne_eqb c 0 nc, lt-ltb c 4 hc))

            pub too_large : (c ≡ 0 → ⊥) → 4 ≤ c → no_numeral at ≡ number_at s at
            unfolding number_in
            too_large nc hc =
                rw (← ea, ← eb, ← ec)
                (simp (lt-leb (length s - at) 0 (omega arith), le-ltb a 128 ha, lt-leb (length s - at) 1 h1, ne_eqb b 0 nb, le-ltb b 128 hb, lt-leb (length s - at) 2 h2, ne_eqb c 0 nc, le-ltb c 4 hc))

-- what is known of a number that is read at a place
module _ (s : List ℕ) (at n next : ℕ) (g : number_at s at ≡ numeral n next) where
  pub number_known : KnownNumber at (length s - at) (get_or s at 0) n next
  number_known = known_number at (length s - at) (get_or s at 0) (get_or s (at + 1) 0) (get_or s (at + 2) 0) n next g

  pub number_some : at < length s
  number_some = let t = number_known in omega (arith, t.some)

  pub number_inside : next ≤ length s
  number_inside = let t = number_known in omega (arith, t.some, t.inside)
