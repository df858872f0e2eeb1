-- Decimal digits.
use mathlib.Core.Bool.{cond}
use mathlib.Core.List.{List, [], ◌∷◌, ◌++◌, append_assoc, append-nil}
use mathlib.Core.Path.{◌≡◌, refl, sym, ap, ◌∙◌}
use Prim.Native.Nat.{ℕ, zero, suc, ◌+◌, ◌-◌, ◌*◌, ◌/◌, ◌%◌, ◌^◌, ◌<◌, ◌≤◌}
use native.Mathlib.Decide.{dec_lt}
use native.Mathlib.Nat.{pow-suc}
use native.Mathlib.Numerals.{add-one}
use native.Mathlib.Omega.{arith}
use borrow.Author.Tests.{lt-ltb, le-ltb}
use lib.Dec.{ltb}
use lib.ListN.{length, get_or, set, take, drop, length-append, length-drop, length-set, get_or-append}
use lib.Seq.{drop-length, set_split, drop_at, length-take-le, take-length}
use Rattle.putting.specs.Digits.{digits_from, digits, value_from, value, Digits}

-- more turns change nothing
enough : (j k n : ℕ) → n ≤ j → n ≤ k → digits_from j n ≡ digits_from k n
unfolding digits_from
enough zero zero n h i = refl
enough zero (suc k) n h i = rw (lt-ltb n 10 (omega arith))
enough (suc j) zero n h i = rw (lt-ltb n 10 (omega arith))
enough (suc j) (suc k) n h i =
    ap (λ (front : List ℕ). cond (ltb n 10) ((48 + n) ∷ []) (front ++ ((48 + n % 10) ∷ []))) (enough j k (n / 10) (omega arith) (omega arith))

pub digits_one : (n : ℕ) → n < 10 → digits n ≡ (48 + n) ∷ []
unfolding digits_from
digits_one zero h = refl
digits_one (suc m) h = rw (lt-ltb (suc m) 10 h)

pub digits_more : (n : ℕ) → 10 ≤ n → digits n ≡ digits (n / 10) ++ ((48 + n % 10) ∷ [])
unfolding digits_from
digits_more zero h = absurd (omega arith)
digits_more (suc m) h =
    rw (le-ltb (suc m) 10 h)
    (ap (λ (front : List ℕ). front ++ ((48 + suc m % 10) ∷ [])) (enough m (suc m / 10) (suc m / 10) (omega arith) (omega arith)))

pub length_more : (n : ℕ) → 10 ≤ n → length (digits n) ≡ length (digits (n / 10)) + 1
length_more n h = ap length (digits_more n h) ∙ length-append (digits (n / 10)) ((48 + n % 10) ∷ [])

-- a law of all numbers from that of one digit, and that of a digit more
pub by_digits : (P : ℕ → Type 0) → ((n : ℕ) → n < 10 → P n) → ((n : ℕ) → 10 ≤ n → P (n / 10) → P n) → (n : ℕ) → P n
by_digits P one more n = below n n (omega arith)
  where
    below : (turns n : ℕ) → n ≤ turns → P n
    below zero n h = one n (omega arith)
    below (suc turns) n h = by_size (dec_lt n 10) (below turns (n / 10) (omega arith))
      where
        by_size : Dec (n < 10) → P (n / 10) → P n
        by_size (yes l) p = one n l
        by_size (no l) p = more n (omega arith) p

pub some_digits : (n : ℕ) → 1 ≤ length (digits n)
some_digits =
    by_digits (λ n. 1 ≤ length (digits n)) (λ n h. omega (arith, ap length (digits_one n h))) (λ n h p. omega (arith, length_more n h))

pub few_digits : (k n : ℕ) → n < 10 ^ suc k → length (digits n) ≤ suc k
few_digits zero n h = omega (arith, ap length (digits_one n h))
few_digits (suc k) n h = by_size (dec_lt n 10) (few_digits k (n / 10) (omega (arith, pow-suc 10 (suc k))))
  where
    by_size : Dec (n < 10) → length (digits (n / 10)) ≤ suc k → length (digits n) ≤ suc (suc k)
    by_size (yes l) few = omega (arith, ap length (digits_one n l))
    by_size (no l) few = omega (arith, length_more n (omega arith))

-- the largest number of 64 bits has 20 digits
pub twenty_digits : (n : ℕ) → n < 18446744073709551616 → length (digits n) ≤ 20
twenty_digits n h = few_digits 19 n (omega arith)

-- ---- the loop that writes digits from the end of 20 bytes: those after `first` are written, what is left of the number comes before them

pub record Writing (n : ℕ) (written : List ℕ) (first left : ℕ) : Type 0 where
  pub all : length written ≡ 20
  pub upto : first < 20
  pub so_far : digits n ≡ digits left ++ drop (first + 1) written

pub writing_none : (n : ℕ) (written : List ℕ) → length written ≡ 20 → Writing n written 19 n
writing_none n written e =
    record {
      all = e;
      upto = omega arith;
      so_far = sym (ap (λ (l : List ℕ). digits n ++ l) (ap (λ (k : ℕ). drop k written) (sym e) ∙ drop-length written) ∙ append-nil (digits n));
    }

module _ (n : ℕ) (written : List ℕ) (first left : ℕ) (w : Writing n written first left) where
  -- a digit stored stands before those that were there
  stored : (v : ℕ) → drop first (set written first v) ≡ v ∷ drop (first + 1) written
  stored v =
      ap (drop first) (set_split written first v (omega (arith, w.all, w.upto)))
      ∙ drop_at (take first written) (v ∷ drop (suc first) written) first (length-take-le first written (omega (arith, w.all, w.upto)))
      ∙ ap (λ (k : ℕ). v ∷ drop k written) (sym (add-one first))

  -- there is room for what is left
  pub digits_left : n < 18446744073709551616 → length (digits left) ≤ first + 1
  digits_left h =
      omega (
        arith,
        w.all,
        w.upto,
        twenty_digits n h,
        ap length w.so_far ∙ length-append (digits left) (drop (first + 1) written),
        length-drop (first + 1) written,
      )

  -- where more than one digit is left, there is room before
  pub more_room : n < 18446744073709551616 → 10 ≤ left → 1 ≤ first
  more_room h s =
      omega (
        arith,
        w.all,
        twenty_digits n h,
        ap length w.so_far ∙ length-append (digits left) (drop (first + 1) written),
        length-drop (first + 1) written,
        length_more left s,
        some_digits (left / 10),
      )

  pub writing_more : 1 ≤ first → 10 ≤ left → Writing n (set written first (48 + left % 10)) (first - 1) (left / 10)
  writing_more s h =
      record {
        all = length-set written first (48 + left % 10) ∙ w.all;
        upto = omega (arith, w.upto);
        so_far = w.so_far
            ∙ ap (λ (l : List ℕ). l ++ drop (first + 1) written) (digits_more left h)
            ∙ append_assoc (digits (left / 10)) ((48 + left % 10) ∷ []) (drop (first + 1) written)
            ∙ ap (λ (l : List ℕ). digits (left / 10) ++ l) (sym (stored (48 + left % 10)))
            ∙ ap (λ (k : ℕ). digits (left / 10) ++ drop k (set written first (48 + left % 10))) back;
      }
    where
      back : first ≡ first - 1 + 1
      back = omega (arith, s)

  -- the last one: from there on they are the number's digits
  pub writing_last : left < 10 → take (20 - first) (drop first (set written first (48 + left))) ≡ digits n
  writing_last h = ap (λ (k : ℕ). take k rest) (sym all_of) ∙ take-length rest ∙ are_digits
    where
      rest : List ℕ
      rest = drop first (set written first (48 + left))

      all_of : length rest ≡ 20 - first
      all_of = omega (arith, length-drop first (set written first (48 + left)), length-set written first (48 + left), w.all)

      are_digits : rest ≡ digits n
      are_digits = stored (48 + left) ∙ sym (w.so_far ∙ ap (λ (l : List ℕ). l ++ drop (first + 1) written) (digits_one left h))

-- ---- digits read back

value_append : (front : ℕ) (xs ys : List ℕ) → value_from front (xs ++ ys) ≡ value_from (value_from front xs) ys
value_append front [] ys = refl
value_append front (x ∷ xs) ys = value_append (front * 10 + (x - 48)) xs ys

-- the digits of n are read as n
pub value_digits : (n : ℕ) → value (digits n) ≡ n
value_digits =
    by_digits (λ n. value (digits n) ≡ n)
    (λ n h. ap value (digits_one n h) ∙ omega arith)
    (λ n h p. ap value (digits_more n h) ∙ value_append 0 (digits (n / 10)) ((48 + n % 10) ∷ []) ∙ ap (λ (m : ℕ). m * 10 + (48 + n % 10 - 48)) p ∙ omega arith)

-- each is a digit
pub all_digits : (n : ℕ) → Digits (digits n)
all_digits =
    by_digits (λ n. Digits (digits n))
    (λ n h. rw (digits_one n h) ((omega arith, omega arith), tt))
    (λ n h p. rw (digits_more n h) (append (digits (n / 10)) p (omega arith, omega arith)))
  where
    append : (xs : List ℕ) {x : ℕ} → Digits xs → (48 ≤ x) × (x ≤ 57) → Digits (xs ++ (x ∷ []))
    append [] ds d = (d, tt)
    append (y ∷ ys) ds d = (ds.0, append ys ds.1 d)

-- the first is no 0, but for the number 0 itself
pub first_digit : (n : ℕ) → 1 ≤ n → 49 ≤ get_or (digits n) 0 0
first_digit =
    by_digits (λ n. 1 ≤ n → 49 ≤ get_or (digits n) 0 0)
    (λ n h s. rw (digits_one n h) (omega arith))
    (λ n h p s. rw (digits_more n h, get_or-append (digits (n / 10)) ((48 + n % 10) ∷ []) 0 0 (some_digits (n / 10))) (p (omega arith)))
