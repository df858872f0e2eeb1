-- Rows made by a function, and loops that turn rows into such, one after the other.
use mathlib.Core.List.{List}
use mathlib.Core.Path.{◌≡◌, refl, sym, ap, ◌∙◌}
use Prim.Native.Nat.{ℕ, ◌+◌, ◌-◌, ◌^◌, ◌≤◌, ◌<◌}
use native.Mathlib.Decide.{ℕ_discrete, dec_lt}
use native.Mathlib.Nat.{zero-add}
use native.Mathlib.Omega.{arith}
use borrow.Rule.Slice.PartMut.{put_mid, mid_of, same_len_mid}
use borrow.Author.Tests.{eq-eqb, ne_eqb, lt-ltb, le-ltb}
use lib.Bits.{bit_or}
use lib.ListN.{length, get_or, set, take, drop, length-set, length-drop}
use lib.Seq.{length-take-le, get_or-set_same, get_or-set_other}
use Rattle.std.proofs.lemmas.List.{get_or_append_left, get_or-append_right, get_or-take, get_or-drop}
use Rattle.lists.proofs.Range.{get_or_from, tabled}
use Rattle.factrows.specs.Rows.{rows_by, self_at, self_rows, up_of, below_row, below_at, class_of, over_of, some_of, equal_row, equal_at, class_row, class_at, moved_at, off_row, drop_row}

-- row j is the function's value
pub row_read : (f : ℕ → ℕ) (j : ℕ) → j < 28 → get_or (rows_by f) j 0 ≡ f j
unfolding rows_by
row_read f j h = get_or_from f 0 0 28 j h ∙ ap f (zero-add j)

-- rows that are its values one by one
pub rows_are : (f : ℕ → ℕ) (l : List ℕ) → length l ≡ 28 → ((j : ℕ) → j < 28 → get_or l j 0 ≡ f j) → l ≡ rows_by f
unfolding rows_by
rows_are f l e h = tabled f 0 28 l e h

-- 14 rows from one on are its values, and so are the others as they were
pub half_new : (f : ℕ → ℕ) (l₀ l : List ℕ) (a : ℕ) → length l₀ ≡ 28 → length l ≡ 14 → a ≤ 14 → ((j : ℕ) → j < 14 → get_or l j 0 ≡ f (a + j))
    → ((j : ℕ) → j < a → get_or l₀ j 0 ≡ f j) → ((j : ℕ) → a + 14 ≤ j → j < 28 → get_or l₀ j 0 ≡ f j) → put_mid a 14 l₀ l ≡ rows_by f
half_new f l₀ l a e d h new before after = rows_are f (put_mid a 14 l₀ l) (same_len_mid a 14 l₀ l long ∙ e) (λ j b. at j b (dec_lt j a) (dec_lt j (a + 14)))
  where
    front : length (take a l₀) ≡ a
    front = length-take-le a l₀ (omega arith)

    long : length l ≡ length (mid_of a 14 l₀)
    long = d ∙ sym (length-take-le 14 (drop a l₀) (omega (arith, length-drop a l₀)))

    at : (j : ℕ) → j < 28 → Dec (j < a) → Dec (j < a + 14) → get_or (put_mid a 14 l₀ l) j 0 ≡ f j
    at j b (yes z) _ = get_or_append_left (take a l₀) _ 0 j (omega (arith, front)) ∙ get_or-take a l₀ j 0 z ∙ before j z
    at j b (no z) (yes y) =
        get_or-append_right (take a l₀) _ a j 0 front (omega arith)
        ∙ get_or_append_left l _ 0 (j - a) (omega arith)
        ∙ new (j - a) (omega arith)
        ∙ ap f (omega arith)
    at j b (no z) (no y) =
        get_or-append_right (take a l₀) _ a j 0 front (omega arith)
        ∙ get_or-append_right l _ 14 (j - a) 0 d (omega arith)
        ∙ get_or-drop 14 (drop a l₀) (j - a - 14) 0
        ∙ get_or-drop a l₀ (14 + (j - a - 14)) 0
        ∙ ap (λ (k : ℕ). get_or l₀ k 0) (omega arith)
        ∙ after j (omega arith) b

-- ---- a loop

-- the rows before i are f's, the others as they were
pub record Turned (f : ℕ → ℕ) (l₀ l : List ℕ) (i : ℕ) : Type 0 where
  pub size : length l ≡ 28
  pub new : (j : ℕ) → j < i → get_or l j 0 ≡ f j
  pub old : (j : ℕ) → i ≤ j → get_or l j 0 ≡ get_or l₀ j 0

module _ (f : ℕ → ℕ) (l₀ : List ℕ) where
  pub turn_none : (i : ℕ) → length l₀ ≡ 28 → ((j : ℕ) → j < i → get_or l₀ j 0 ≡ f j) → Turned f l₀ l₀ i
  turn_none i e h = record { size = e; new = h; old = λ j _. refl }

  module _ (l : List ℕ) (i : ℕ) (t : Turned f l₀ l i) where
    pub turn_more : (x : ℕ) → i < 28 → x ≡ f i → Turned f l₀ (set l i x) (i + 1)
    turn_more x h e =
        record {
          size = length-set l i x ∙ t.size;
          new = λ j b. at j b (ℕ_discrete j i);
          old = λ j b. get_or-set_other l i j x 0 (λ z. absurd (omega arith)) ∙ t.old j (omega arith);
        }
      where
        at : (j : ℕ) → j < i + 1 → Dec (j ≡ i) → get_or (set l i x) j 0 ≡ f j
        at j b (yes z) = ap (λ (k : ℕ). get_or (set l i x) k 0) z ∙ get_or-set_same l i x 0 (omega (arith, t.size)) ∙ e ∙ ap f (sym z)
        at j b (no z) = get_or-set_other l i j x 0 z ∙ t.new j (omega arith)

    pub turn_all : ((j : ℕ) → i ≤ j → j < 28 → get_or l₀ j 0 ≡ f j) → l ≡ rows_by f
    turn_all h = rows_are f l t.size (λ j b. at j b (dec_lt j i))
      where
        at : (j : ℕ) → j < 28 → Dec (j < i) → get_or l j 0 ≡ f j
        at j b (yes a) = t.new j a
        at j b (no a) = t.old j (omega arith) ∙ h j (omega arith) b

-- ---- what each function puts into a row, and which rows it leaves

pub self_set : (l : List ℕ) (c b : ℕ) → length l ≡ 28 → c < 14 → b ≡ 2 ^ c → set l (14 + c) (bit_or (get_or l (14 + c) 0) b) ≡ self_rows c l
unfolding self_at
self_set l c b e h z = rows_are (self_at c l) (set l (14 + c) x) (length-set l (14 + c) x ∙ e) (λ j a. at j (ℕ_discrete j (14 + c)))
  where
    x : ℕ
    x = bit_or (get_or l (14 + c) 0) b

    at : (j : ℕ) → Dec (j ≡ 14 + c) → get_or (set l (14 + c) x) j 0 ≡ self_at c l j
    at j (yes i) = rw (i, eq-eqb (14 + c) (14 + c) refl) (get_or-set_same l (14 + c) x 0 (omega arith) ∙ ap (bit_or (get_or l (14 + c) 0)) z)
    at j (no n) = rw (ne_eqb j (14 + c) n) (get_or-set_other l (14 + c) j x 0 n)

module _ (c d : ℕ) (l₀ : List ℕ) where
  pub below_new : (l : List ℕ) (p up : ℕ) → Turned (below_at c d l₀) l₀ l p → p < 14 → up ≡ up_of l₀ d
      → below_row (get_or l p 0) (get_or l (14 + p) 0) c up ≡ below_at c d l₀ p
  unfolding below_at
  below_new l p up t h e = rw (t.old p (omega arith), t.old (14 + p) (omega arith), e, lt-ltb p 14 h) refl

  pub below_rest : (j : ℕ) → 14 ≤ j → get_or l₀ j 0 ≡ below_at c d l₀ j
  unfolding below_at
  below_rest j h = rw (le-ltb j 14 h) refl

  pub equal_new : (p class over some : ℕ) → p < 14 → class ≡ class_of l₀ c d → over ≡ over_of l₀ c d → some ≡ some_of class over c d
      → equal_row (get_or l₀ p 0) p c d class (bit_or over class) some ≡ equal_at c d l₀ p
  unfolding equal_at
  equal_new p class over some h e f g = rw (g, e, f, lt-ltb p 14 h) refl

  pub equal_rest : (j : ℕ) → 14 ≤ j → get_or l₀ j 0 ≡ equal_at c d l₀ j
  unfolding equal_at
  equal_rest j h = rw (le-ltb j 14 h) refl

module _ (class : ℕ) (l₀ : List ℕ) where
  pub class_first : (j : ℕ) → j < 14 → get_or l₀ j 0 ≡ class_at class l₀ j
  unfolding class_at
  class_first j h = rw (lt-ltb j 14 h) refl

  pub class_new : (p : ℕ) → class_row (get_or l₀ (14 + p) 0) p class ≡ class_at class l₀ (14 + p)
  unfolding class_at
  class_new p = let number : 14 + p - 14 ≡ p = omega arith in rw (le-ltb (14 + p) 14 (omega arith), number) refl

-- all rows without the digit of a cell, and then none in its own two
pub drop_set : (c : ℕ) (l₀ l : List ℕ) → c < 14 → length l ≡ 28 → ((j : ℕ) → j < 28 → get_or l j 0 ≡ off_row (get_or l₀ j 0) c)
    → set (set l c 0) (14 + c) 0 ≡ rows_by (λ j. drop_row (get_or l₀ j 0) j c)
unfolding drop_row
drop_set c l₀ l h e new =
    rows_are (λ j. drop_row (get_or l₀ j 0) j c) (set (set l c 0) (14 + c) 0) (length-set (set l c 0) (14 + c) 0 ∙ size)
    (λ j b. at j b (ℕ_discrete j (14 + c)) (ℕ_discrete j c))
  where
    size : length (set l c 0) ≡ 28
    size = length-set l c 0 ∙ e

    at : (j : ℕ) → j < 28 → Dec (j ≡ 14 + c) → Dec (j ≡ c) → get_or (set (set l c 0) (14 + c) 0) j 0 ≡ drop_row (get_or l₀ j 0) j c
    at j b (yes z) d =
        let other : ¬ (14 + c ≡ c) = λ z. omega arith in
        rw (z, ne_eqb (14 + c) c other, eq-eqb (14 + c) (14 + c) refl) (get_or-set_same (set l c 0) (14 + c) 0 0 (omega (arith, size)))
    at j b (no n) (yes z) =
        rw (z, eq-eqb c c refl) (get_or-set_other (set l c 0) (14 + c) c 0 0 (λ z. omega arith) ∙ get_or-set_same l c 0 0 (omega arith))
    at j b (no n) (no m) =
        rw (ne_eqb j c m, ne_eqb j (14 + c) n) (get_or-set_other (set l c 0) (14 + c) j 0 0 n ∙ get_or-set_other l c j 0 0 m ∙ new j b)

module _ (first last : ℕ) (l₀ : List ℕ) where
  pub moved_first : (j : ℕ) → j < first → get_or l₀ j 0 ≡ moved_at first last l₀ j
  unfolding moved_at
  moved_first j h = rw (lt-ltb j first h) refl

  pub moved_next : (j : ℕ) → first ≤ j → j < last → get_or l₀ (j + 1) 0 ≡ moved_at first last l₀ j
  unfolding moved_at
  moved_next j h b = rw (le-ltb j first h, le-ltb last j (omega arith), lt-ltb j last b) refl

  pub moved_new : (l : List ℕ) (j : ℕ) → Turned (moved_at first last l₀) l₀ l j → first ≤ j → j < last → get_or l (j + 1) 0 ≡ moved_at first last l₀ j
  moved_new l j t h b = t.old (j + 1) (omega arith) ∙ moved_next j h b

  pub moved_last : (j : ℕ) → j ≡ last → first ≤ j → 0 ≡ moved_at first last l₀ j
  unfolding moved_at
  moved_last j e h = rw (le-ltb j first h, le-ltb last j (omega arith), le-ltb j last (omega arith)) refl

  pub moved_rest : (j : ℕ) → first ≤ j → last < j → get_or l₀ j 0 ≡ moved_at first last l₀ j
  unfolding moved_at
  moved_rest j h b = rw (le-ltb j first h, lt-ltb last j b) refl
