-- Rows without the facts of a cell, and rows from which a cell is taken out.
use mathlib.Core.List.{List}
use mathlib.Core.Logic.{◌⊎◌, inl, inr}
use mathlib.Core.Path.{◌≡◌, refl, sym, ap, subst, ◌∙◌}
use Prim.Native.Nat.{ℕ, suc, ◌+◌, ◌%◌, ◌^◌, ◌≤◌, ◌<◌}
use native.Mathlib.Decide.{dec_lt, ℕ_discrete}
use native.Mathlib.Nat.{mod-lt, div-eq_of_lt}
use native.Mathlib.Omega.{arith}
use borrow.Author.Tests.{lt-ltb}
use lib.ListN.{get_or}
use lib.Pow.{pow_pos}
use Rattle.lists.proofs.Reflect.{r_eq, r_either}
use Rattle.facts.specs.Laws.{Alike}
use Rattle.backward.proofs.Remove.{raise, raise_low, raise_high}
use Rattle.factrows.specs.Rows.{digit, row_of, FactsIn, rows_by, drop_row, without_cell, shrink, shrunk_rows, moved_at, moved_rows, lowered}
use Rattle.factrows.proofs.Reading.{Says, says_iff, says_none, says_off, says_cond, says_below, says_equal, Inside, rows_facts}
use Rattle.factrows.proofs.Shrinking.{low_digit, shrink_low, shrink_high}
use Rattle.factrows.proofs.Turning.{row_read, moved_first, moved_next, moved_last, moved_rest}

module _ (l : List ℕ) (c : ℕ) (hc : c < 14) where
  -- ---- the facts of c dropped

  abbrev pub Without : ℕ → ℕ → ℕ → Type 0
  Without k p q = FactsIn l k p q × ((¬ (p ≡ c)) × (¬ (q ≡ c)))

  -- row j says P: nothing of it where the row is c's own, and nothing of c
  says_dropped : {P : Type 0} (j q : ℕ) → Says (get_or l j 0) q P → Says (drop_row (get_or l j 0) j c) q ((¬ ((j ≡ c) ⊎ (j ≡ 14 + c))) × (P × (¬ (q ≡ c))))
  unfolding drop_row
  says_dropped {P} j q r = says_iff out inr (says_cond (says_none q) (says_off c r) (r_either (r_eq j c) (r_eq j (14 + c))))
    where
      out : (((j ≡ c) ⊎ (j ≡ 14 + c)) × ⊥) ⊎ ((¬ ((j ≡ c) ⊎ (j ≡ 14 + c))) × (P × (¬ (q ≡ c)))) → (¬ ((j ≡ c) ⊎ (j ≡ 14 + c))) × (P × (¬ (q ≡ c)))
      out (inl (_, z)) = absurd z
      out (inr z) = z

  dropped_facts : Alike (FactsIn (rows_by (λ j. drop_row (get_or l j 0) j c))) Without
  dropped_facts = rows_facts (λ j. drop_row (get_or l j 0) j c) Without (λ k p q (f, _). (f.0, (f.1.0, f.1.1.0))) low high
    where
      low : (p q : ℕ) → p < 14 → q < 14 → Says (drop_row (get_or l p 0) p c) q (Without 0 p q)
      low p q hp hq = says_iff (λ (n, (f, m)). (f, (λ e. n (inl e), m))) (λ (f, (n, m)). (other n, (f, m))) (says_dropped p q (says_below l p q hp hq))
        where
          other : ¬ (p ≡ c) → ¬ ((p ≡ c) ⊎ (p ≡ 14 + c))
          other n (inl e) = n e
          other n (inr e) = absurd (omega arith)

      high : (p q : ℕ) → p < 14 → q < 14 → Says (drop_row (get_or l (14 + p) 0) (14 + p) c) q (Without 1 p q)
      high p q hp hq = says_iff (λ (n, (f, m)). (f, (λ e. n (inr (ap (λ (x : ℕ). 14 + x) e)), m))) (λ (f, (n, m)). (other n, (f, m))) (says_dropped (14 + p) q (says_equal l p q hp hq))
        where
          other : ¬ (p ≡ c) → ¬ ((14 + p ≡ c) ⊎ (14 + p ≡ 14 + c))
          other n (inl e) = absurd (omega arith)
          other n (inr e) = n (omega arith)

  -- without the facts of c
  pub without_facts : Alike (FactsIn (without_cell c l)) Without
  without_facts = rw (lt-ltb c 14 hc) dropped_facts

  -- ---- c taken out

  -- what p and q had under their numbers before
  abbrev pub Raised : ℕ → ℕ → ℕ → Type 0
  Raised k p q = FactsIn l k (raise c p) (raise c q)

  -- a number that is a cell's afterwards was one before, and back
  raise_cell : (p : ℕ) → p < 13 → raise c p < 14
  raise_cell p h = go (dec_lt p c)
    where
      go : Dec (p < c) → raise c p < 14
      go (yes b) = omega (arith, raise_low c p b)
      go (no b) = omega (arith, raise_high c p (omega arith))

  cell_raise : (p : ℕ) → raise c p < 14 → p < 13
  cell_raise p h = go (dec_lt p c)
    where
      go : Dec (p < c) → p < 13
      go (yes b) = omega arith
      go (no b) = omega (arith, raise_high c p (omega arith))

  -- digits of a shrunk row
  shrink_digit : (x q : ℕ) → digit (shrink x c) q ≡ digit x (raise c q)
  shrink_digit x q = go (dec_lt q c)
    where
      go : Dec (q < c) → digit (shrink x c) q ≡ digit x (raise c q)
      go (yes b) = shrink_low x c q b ∙ ap (digit x) (sym (raise_low c q b))
      go (no b) = shrink_high x c q (omega arith) ∙ ap (digit x) (sym (raise_high c q (omega arith)))

  -- digit 13 is left by digit 14, which means nothing
  top_digit : (x : ℕ) → digit (x % 16384) 14 ≡ 0
  unfolding digit
  top_digit x = ap (λ (y : ℕ). y % 2) (div-eq_of_lt {n = x % 16384} {m = 2 ^ 14} (mod-lt x (pow_pos 14)))

  says_shrunk : (x q : ℕ) → q < 14 → Says (shrink (x % 16384) c) q ((raise c q < 14) × (digit x (raise c q) ≡ 1))
  says_shrunk x q hq =
      record {
        told = λ e. let f = sym (shrink_digit (x % 16384) q) ∙ e in go f (ℕ_discrete q 13);
        held = λ (h, e). shrink_digit (x % 16384) q ∙ low_digit x 14 (raise c q) h ∙ e;
      }
    where
      go : digit (x % 16384) (raise c q) ≡ 1 → Dec (q ≡ 13) → (raise c q < 14) × (digit x (raise c q) ≡ 1)
      go f (yes z) =
          let top : raise c q ≡ 14 = raise_high c q (omega arith) ∙ ap suc z in
          absurd (let y : digit (x % 16384) 14 ≡ 1 = ap (digit (x % 16384)) (sym top) ∙ f in omega (arith, top_digit x))
      go f (no n) = let s = raise_cell q (omega arith) in (s, sym (low_digit x 14 (raise c q) s) ∙ f)

  -- every row shrunk, then those of below moved
  abbrev shrunk : ℕ → ℕ
  shrunk j = shrink (get_or l j 0 % 16384) c

  abbrev half : List ℕ
  half = moved_rows c 13 (shrunk_rows c l)

  -- of a cell before c the row stays, of others it is the next
  low_row : (p : ℕ) → p < 13 → moved_at (14 + c) 27 half p ≡ shrunk (raise c p)
  low_row p h = sym (moved_first (14 + c) 27 half p (omega arith)) ∙ row_read (moved_at c 13 (shrunk_rows c l)) p (omega arith) ∙ go (dec_lt p c)
    where
      go : Dec (p < c) → moved_at c 13 (shrunk_rows c l) p ≡ shrunk (raise c p)
      go (yes b) = sym (moved_first c 13 (shrunk_rows c l) p b) ∙ row_read shrunk p (omega arith) ∙ ap shrunk (sym (raise_low c p b))
      go (no b) =
          let next : p + 1 ≡ raise c p = omega (arith, raise_high c p (omega arith)) in
          sym (moved_next c 13 (shrunk_rows c l) p (omega arith) h) ∙ row_read shrunk (p + 1) (omega arith) ∙ ap shrunk next

  high_row : (p : ℕ) → p < 13 → moved_at (14 + c) 27 half (14 + p) ≡ shrunk (14 + raise c p)
  high_row p h = go (dec_lt p c)
    where
      kept : (j : ℕ) → 14 ≤ j → j < 28 → get_or half j 0 ≡ shrunk j
      kept j a b = row_read (moved_at c 13 (shrunk_rows c l)) j b ∙ sym (moved_rest c 13 (shrunk_rows c l) j (omega arith) (omega arith)) ∙ row_read shrunk j b

      go : Dec (p < c) → moved_at (14 + c) 27 half (14 + p) ≡ shrunk (14 + raise c p)
      go (yes b) =
          let same : 14 + p ≡ 14 + raise c p = omega (arith, raise_low c p b) in
          sym (moved_first (14 + c) 27 half (14 + p) (omega arith)) ∙ kept (14 + p) (omega arith) (omega arith) ∙ ap shrunk same
      go (no b) =
          let next : 14 + p + 1 ≡ 14 + raise c p = omega (arith, raise_high c p (omega arith)) in
          sym (moved_next (14 + c) 27 half (14 + p) (omega arith) (omega arith)) ∙ kept (14 + p + 1) (omega arith) (omega arith) ∙ ap shrunk next

  -- the last row of each half is empty
  low_top : (p : ℕ) → p ≡ 13 → moved_at (14 + c) 27 half p ≡ 0
  low_top p e =
      sym (moved_first (14 + c) 27 half p (omega arith)) ∙ row_read (moved_at c 13 (shrunk_rows c l)) p (omega arith) ∙ sym (moved_last c 13 (shrunk_rows c l) p e (omega arith))

  high_top : (p : ℕ) → p ≡ 13 → moved_at (14 + c) 27 half (14 + p) ≡ 0
  high_top p e = sym (moved_last (14 + c) 27 half (14 + p) (omega arith) (omega arith))

  -- a row that is empty where p is 13, else x's shrunk
  says_row : (k x y p q : ℕ) → p < 14 → q < 14 → (p ≡ 13 → x ≡ 0) → (p < 13 → x ≡ shrink (y % 16384) c) → k < 2 → y ≡ row_of l k (raise c p) → Says x q (Raised k p q)
  says_row k x y p q hp hq none some hk e = go (ℕ_discrete p 13)
    where
      go : Dec (p ≡ 13) → Says x q (Raised k p q)
      go (yes z) =
          subst (λ (y : ℕ). Says y q (Raised k p q)) (sym (none z))
          (says_iff (λ a. absurd a) (λ (_, (b, _)). let i = cell_raise p b in absurd (omega arith)) (says_none q))
      go (no n) =
          subst (λ (y : ℕ). Says y q (Raised k p q)) (sym (some (omega arith)))
          (says_iff (λ (a, b). (hk, (raise_cell p (omega arith), (a, ap (λ (z : ℕ). digit z (raise c q)) (sym e) ∙ b)))) (λ (_, (_, (a, b))). (a, ap (λ (z : ℕ). digit z (raise c q)) e ∙ b))
          (says_shrunk y q hq))

  removed_facts : Alike (FactsIn (moved_rows (14 + c) 27 half)) Raised
  removed_facts = rows_facts (moved_at (14 + c) 27 half) Raised inside low high
    where
      inside : Inside Raised
      inside k p q (a, (b, (d, _))) = let i = cell_raise p b in let j = cell_raise q d in (a, (omega arith, omega arith))

      low : (p q : ℕ) → p < 14 → q < 14 → Says (moved_at (14 + c) 27 half p) q (Raised 0 p q)
      low p q hp hq = says_row 0 (moved_at (14 + c) 27 half p) (get_or l (raise c p) 0) p q hp hq (low_top p) (low_row p) (omega arith) refl

      high : (p q : ℕ) → p < 14 → q < 14 → Says (moved_at (14 + c) 27 half (14 + p)) q (Raised 1 p q)
      high p q hp hq = says_row 1 (moved_at (14 + c) 27 half (14 + p)) (get_or l (14 + raise c p) 0) p q hp hq (high_top p) (high_row p) (omega arith) refl

  -- each cell has the facts of the number that it had before
  pub lowered_facts : Alike (FactsIn (lowered c l)) Raised
  lowered_facts = rw (lt-ltb c 14 hc) removed_facts
