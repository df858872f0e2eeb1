-- Walks by marks, turn by turn.
use mathlib.Core.Bool.{Bool, true, false, cond}
use mathlib.Core.List.{List, [], ◌∷◌}
use mathlib.Core.Logic.{◌≢◌}
use mathlib.Core.Path.{◌≡◌, refl, sym, ◌∙◌}
use Prim.Native.Nat.{ℕ, zero, suc, ◌+◌, ◌≤◌, ◌<◌}
use native.Mathlib.Decide.{dec_lt}
use native.Mathlib.Numerals.{add-one}
use native.Mathlib.Omega.{arith}
use borrow.Author.Tests.{eq-eqb, ne_eqb, lt-ltb, le-ltb}
use lib.Dec.{eqb}
use lib.ListN.{length, get_or, set, length-set}
use Rattle.heap.specs.Place.{nowhere, cell}
use Rattle.marks.specs.Marks.{mark_in, cells_in, walked_from, walked, stop_from}

-- ---- how many places are free

unfoldable pub frees : List ℕ → ℕ
frees [] = 0
frees (m ∷ ms) = cond (eqb m 0) (suc (frees ms)) (frees ms)

pub frees_most : (ms : List ℕ) → frees ms ≤ length ms
unfolding frees
frees_most [] = omega arith
frees_most (m ∷ ms) = go (eqb m 0) (frees_most ms)
  where
    go : (z : Bool) → frees ms ≤ length ms → cond z (suc (frees ms)) (frees ms) ≤ suc (length ms)
    go true h = omega arith
    go false h = omega arith

pub frees_less : (ms : List ℕ) (p v : ℕ) → p < length ms → get_or ms p 0 ≡ 0 → v ≢ 0 → frees (set ms p v) < frees ms
unfolding frees
frees_less [] p v b e n = absurd (omega arith)
frees_less (m ∷ ms) zero v b e n = simp (eq-eqb m 0 e, ne_eqb v 0 n) (omega arith)
frees_less (m ∷ ms) (suc p) v b e n = go (eqb m 0) (frees_less ms p v (omega arith) e n)
  where
    go : (z : Bool) → frees (set ms p v) < frees ms → cond z (suc (frees (set ms p v))) (frees (set ms p v)) < cond z (suc (frees ms)) (frees ms)
    go true h = omega arith
    go false h = h

-- ---- a mark

module _ (n : ℕ) (marks : List ℕ) (p : ℕ) where
  pub mark_read : p < cell n → mark_in n marks p ≡ get_or marks p 0
  unfolding mark_in
  mark_read b = rw (lt-ltb p (cell n) b) refl

  pub mark_past : cell n ≤ p → mark_in n marks p ≡ 2
  unfolding mark_in
  mark_past b = rw (le-ltb p (cell n) b) refl

  pub mark_in_lem : mark_in n marks p ≡ 0 → (p < cell n) × (get_or marks p 0 ≡ 0)
  mark_in_lem z = go (dec_lt p (cell n))
    where
      go : Dec (p < cell n) → (p < cell n) × (get_or marks p 0 ≡ 0)
      go (yes b) = (b, sym (mark_read b) ∙ z)
      go (no b) = absurd (omega (arith, mark_past (omega arith)))

-- ---- the walk to what is not free

module _ (s : List ℕ) where
  pub walk_more : (k links : ℕ) (marks : List ℕ) (p : ℕ) → mark_in (cells_in s) marks p ≡ 0
      → walked_from (suc k) links s marks p ≡ walked_from k (suc links) s (set marks p 2) (get_or s p 0)
  unfolding walked_from
  walk_more k links marks p e = rw (eq-eqb (mark_in (cells_in s) marks p) 0 e) refl

  pub walk_met : (k links : ℕ) (marks : List ℕ) (p : ℕ) → mark_in (cells_in s) marks p ≢ 0
      → walked_from k links s marks p ≡ record { end = p; links = links; marks = marks }
  unfolding walked_from
  walk_met zero links marks p e = refl
  walk_met (suc k) links marks p e = rw (ne_eqb (mark_in (cells_in s) marks p) 0 e) refl

  -- each turn follows a link
  pub walk_few : (k links : ℕ) (marks : List ℕ) (p : ℕ) → (walked_from k links s marks p).links ≤ k + links
  unfolding walked_from
  walk_few zero links marks p = omega arith
  walk_few (suc k) links marks p = go (eqb (mark_in (cells_in s) marks p) 0) (walk_few k (suc links) (set marks p 2) (get_or s p 0))
    where
      go : (b : Bool) → (walked_from k (suc links) s (set marks p 2) (get_or s p 0)).links ≤ k + suc links
          → (cond b (walked_from k (suc links) s (set marks p 2) (get_or s p 0)) (record { end = p; links = links; marks = marks })).links ≤ suc k + links
      go true h = omega arith
      go false h = omega arith

  module _ (marks₀ : List ℕ) (first : ℕ) where
    -- the walk has come to a place by so many links, with turns left for all that is free
    pub record Going (marks : List ℕ) (p links : ℕ) : Type 0 where
      pub left : ℕ
      pub enough : frees marks ≤ left
      pub counted : left + links ≡ length marks + 1
      pub goes : walked s marks₀ first ≡ walked_from left links s marks p

    pub going_none : Going marks₀ first 1
    going_none = record { left = length marks₀; enough = frees_most marks₀; counted = refl; goes = refl }

    module _ (marks : List ℕ) (p links : ℕ) (g : Going marks p links) where
      module _ (b : p < length marks) (e : mark_in (cells_in s) marks p ≡ 0) where
        pub going_less : frees (set marks p 2) < frees marks
        going_less = frees_less marks p 2 b (mark_in_lem (cells_in s) marks p e).1 (omega arith)

        pub going_more : Going (set marks p 2) (get_or s p 0) (links + 1)
        going_more = go g.left g.enough g.counted g.goes
          where
            go : (k : ℕ) → frees marks ≤ k → k + links ≡ length marks + 1 → walked s marks₀ first ≡ walked_from k links s marks p
                → Going (set marks p 2) (get_or s p 0) (links + 1)
            go zero h c w = absurd (omega (arith, going_less))
            go (suc k) h c w =
                record {
                  left = k;
                  enough = omega (arith, going_less);
                  counted = omega (arith, length-set marks p 2);
                  goes = rw (add-one links) (w ∙ walk_more k links marks p e);
                }

      pub going_met : mark_in (cells_in s) marks p ≢ 0 → walked s marks₀ first ≡ record { end = p; links = links; marks = marks }
      going_met e = g.goes ∙ walk_met g.left links marks p e

-- ---- the way to a stop

module _ (s marks : List ℕ) (p : ℕ) where
  pub stop_none : stop_from 0 s marks p ≡ nowhere
  unfolding stop_from
  stop_none = refl

  module _ (k : ℕ) where
    pub stop_met : mark_in (cells_in s) marks p ≡ 1 → stop_from (suc k) s marks p ≡ p
    unfolding stop_from
    stop_met e = rw (eq-eqb (mark_in (cells_in s) marks p) 1 e) refl

    module _ (e : mark_in (cells_in s) marks p ≢ 1) where
      pub stop_past : cell (cells_in s) ≤ p → stop_from (suc k) s marks p ≡ nowhere
      unfolding stop_from
      stop_past b = rw (ne_eqb (mark_in (cells_in s) marks p) 1 e, le-ltb p (cell (cells_in s)) b) refl

      pub stop_more : p < cell (cells_in s) → stop_from (suc k) s marks p ≡ stop_from k s marks (get_or s p 0)
      unfolding stop_from
      stop_more b = rw (ne_eqb (mark_in (cells_in s) marks p) 1 e, lt-ltb p (cell (cells_in s)) b) refl
