-- Laws of marks.
use mathlib.Core.Bool.{Bool, true, false, ◌||◌, or-true}
use mathlib.Core.List.{List, [], ◌∷◌, ◌++◌}
use mathlib.Core.Logic.{◌≢◌}
use mathlib.Core.Path.{◌≡◌, refl, sym, ap, ◌∙◌}
use Prim.Native.Nat.{ℕ, zero, suc, ◌<◌}
use native.Mathlib.Decide.{ℕ_discrete}
use native.Mathlib.Omega.{arith}
use borrow.Author.Tests.{ne_eqb, le-ltb}
use lib.Dec.{eqb, eqb_refl, ltb}
use lib.ListN.{get_or, set, length-set, replicate, get_or-replicate}
use lib.Seq.{get_or-set_same, get_or-set_other}
use Rattle.lists.specs.List.{◌∈◌, Every, absent}
use Rattle.lists.proofs.Reflect.{is_true, r_absent, same_test}
use Rattle.heap.specs.Place.{cell}
use Rattle.cover.specs.Test.{is_image, stops}
use Rattle.covering.specs.Marks.{mark, Marks}

-- ---- one mark

pub mark_free : (a b : Bool) → mark a b ≡ 0 → (a ≡ false) × (b ≡ true)
mark_free true b e = absurd (omega arith)
mark_free false true e = (refl, refl)
mark_free false false e = absurd (omega arith)

pub mark_stop : (a b : Bool) → mark a b ≡ 1 → a ≡ true
mark_stop true b e = refl
mark_stop false true e = absurd (omega arith)
mark_stop false false e = absurd (omega arith)

-- ---- nothing is marked yet

pub marks_none : Marks [] [] (1 ∷ 1 ∷ 1 ∷ replicate 25 0)
marks_none = record { room = refl; marked = go }
  where
    go : (p : ℕ) → p < 28 → get_or (1 ∷ 1 ∷ 1 ∷ replicate 25 0) p 0 ≡ mark (stops [] p) true
    go zero b = refl
    go (suc zero) b = refl
    go (suc (suc zero)) b = refl
    go (suc (suc (suc i))) b = get_or-replicate 25 i 0 0 (omega arith) ∙ rw (le-ltb (cell i) (cell 0) (omega arith)) refl

-- ---- one place more is marked

module _ (images used marks : List ℕ) (m : Marks images used marks) where
  -- the same, where the same cells are used
  pub marks_like : (used' : List ℕ) → Every (λ x. x ∈ used') used → Every (λ x. x ∈ used) used' → Marks images used' marks
  marks_like used' f g =
      record {
        room = m.room;
        marked = λ p b.
            m.marked p b
            ∙ ap (mark (stops images p))
            (same_test (r_absent p used) (r_absent p used') (λ o k. o (g p k)) (λ o k. o (f p k)));
      }

  pub marks_use : (q : ℕ) → q < 28 → stops images q ≡ false → Marks images (q ∷ used) (set marks q 2)
  marks_use q b e = record { room = length-set marks q 2 ∙ m.room; marked = λ p c. go p c (ℕ_discrete p q) }
    where
      go : (p : ℕ) → p < 28 → Dec (p ≡ q) → get_or (set marks q 2) p 0 ≡ mark (stops images p) (absent p (q ∷ used))
      go p c (yes z) =
          rw z (get_or-set_same marks q 2 0 (omega (arith, m.room)) ∙ rw (e, is_true (eqb q q) (eqb_refl q)) refl)
      go p c (no n) = get_or-set_other marks q p 2 0 n ∙ m.marked p c ∙ rw (ne_eqb q p (λ z. n (sym z))) refl

image_other : (xs : List ℕ) (y p : ℕ) → p ≢ cell y → is_image (xs ++ (y ∷ [])) p ≡ is_image xs p
image_other [] y p n = rw (ne_eqb p (cell y) n) refl
image_other (x ∷ xs) y p n = ap (λ (b : Bool). eqb p (cell x) || b) (image_other xs y p n)

image_same : (xs : List ℕ) (y : ℕ) → is_image (xs ++ (y ∷ [])) (cell y) ≡ true
image_same [] y = rw (is_true (eqb (cell y) (cell y)) (eqb_refl (cell y))) refl
image_same (x ∷ xs) y = ap (λ (b : Bool). eqb (cell y) (cell x) || b) (image_same xs y) ∙ or-true (eqb (cell y) (cell x))

pub marks_stop : (images marks : List ℕ) (y : ℕ) → Marks images [] marks → cell y < 28 → Marks (images ++ (y ∷ [])) [] (set marks (cell y) 1)
marks_stop images marks y m b = record { room = length-set marks (cell y) 1 ∙ m.room; marked = λ p c. go p c (ℕ_discrete p (cell y)) }
  where
    go : (p : ℕ) → p < 28 → Dec (p ≡ cell y) → get_or (set marks (cell y) 1) p 0 ≡ mark (stops (images ++ (y ∷ [])) p) true
    go p c (yes z) =
        rw z (get_or-set_same marks (cell y) 1 0 (omega (arith, m.room)) ∙ rw (image_same images y, or-true (ltb (cell y) (cell 0))) refl)
    go p c (no n) =
        get_or-set_other marks (cell y) p 1 0 n ∙ m.marked p c ∙ ap (λ (k : Bool). mark (ltb p (cell 0) || k) true) (sym (image_other images y p n))
