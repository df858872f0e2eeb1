-- The same bytes, and the same facts by their bytes.
use mathlib.Core.Bool.{Bool, true, false, ◌&&◌, not}
use mathlib.Core.List.{List, [], ◌∷◌}
use mathlib.Core.Path.{◌≡◌, refl, sym, ap, ◌∙◌}
use Prim.Native.Nat.{ℕ, zero, suc, ◌+◌, ◌*◌, ◌/◌, ◌%◌, ◌<◌}
use native.Mathlib.Omega.{arith}
use borrow.Author.Tests.{not-true, not-false}
use lib.Dec.{eqb}
use lib.ListN.{length, get_or}
use lib.Pointwise.{pointwise}
use lib.Seq.{ext_get_or}
use Rattle.lists.proofs.Range.{length_from, same_table}
use Rattle.lists.proofs.Reflect.{same_test}
use Rattle.facts.specs.Facts.{Fact}
use Rattle.factrows.specs.Listed.{count, fact_at, listed}
use Rattle.joining.specs.Join.{same_numbers, same_facts}
use Rattle.joining.proofs.Tests.{r_numbers, r_facts}

-- what `==` says of two slices is that they have the same numbers
pub same_slices : (xs ys : List ℕ) → pointwise eqb xs ys ≡ same_numbers xs ys
same_slices [] [] = refl
same_slices [] (y ∷ ys) = refl
same_slices (x ∷ xs) [] = refl
same_slices (x ∷ xs) (y ∷ ys) = ap (λ b. eqb x y && b) (same_slices xs ys)

module _ (xs ys : List ℕ) (r : Bool) (e : r ≡ not (pointwise eqb xs ys)) where
  pub slices_differ : r ≡ true → same_numbers xs ys ≡ false
  slices_differ t = sym (same_slices xs ys) ∙ not-true (pointwise eqb xs ys) (sym e ∙ t)

  pub slices_same : r ≡ false → same_numbers xs ys ≡ true
  slices_same t = sym (same_slices xs ys) ∙ not-false (pointwise eqb xs ys) (sym e ∙ t)

module _ (xs ys : List ℕ) where
  -- facts are the same if their bytes are
  module _ (m n : ℕ) (x-threes : length xs ≡ 3 * m) (y-threes : length ys ≡ 3 * n) where
    x_count : count xs ≡ m
    x_count = omega arith

    y_count : count ys ≡ n
    y_count = omega arith

    back : listed xs ≡ listed ys → xs ≡ ys
    back e = ext_get_or 0 xs ys long at
      where
        number : m ≡ n
        number = sym x_count ∙ sym (length_from (fact_at xs) 0 (count xs)) ∙ ap length e ∙ length_from (fact_at ys) 0 (count ys) ∙ y_count

        long : length xs ≡ length ys
        long = omega (arith, number)

        counts : count ys ≡ count xs
        counts = y_count ∙ sym number ∙ sym x_count

        fact : (k : ℕ) → k < m → fact_at xs k ≡ fact_at ys k
        fact k h = same_table (fact_at xs) (fact_at ys) (count xs) (rw counts at e) k (rw x_count h)

        at : (i : ℕ) → i < length xs → get_or xs i 0 ≡ get_or ys i 0
        at i h = by_rest (i / 3) (i % 3) (omega arith) (omega arith) (omega arith)
          where
            by_rest : (k r : ℕ) → i ≡ 3 * k + r → r < 3 → k < m → get_or xs i 0 ≡ get_or ys i 0
            by_rest k zero is b c =
                let place : i ≡ 3 * k = omega arith in
                rw place (ap (λ (t : Fact). t.kind) (fact k c))
            by_rest k (suc zero) is b c =
                let left : _ = ap (λ (t : Fact). t.left) (fact k c) in
                rw is (omega (arith, left))
            by_rest k (suc (suc zero)) is b c =
                let right : _ = ap (λ (t : Fact). t.right) (fact k c) in
                rw is (omega (arith, right))
            by_rest k (suc (suc (suc r))) is b c = absurd (omega arith)

    pub same_listed : same_numbers xs ys ≡ same_facts (listed xs) (listed ys)
    same_listed = same_test (r_numbers xs ys) (r_facts (listed xs) (listed ys)) (ap listed) back
