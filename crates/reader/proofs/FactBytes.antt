-- Where facts that were read stand: their number in one byte or two, then three bytes each.
use mathlib.Core.Bool.{Bool, true, false, cond}
use mathlib.Core.List.Memᴰ
use mathlib.Core.List.{List, [], ◌∷◌}
use mathlib.Core.Path.{◌≡◌, refl, sym, ap, ap₂, ◌∙◌}
use Prim.Native.Nat.{ℕ, zero, suc, ◌+◌, ◌-◌, ◌*◌, ◌/◌, ◌≤◌, ◌<◌}
use native.Mathlib.Omega.{arith}
use borrow.Author.Tests.{eqb-false, lt-ltb, le-ltb}
use lib.Dec.{eqb}
use lib.ListN.{length, get_or, take, drop}
use Rattle.lists.specs.List.{concat_map}
use Rattle.lists.proofs.List.{every_none, every_cons}
use Rattle.lists.proofs.Range.{tabled}
use Rattle.heap.specs.Place.{cell}
use Rattle.facts.specs.Facts.{Fact, FactsOf}
use Rattle.shape.specs.Shape.{AllBelow}
use Rattle.factrows.specs.Listed.{fact_at, listed}
use Rattle.number.specs.Number.{number_at, numeral}
use Rattle.number.proofs.Reading.{read_or_not, same_next, same_value, by_bytes}
use Rattle.format.specs.JobBytes.{FactsInRange}
use Rattle.format.specs.JobNumbers.{fact_numbers, facts_numbers}
use Rattle.format.proofs.Sequence.{Reads, reads_none, reads_first}
use Rattle.layout.specs.Entries.{version_of, fact_count, facts_first, fact_bytes, facts_from, facts_end}
use Rattle.reader.proofs.Bytes.{reads_bytes}

-- ---- the numbers of facts, three for each

three_each : (l : List Fact) → length (concat_map fact_numbers l) ≡ 3 * length l
three_each [] = refl
three_each (t ∷ ts) = ap (λ k. suc (suc (suc k))) (three_each ts) ∙ omega arith

module _ (n : ℕ) where
  numbers_small : (l : List Fact) → n ≤ 12 → FactsOf n l → AllBelow 128 (concat_map fact_numbers l)
  numbers_small [] few of = every_none (λ x. x < 128)
  numbers_small (t ∷ ts) few of =
      let (kind, left, right) = of t (Memᴰ.head refl) in
      let small : ℕ → Type 0 = λ x. x < 128 in
      every_cons small (omega arith) (every_cons small (omega arith) (every_cons small (omega arith) (numbers_small ts few (λ u m. of u (Memᴰ.tail m)))))

  fact_of_numbers : (l : List Fact) (d : Fact) (i : ℕ) → FactsOf n l → i < length l → get_or l i d ≡ fact_at (concat_map fact_numbers l) i
  fact_of_numbers [] d i of h = absurd (omega arith)
  fact_of_numbers (t ∷ ts) d zero of h =
      let (kind, left, right) = of t (Memᴰ.head refl) in
      let left_is : t.left ≡ cell (t.left - 3) = omega arith in
      let right_is : t.right ≡ cell (t.right - 3) = omega arith in
      λ i. record { kind = t.kind; left = left_is i; right = right_is i }
  fact_of_numbers (t ∷ ts) d (suc i) of h =
      let all : List ℕ = concat_map fact_numbers (t ∷ ts) in
      let later : (k m : ℕ) → suc (suc (suc k)) ≡ m → get_or (concat_map fact_numbers ts) k 0 ≡ get_or all m 0 = λ k m e. ap (λ p. get_or all p 0) e in
      let kind_is = later (3 * i) (3 * suc i) (omega arith) in
      let left_is = later (3 * i + 1) (3 * suc i + 1) (omega arith) in
      let right_is = later (3 * i + 2) (3 * suc i + 2) (omega arith) in
      fact_of_numbers ts d i (λ u m. of u (Memᴰ.tail m)) (omega arith)
      ∙ (λ j. record { kind = kind_is j; left = cell (left_is j); right = cell (right_is j) })

  listed_numbers : (l : List Fact) → FactsOf n l → l ≡ listed (concat_map fact_numbers l)
  listed_numbers l of =
      let any : Fact = record { kind = 0; left = 0; right = 0 } in
      tabled (fact_at (concat_map fact_numbers l)) any (length (concat_map fact_numbers l) / 3) l (omega (arith, three_each l))
      (λ i h. fact_of_numbers l any i of (omega (arith, three_each l)))

-- ---- in the buffer

module _ (s : List ℕ) where
  -- a number below 16,384 is one byte or two
  count_stands : (at n mid : ℕ) → n < 16384 → number_at s at ≡ numeral n mid → (fact_count s at ≡ n) × (facts_first s at ≡ mid)
  unfolding fact_count facts_first
  count_stands at n mid small =
      let a = get_or s at 0 in
      let b = get_or s (at + 1) 0 in
      let c = get_or s (at + 2) 0 in
      by_bytes at (length s - at) a b c (λ r. r ≡ numeral n mid → (fact_count s at ≡ n) × (facts_first s at ≡ mid))
      (λ e. absurd (read_or_not e))
      (λ l h e. rw (lt-ltb a 128 h) (same_value e, same_next e))
      (λ l h b₀ b₁ e. rw (le-ltb a 128 h) (same_value e, same_next e))
      (λ l h b₀ b₁ c₀ c₁ e. let m : a - 128 + (b - 128) * 128 + c * 16384 ≡ n = same_value e in absurd (omega arith))

  -- the facts of a shape of n cells, as they are read
  pub facts_stand : (n at : ℕ) (l : List Fact) (next : ℕ) → n ≤ 12 → FactsOf n l → FactsInRange (version_of s) l → Reads s at (facts_numbers (version_of s) l) next
      → (l ≡ facts_from s at) × (next ≡ facts_end s at)
  unfolding facts_from facts_end
  facts_stand n at l next few of ok = go (eqb (version_of s) 2) refl
    where
      go : (b : Bool) → eqb (version_of s) 2 ≡ b → Reads s at (cond b (length l ∷ concat_map fact_numbers l) []) next
          → (l ≡ cond b (listed (fact_bytes s at)) []) × (next ≡ cond b (facts_first s at + 3 * fact_count s at) at)
      go true v r =
          let (mid, g, r₁) = reads_first r in
          let (count_is, first_is) = count_stands at (length l) mid (omega (arith, ok.number)) g in
          let (same, next_is) = reads_bytes r₁ (numbers_small n l few of) in
          let long : length (concat_map fact_numbers l) ≡ 3 * fact_count s at = three_each l ∙ ap (λ k. 3 * k) (sym count_is) in (
            listed_numbers n l of ∙ ap listed (same ∙ ap₂ (λ k p. take k (drop p s)) long (sym first_is)),
            next_is ∙ ap₂ ◌+◌ (sym first_is) long,
          )
      go false v r = (ok.none (eqb-false (version_of s) 2 v), sym (reads_none r))
