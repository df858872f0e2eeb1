-- Rule 6 of a cover by the rows of the covered shape: the member's listed facts, each cell taken for its image, whatever the bytes of the member are.
use mathlib.Core.Bool.{Bool, true, false, ◌&&◌, ◌||◌, not}
use mathlib.Core.List.{List, map}
use mathlib.Core.Option.{none}
use mathlib.Core.Path.{◌≡◌, refl, sym, ap, ap₂, ◌∙◌}
use Prim.Native.Nat.{ℕ, zero, suc, ◌+◌, ◌≤◌, ◌<◌}
use native.Mathlib.Decide.{dec_lt}
use native.Mathlib.Omega.{arith}
use borrow.Author.Tests.{lt-ltb, le-ltb}
use lib.Dec.{eqb}
use lib.ListN.{get_or}
use Rattle.lists.specs.List.{all_of}
use Rattle.lists.specs.Range.{range}
use Rattle.lists.specs.Test.{all_from, lowest}
use Rattle.lists.proofs.Lowest.{lowest_same, lowest_none}
use Rattle.lists.proofs.Reflect.{r_eq, same_test}
use Rattle.lists.proofs.Test.{all_at, all_made}
use Rattle.heap.specs.Place.{cell}
use Rattle.shape.specs.Shape.{Shape}
use Rattle.cover.specs.Test.{fact_in, facts_in}
use Rattle.factrows.specs.Listed.{count, kind_at, left_at, right_at, fact_at, listed, image_cell, holds_at, holds_all, holds_for, cell_holds}
use Rattle.factrows.specs.Rows.{has_fact, cell_number, rows_test}

-- a test of the members of a table
all_listed : {A : Type 0} (f : A → Bool) (g : ℕ → A) (test : ℕ → Bool) (n i : ℕ) → ((j : ℕ) → i ≤ j → j < i + n → test j ≡ f (g j)) → all_from n i test ≡ all_of f (map g (range i n))
unfolding all_from
all_listed f g test zero i h = refl
all_listed f g test (suc n) i h =
    ap₂ ◌&&◌ (h i (omega arith) (omega arith)) (all_listed f g test n (suc i) (λ j a b. h j (omega arith) (omega arith)))

or_true : (b : Bool) → b || true ≡ true
or_true true = refl
or_true false = refl

module _ (l s codes : List ℕ) (member covered : Shape) (images : List ℕ) (are : member.facts ≡ listed s)
    (coded : (i : ℕ) → i < 12 → get_or codes (i + 3) 0 ≡ cell (get_or images i 0)) (beyond : (i : ℕ) → 12 ≤ i → get_or images i 0 ≡ 0) where
  image_same : (i : ℕ) → image_cell codes i ≡ cell_number (cell (get_or images i 0))
  image_same i = go (dec_lt i 12)
    where
      go : Dec (i < 12) → image_cell codes i ≡ cell_number (cell (get_or images i 0))
      go (yes b) = rw (lt-ltb i 12 b) (ap cell_number (coded i b))
      go (no b) = rw (le-ltb i 12 (omega arith), beyond i (omega arith)) refl

  -- `fact_in`
  fact_rows : (i : ℕ) → holds_at l s codes i ≡ fact_in member covered images (rows_test l) (fact_at s i)
  unfolding rows_test
  fact_rows i = ap₂ (λ (p q : ℕ). has_fact l (kind_at s i) p q) (image_same (left_at s i)) (image_same (right_at s i))

  -- `facts_in`: the facts whose first cell is cell p
  facts_rows : (p : ℕ) → cell_holds l s codes p ≡ facts_in member covered images (rows_test l) p
  facts_rows p =
      rw are (all_listed (λ t. not (eqb t.left (cell p)) || fact_in member covered images (rows_test l) t) (fact_at s) (holds_for l s codes p) (count s) 0 at)
    where
      same_cell : (x : ℕ) → eqb x p ≡ eqb (cell x) (cell p)
      same_cell x = same_test (r_eq x p) (r_eq (cell x) (cell p)) (λ e. omega arith) (λ e. omega arith)

      at : (j : ℕ) → 0 ≤ j → j < 0 + count s → holds_for l s codes p j ≡ (not (eqb (cell (left_at s j)) (cell p)) || fact_in member covered images (rows_test l) (fact_at s j))
      at j _ b = ap₂ (λ (x y : Bool). not x || y) (same_cell (left_at s j)) (fact_rows j)

  -- rule 6: the lowest of n cells with a missing fact
  pub missing_rows : (n : ℕ) → lowest n 0 (cell_holds l s codes) ≡ lowest n 0 (facts_in member covered images (rows_test l))
  missing_rows n = lowest_same (cell_holds l s codes) (facts_in member covered images (rows_test l)) n 0 (λ p _ _. facts_rows p)

  -- there is none where all facts hold
  pub none_missing : holds_all l s codes ≡ true → (n : ℕ) → lowest n 0 (facts_in member covered images (rows_test l)) ≡ none
  none_missing h n =
      sym (missing_rows n)
      ∙ lowest_none (cell_holds l s codes) n 0
      (λ p _ _. all_made (holds_for l s codes p) (count s) 0
      (λ i a b. rw (all_at (holds_at l s codes) (count s) 0 i h a b) (or_true (not (eqb (left_at s i) p)))))
