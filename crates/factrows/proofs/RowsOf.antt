-- Rows that stand for a list of facts: none, one fact more, a listed one closed, and the tests of the list by those of the rows.
use mathlib.Core.Bool.{◌&&◌, not}
use mathlib.Core.List.Memᴰ
use mathlib.Core.List.{List, [], ◌∷◌, map}
use mathlib.Core.Logic.{inl, inr}
use mathlib.Core.Path.{◌≡◌, refl, sym, ap, subst₂}
use Prim.Native.Nat.{ℕ, zero, suc, ◌-◌, ◌≤◌, ◌<◌}
use native.Mathlib.Omega.{arith}
use lib.Dec.{eqb}
use Rattle.lists.specs.List.{◌∈◌, Every}
use Rattle.lists.specs.Range.{range}
use Rattle.lists.proofs.List.{every_none, every_cons}
use Rattle.lists.proofs.Reflect.{r_eq, r_and, r_not, r_all_of, same_test}
use Rattle.heap.specs.Place.{cell}
use Rattle.facts.specs.Facts.{Fact, given, Follows, FactOf, FactsOf, close, follows?, consistent}
use Rattle.facts.specs.Laws.{Laws, Plus, Consistent}
use Rattle.facts.proofs.Adding.{renamed_laws, least, alike_laws}
use Rattle.facts.proofs.Closing.{lawful, both_laws, follows_laws, r_has, close_cells, close_follows, closure_reflects}
use Rattle.factrows.specs.Listed.{count, kind_at, left_at, right_at, fact_at, listed, closed_from, closed}
use Rattle.factrows.specs.Rows.{FactsIn, has_fact, no_facts, is_consistent, with_fact}
use Rattle.factrows.specs.RowsOf.{RowsOf}
use Rattle.factrows.proofs.Adding.{with_laws, with_closure}
use Rattle.factrows.proofs.Reading.{r_fact, none_in, consistent_reflects}

-- ---- from a fact of the list to one of the rows

-- the number of a cell, from its place
abbrev pub number : ℕ → ℕ
number p = p - 3

pub number_cell : (p : ℕ) → number (cell p) ≡ p
number_cell p = omega arith

pub cell_number_lem : (p : ℕ) → cell 0 ≤ p → cell (number p) ≡ p
cell_number_lem p h = omega arith

-- each listed fact is in the rows, they have the laws, and each of their facts follows
pub stands_of : (l : List ℕ) (facts : List Fact) → FactsOf 14 facts → Laws (FactsIn l) → Every (λ t. FactsIn l t.kind (number t.left) (number t.right)) facts
    → ((k p q : ℕ) → FactsIn l k p q → Follows facts k (cell p) (cell q)) → RowsOf l facts
stands_of l facts cells w each sound =
    record {
      cells = cells;
      sound = sound;
      complete = λ k p q i.
          subst₂ (λ (x y : ℕ). FactsIn l k x y) (number_cell p) (number_cell q)
          (lawful facts (λ k p q. FactsIn l k (number p) (number q)) (renamed_laws (FactsIn l) w number) each i);
    }

module _ (l : List ℕ) (facts : List Fact) (s : RowsOf l facts) where
  -- the rows are closed
  pub stands_laws : Laws (FactsIn l)
  stands_laws = alike_laws (FactsIn l) (λ k p q. Follows facts k (cell p) (cell q)) (λ k p q. (s.sound k p q, s.complete k p q)) (follows_laws facts cell)

  -- what follows is in the rows
  pub follows_in : (k p q : ℕ) → FactOf 14 (record { kind = k; left = p; right = q }) → Follows facts k p q → FactsIn l k (number p) (number q)
  follows_in k p q (_, a, b) i = s.complete k (number p) (number q) (subst₂ (λ (x y : ℕ). Follows facts k x y) (sym (cell_number_lem p a.0)) (sym (cell_number_lem q b.0)) i)

  -- each listed fact is
  pub listed_in : (t : Fact) → t ∈ facts → FactsIn l t.kind (number t.left) (number t.right)
  listed_in t m = follows_in t.kind t.left t.right (s.cells t m) (given m)

-- ---- none, and one more

none_laws : Laws (FactsIn no_facts)
none_laws =
    record {
      self_left = λ k p q i. absurd (none_in k p q i);
      self_right = λ k p q i. absurd (none_in k p q i);
      flip = λ p q i. absurd (none_in 1 p q i);
      same = λ k p q r i j. absurd (none_in 1 p q i);
      less = λ p q r i j. absurd (none_in 0 p q i);
      less_same = λ p q r i j. absurd (none_in 0 p q i);
    }

pub stands_none : RowsOf no_facts []
stands_none = stands_of no_facts [] (every_none (FactOf 14)) none_laws (λ t m. absurd (Memᴰ.not-nil m)) (λ k p q i. absurd (none_in k p q i))

-- the fact of this kind about the cells c and d
abbrev pub fact_on : ℕ → ℕ → ℕ → Fact
fact_on k c d = record { kind = k; left = cell c; right = cell d }

module _ (l : List ℕ) (facts : List Fact) (s : RowsOf l facts) (k c d : ℕ) (hk : k < 2) (hc : c < 14) (hd : d < 14) where
  pub stands_more : RowsOf (with_fact l k c d) (fact_on k c d ∷ facts)
  stands_more = stands_of l' (fact_on k c d ∷ facts) (every_cons (FactOf 14) (hk, (omega arith, omega arith), (omega arith, omega arith)) s.cells) (with_laws l w k c d hc hd) each sound
    where
      l' : List ℕ
      l' = with_fact l k c d

      w : Laws (FactsIn l)
      w = stands_laws l facts s

      new : FactsIn l' k c d
      new = (with_closure l w k c d hc hd hk k c d).1 (given (inr (refl, (refl, refl))))

      each : Every (λ t. FactsIn l' t.kind (number t.left) (number t.right)) (fact_on k c d ∷ facts)
      each =
          every_cons (λ t. FactsIn l' t.kind (number t.left) (number t.right)) (subst₂ (λ (x y : ℕ). FactsIn l' k x y) (sym (number_cell c)) (sym (number_cell d)) new)
          (λ t m. (with_closure l w k c d hc hd hk t.kind (number t.left) (number t.right)).1 (given (inl (listed_in l facts s t m))))

      old : (k₁ p q : ℕ) → Follows facts k₁ p q → Follows (fact_on k c d ∷ facts) k₁ p q
      old k₁ p q i = lawful facts (Follows (fact_on k c d ∷ facts)) (follows_laws (fact_on k c d ∷ facts) (λ p. p)) (λ u m. given (Memᴰ.tail m)) i

      one : (k₁ p q : ℕ) → Plus (FactsIn l) k c d k₁ p q → Follows (fact_on k c d ∷ facts) k₁ (cell p) (cell q)
      one k₁ p q (inl f) = old k₁ (cell p) (cell q) (s.sound k₁ p q f)
      one k₁ p q (inr (a, (b, e))) = given (Memᴰ.head (λ i. fact_on (a i) (b i) (e i)))

      sound : (k₁ p q : ℕ) → FactsIn l' k₁ p q → Follows (fact_on k c d ∷ facts) k₁ (cell p) (cell q)
      sound k₁ p q f =
          least (Plus (FactsIn l) k c d) (λ k₁ p q. Follows (fact_on k c d ∷ facts) k₁ (cell p) (cell q)) (follows_laws (fact_on k c d ∷ facts) cell) one
          ((with_closure l w k c d hc hd hk k₁ p q).0 f)

-- ---- a list in bytes

stands_from : (s : List ℕ) (n i : ℕ) → FactsOf 14 (map (fact_at s) (range i n)) → RowsOf (closed_from s n i) (map (fact_at s) (range i n))
unfolding closed_from
stands_from s zero i h = stands_none
stands_from s (suc n) i h =
    let (a, b, c) = h (fact_at s i) (Memᴰ.head refl) in
    stands_more (closed_from s n (suc i)) (map (fact_at s) (range (suc i) n)) (stands_from s n (suc i) (λ t m. h t (Memᴰ.tail m))) (kind_at s i) (left_at s i) (right_at s i) a
    (omega (arith, b.1)) (omega (arith, c.1))

pub stands_closed : (s : List ℕ) → FactsOf 14 (listed s) → RowsOf (closed s) (listed s)
stands_closed s h = stands_from s (count s) 0 h

-- ---- tests

module _ (l : List ℕ) (facts : List Fact) (s : RowsOf l facts) (n : ℕ) (h : FactsOf n facts) where
  -- whether a fact follows
  pub stands_test : (k p q : ℕ) → has_fact l k p q ≡ follows? n facts k (cell p) (cell q)
  stands_test k p q = same_test (r_fact l k p q) (closure_reflects facts n h k (cell p) (cell q)) (s.sound k p q) (s.complete k p q)

  -- only the n cells have facts, so that a fresh one has none
  pub stands_inside : (k p q : ℕ) → FactsIn l k p q → (p < n) × (q < n)
  stands_inside k p q f =
      let (a, b) = lawful facts (λ k p q. (p < cell n) × (q < cell n)) (both_laws (λ p. p < cell n)) (λ t m. let (_, x, y) = h t m in (x.1, y.1)) (s.sound k p q f) in
      (omega arith, omega arith)

  -- the closed list has what is in the rows
  in_close : (k p q : ℕ) → FactsIn l k p q → fact_on k p q ∈ close n facts
  in_close k p q f = (r_has (close n facts) k (cell p) (cell q)).holds ((closure_reflects facts n h k (cell p) (cell q)).tests (s.sound k p q f))

  -- closing changes nothing
  pub stands_close : n ≤ 14 → RowsOf l (close n facts)
  stands_close b =
      record {
        cells = λ t m. let (k, p, q) = close_cells n facts t m in (k, (p.0, omega (arith, p.1)), (q.0, omega (arith, q.1)));
        sound = λ k p q f. given (in_close k p q f);
        complete = λ k p q i. s.complete k p q (lawful (close n facts) (Follows facts) (follows_laws facts (λ p. p)) (close_follows n facts) i);
      }

  -- whether the closed list is consistent
  pub stands_consistent : is_consistent l ≡ consistent (close n facts)
  stands_consistent =
      same_test (consistent_reflects l)
      (r_all_of {P = λ t. ¬ ((t.kind ≡ 0) × (t.left ≡ t.right))} (λ t. not (eqb t.kind 0 && eqb t.left t.right)) (close n facts) (λ t. r_not (r_and (r_eq t.kind 0) (r_eq t.left t.right)))) out back
    where
      out : Consistent (FactsIn l) → Every (λ t. ¬ ((t.kind ≡ 0) × (t.left ≡ t.right))) (close n facts)
      out ok t m (a, b) = ok (number t.left) (subst₂ (λ (k q : ℕ). FactsIn l k (number t.left) q) a (ap number (sym b)) (s.complete t.kind (number t.left) (number t.right) there))
        where
          there : Follows facts t.kind (cell (number t.left)) (cell (number t.right))
          there =
              let (_, p, q) = close_cells n facts t m in
              subst₂ (λ (x y : ℕ). Follows facts t.kind x y) (sym (cell_number_lem t.left p.0)) (sym (cell_number_lem t.right q.0)) (close_follows n facts t m)

      back : Every (λ t. ¬ ((t.kind ≡ 0) × (t.left ≡ t.right))) (close n facts) → Consistent (FactsIn l)
      back ok p f = ok (fact_on 0 p p) (in_close 0 p p f) (refl, refl)
