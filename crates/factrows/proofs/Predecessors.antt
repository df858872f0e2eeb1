-- What predecessors do to the facts of a shape, done to rows: facts closed and learnt, those of a cell dropped or replaced, a cell taken out. A fresh cell
-- has no facts, so that growing changes nothing.
use mathlib.Core.Bool.{Bool, true, not}
use mathlib.Core.List.Memᴰ
use mathlib.Core.List.{List, ◌∷◌, map}
use mathlib.Core.Logic.{◌≢◌}
use mathlib.Core.Path.{◌≡◌, refl, sym, ap, subst, subst₂, ◌∙◌}
use Prim.Native.Nat.{ℕ, ◌≤◌, ◌<◌}
use native.Mathlib.Omega.{arith}
use Rattle.lists.specs.List.{Every, keep}
use Rattle.lists.proofs.List.{every_cons}
use Rattle.lists.proofs.Reflect.{r_lt, r_not, same_test, cond_cases, passes}
use Rattle.heap.specs.Place.{cell}
use Rattle.heap.specs.Value.{equals}
use Rattle.facts.specs.Facts.{Fact, given, Follows, FactOf, FactsOf, close}
use Rattle.facts.specs.Laws.{Laws}
use Rattle.facts.proofs.Adding.{alike_laws, dropped_laws, renamed_laws}
use Rattle.facts.proofs.Closing.{lawful, both_laws, follows_laws}
use Rattle.shape.specs.Shape.{Shape, size}
use Rattle.backward.specs.Predecessors.{lower, lower_fact, with_facts, settle, learn, without, unspoken}
use Rattle.backward.proofs.ClosedFacts.{ClosedFacts, mem_without}
use Rattle.backward.proofs.Remove.{raise, raise_lower, lower_raise, lower_least}
use Rattle.backward.proofs.Tests.{Unspoken, r_unspoken, without_mem}
use Rattle.factrows.specs.Rows.{FactsIn, has_fact, is_consistent, with_fact, clashing, without_cell, lowered}
use Rattle.factrows.specs.RowsOf.{RowsOf}
use Rattle.factrows.proofs.Adding.{clash_reflects}
use Rattle.factrows.proofs.Cells.{without_facts, lowered_facts}
use Rattle.factrows.proofs.Reading.{r_fact, consistent_reflects}
use Rattle.factrows.proofs.RowsOf.{number, number_cell, cell_number_lem, stands_of, stands_laws, listed_in, fact_on, stands_more, stands_close, stands_consistent}

-- ---- closed and learnt

module _ (l : List ℕ) (s : Shape) (r : RowsOf l s.facts) (h : FactsOf (size s) s.facts) where
  -- `settle` keeps the shape exactly if the rows are consistent; they stand for its closed facts by `stands_close`
  pub settle_rows : settle s ≡ keep (is_consistent l) (with_facts s (close (size s) s.facts))
  settle_rows = ap (λ (b : Bool). keep b (with_facts s (close (size s) s.facts))) (sym (stands_consistent l s.facts r (size s) h))

  module _ (few : size s ≤ 14) (k c d : ℕ) (hk : k < 2) (hc : c < size s) (hd : d < size s) where
    more_cells : FactsOf (size s) (fact_on k c d ∷ s.facts)
    more_cells = every_cons (FactOf (size s)) (hk, (omega arith, omega arith), (omega arith, omega arith)) h

    more_stands : RowsOf (with_fact l k c d) (fact_on k c d ∷ s.facts)
    more_stands = stands_more l s.facts r k c d hk (omega arith) (omega arith)

    -- `learn` keeps the shape exactly if the new fact does not clash
    pub learn_rows : is_consistent l ≡ true → learn k (cell c) (cell d) s ≡ keep (not (clashing l k c d)) (with_facts s (close (size s) (fact_on k c d ∷ s.facts)))
    learn_rows ok = ap (λ (b : Bool). keep b (with_facts s (close (size s) (fact_on k c d ∷ s.facts)))) (sym (tested ∙ stands_consistent (with_fact l k c d) (fact_on k c d ∷ s.facts) more_stands (size s) more_cells))
      where
        tested : not (clashing l k c d) ≡ is_consistent (with_fact l k c d)
        tested =
            same_test (clash_reflects l (stands_laws l s.facts r) k c d (omega arith) (omega arith) ((consistent_reflects l).holds (passes (is_consistent l) ok)))
            (consistent_reflects (with_fact l k c d)) (λ i. i) (λ i. i)

    -- and the rows with the fact stand for the facts of what it keeps
    pub learn_stands : RowsOf (with_fact l k c d) (close (size s) (fact_on k c d ∷ s.facts))
    learn_stands = stands_close (with_fact l k c d) (fact_on k c d ∷ s.facts) more_stands (size s) more_cells few

-- ---- a cell without facts

-- `unspoken`: the cell equals itself in the rows exactly if some fact is about it
pub unspoken_rows : (l : List ℕ) (facts : List Fact) → RowsOf l facts → (c : ℕ) → unspoken (cell c) facts ≡ not (has_fact l equals c c)
unspoken_rows l facts s c = same_test (r_unspoken (cell c) facts) (r_not (r_fact l equals c c)) out back
  where
    out : Unspoken (cell c) facts → ¬ FactsIn l equals c c
    out none f = (lawful facts (λ k p q. (p ≢ cell c) × (q ≢ cell c)) (both_laws (λ p. p ≢ cell c)) none (s.sound equals c c f)).0 refl

    w : Laws (FactsIn l)
    w = stands_laws l facts s

    back : ¬ FactsIn l equals c c → Unspoken (cell c) facts
    back n t m =
        let f = listed_in l facts s t m in (
          λ e. n (subst (λ (x : ℕ). FactsIn l equals x x) (ap number e ∙ number_cell c) (w.self_left t.kind (number t.left) (number t.right) f)),
          λ e. n (subst (λ (x : ℕ). FactsIn l equals x x) (ap number e ∙ number_cell c) (w.self_right t.kind (number t.left) (number t.right) f)),
        )

-- ---- the facts of a cell dropped, or the one that it had a value in their place

module _ (l : List ℕ) (facts : List Fact) (s : RowsOf l facts) (c : ℕ) (hc : c < 14) where
  -- `forget_facts`
  pub forget_stands : ClosedFacts facts → RowsOf (without_cell c l) (without (cell c) facts)
  forget_stands all = stands_of (without_cell c l) (without (cell c) facts) (λ t m. s.cells t (without_mem (cell c) facts t m).0) laws each sound
    where
      laws : Laws (FactsIn (without_cell c l))
      laws = alike_laws (FactsIn (without_cell c l)) _ (without_facts l c hc) (dropped_laws (FactsIn l) (stands_laws l facts s) (λ p. ¬ (p ≡ c)))

      each : Every (λ t. FactsIn (without_cell c l) t.kind (number t.left) (number t.right)) (without (cell c) facts)
      each t m =
          let (n, a, b) = without_mem (cell c) facts t m in
          let (_, p, q) = s.cells t n in
          (without_facts l c hc t.kind (number t.left) (number t.right)).1 (listed_in l facts s t n, (λ e. a (omega (arith, p.0)), λ e. b (omega (arith, q.0))))

      sound : (k p q : ℕ) → FactsIn (without_cell c l) k p q → Follows (without (cell c) facts) k (cell p) (cell q)
      sound k p q f =
          let (g, (a, b)) = (without_facts l c hc k p q).0 f in
          given (mem_without (cell c) facts (fact_on k p q) (all k (cell p) (cell q) (s.sound k p q g)) (λ e. a (omega arith)) (λ e. b (omega arith)))

  -- `had_value`
  pub had_stands : ClosedFacts facts → RowsOf (with_fact (without_cell c l) equals c c) (fact_on equals c c ∷ without (cell c) facts)
  had_stands all = stands_more (without_cell c l) (without (cell c) facts) (forget_stands all) equals c c (omega arith) hc hc

  -- ---- a cell taken out, of which there are no facts

  -- places by numbers
  raise_place : (p : ℕ) → raise (cell c) (cell p) ≡ cell (raise c p)
  unfolding raise
  raise_place p = refl

  raise_number : (p : ℕ) → cell 0 ≤ p → p ≢ cell c → raise c (number (lower (cell c) p)) ≡ number p
  raise_number p a n =
      let low = lower_least (cell c) p (omega arith) a in
      let e = sym (raise_place (number (lower (cell c) p))) ∙ ap (raise (cell c)) (cell_number_lem (lower (cell c) p) low) ∙ raise_lower (cell c) p n in
      omega arith

  lower_most : (p : ℕ) → p < cell 14 → lower (cell c) p < cell 14
  lower_most p b = cond_cases (λ (q : ℕ). q < cell 14) (r_lt (cell c) p) (λ a. omega arith) (λ a. b)

  -- `remove_cell`
  pub remove_stands : Unspoken (cell c) facts → RowsOf (lowered c l) (map (lower_fact (cell c)) facts)
  remove_stands none = stands_of (lowered c l) (map (lower_fact (cell c)) facts) cells laws each sound
    where
      cells : FactsOf 14 (map (lower_fact (cell c)) facts)
      cells t m =
          let (u, n, z) = Memᴰ.of_map (lower_fact (cell c)) facts m in
          let (k, p, q) = s.cells u n in
          subst (FactOf 14) z (k, (lower_least (cell c) u.left (omega arith) p.0, lower_most u.left p.1), (lower_least (cell c) u.right (omega arith) q.0, lower_most u.right q.1))

      laws : Laws (FactsIn (lowered c l))
      laws = alike_laws (FactsIn (lowered c l)) _ (lowered_facts l c hc) (renamed_laws (FactsIn l) (stands_laws l facts s) (raise c))

      each : Every (λ t. FactsIn (lowered c l) t.kind (number t.left) (number t.right)) (map (lower_fact (cell c)) facts)
      each t m =
          let (u, n, z) = Memᴰ.of_map (lower_fact (cell c)) facts m in
          let (_, p, q) = s.cells u n in
          let (a, b) = none u n in
          subst (λ (t : Fact). FactsIn (lowered c l) t.kind (number t.left) (number t.right)) z
          ((lowered_facts l c hc u.kind (number (lower (cell c) u.left)) (number (lower (cell c) u.right))
          ).1 (subst₂ (λ (x y : ℕ). FactsIn l u.kind x y) (sym (raise_number u.left p.0 a)) (sym (raise_number u.right q.0 b)) (listed_in l facts s u n)))

      sound : (k p q : ℕ) → FactsIn (lowered c l) k p q → Follows (map (lower_fact (cell c)) facts) k (cell p) (cell q)
      sound k p q f =
          subst₂ (λ (x y : ℕ). Follows (map (lower_fact (cell c)) facts) k x y) (back p) (back q)
          (lawful facts (λ k p q. Follows (map (lower_fact (cell c)) facts) k (lower (cell c) p) (lower (cell c) q)) (follows_laws (map (lower_fact (cell c)) facts) (lower (cell c)))
          (λ u m. given (Memᴰ.map (lower_fact (cell c)) m)) (s.sound k (raise c p) (raise c q) ((lowered_facts l c hc k p q).0 f)))
        where
          back : (p : ℕ) → lower (cell c) (cell (raise c p)) ≡ cell p
          back p = ap (lower (cell c)) (sym (raise_place p)) ∙ lower_raise (cell c) (cell p)
