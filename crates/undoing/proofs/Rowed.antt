-- Shapes whose facts are kept apart, as rows: what is tested of them, which of them are settled, and lists of them.
use mathlib.Core.Bool.{Bool, true, false}
use mathlib.Core.List.Memᴰ
use mathlib.Core.List.{List, [], ◌∷◌, ◌++◌, map}
use mathlib.Core.Path.{◌≡◌, refl, sym, subst₂}
use Prim.Native.Nat.{ℕ, ◌≤◌, ◌<◌}
use native.Mathlib.Omega.{arith}
use borrow.Author.Tests.{le-ltb}
use Rattle.lists.specs.List.{Every, concat_map, keep}
use Rattle.lists.proofs.Reflect.{r_lt, same_test, cond_cases}
use Rattle.heap.specs.Place.{cell}
use Rattle.facts.specs.Facts.{Fact, Follows, FactsOf, close}
use Rattle.facts.proofs.Closing.{lawful, both_laws, close_cells, closure_reflects}
use Rattle.shape.specs.Shape.{Shape, size}
use Rattle.backward.specs.Predecessors.{with_facts, settle}
use Rattle.backward.proofs.Bare.{BareFrom}
use Rattle.backward.proofs.ClosedFacts.{close_closed}
use Rattle.cover.specs.Test.{closed_in}
use Rattle.factrows.specs.Rows.{FactsIn, is_consistent, cell_number, rows_test}
use Rattle.factrows.specs.RowsOf.{RowsOf}
use Rattle.factrows.proofs.Predecessors.{settle_rows}
use Rattle.factrows.proofs.Reading.{r_fact}
use Rattle.factrows.proofs.RowsOf.{stands_close}
use Rattle.undoing.specs.Rowed.{Rowed, rowed, StandsFor, Settled, AllStandFor}

-- ---- the test of closed facts

-- the place of a code's cell is the code, if that is a cell's; else the number is no cell's
cell_again : (p : ℕ) → cell 0 ≤ p → cell (cell_number p) ≡ p
cell_again p h = rw (le-ltb p 3 h) (omega arith)

cell_least : (p : ℕ) → cell_number p < 14 → cell 0 ≤ p
cell_least p = cond_cases (λ (n : ℕ). n < 14 → cell 0 ≤ p) (r_lt p 3) (λ a b. absurd (omega arith)) (λ a b. omega arith)

-- the rows tell the closed facts of the shape, at any places
pub rows_among : (o : Rowed) (s : Shape) → StandsFor o s → (k p q : ℕ) → rows_test o.rows k p q ≡ closed_in s k p q
unfolding rows_test
rows_among o s h k p q = same_test (r_fact o.rows k (cell_number p) (cell_number q)) (closure_reflects s.facts (size s) h.facts_of k p q) out back
  where
    out : FactsIn o.rows k (cell_number p) (cell_number q) → Follows s.facts k p q
    out f =
        let (_, (a, (b, _))) = f in
        subst₂ (λ (x y : ℕ). Follows s.facts k x y) (cell_again p (cell_least p a)) (cell_again q (cell_least q b)) (h.facts.sound k (cell_number p) (cell_number q) f)

    back : Follows s.facts k p q → FactsIn o.rows k (cell_number p) (cell_number q)
    back f =
        let (a, b) = lawful s.facts (λ k p q. (cell 0 ≤ p) × (cell 0 ≤ q)) (both_laws (λ p. cell 0 ≤ p)) (λ t m. let (_, x, y) = h.facts_of t m in (x.0, y.0)) f in
        h.facts.complete k (cell_number p) (cell_number q) (subst₂ (λ (x y : ℕ). Follows s.facts k x y) (sym (cell_again p a)) (sym (cell_again q b)) f)

-- ---- settled

module _ (l : List ℕ) (s : Shape) (r : RowsOf l s.facts) (h : FactsOf (size s) s.facts) (few : size s ≤ 14) where
  -- rows that stand for a shape's facts stand for those closed
  closed_stands : StandsFor (rowed l (with_facts s [])) (with_facts s (close (size s) s.facts))
  closed_stands = record { bare = refl; cells = few; facts_of = close_cells (size s) s.facts; facts = stands_close l s.facts r (size s) h few }

  -- the rows of a shape's facts, beside the bare shape, stand for it; `settle` keeps it, closed, exactly if they are consistent, and then they stand for
  -- what it keeps
  pub settled_listed : (settle s ≡ keep (is_consistent l) (with_facts s (close (size s) s.facts))) × (is_consistent l ≡ true → Settled (rowed l (with_facts s [])) (with_facts s (close (size s) s.facts))) × StandsFor (rowed l (with_facts s [])) s
  settled_listed = (
    settle_rows l s r h,
    λ ok. record { stands = closed_stands; closed = close_closed (size s) s.facts h; consistent = ok },
    record { bare = refl; cells = few; facts_of = h; facts = r },
  )

-- ---- lists

-- one or none
pub all_kept : (b : Bool) (o : Rowed) (s : Shape) → StandsFor o s → AllStandFor (keep b o) (keep b s)
all_kept true o s h = (h, tt)
all_kept false o s h = tt

-- those of one list, then those of another
pub all_append : (os os' : List Rowed) (ss ss' : List Shape) → AllStandFor os ss → AllStandFor os' ss' → AllStandFor (os ++ os') (ss ++ ss')
all_append [] os' [] ss' h h' = h'
all_append [] os' (s ∷ ss) ss' h h' = absurd h
all_append (o ∷ os) os' [] ss' h h' = absurd h
all_append (o ∷ os) os' (s ∷ ss) ss' h h' = (h.0, all_append os os' ss ss' h.1 h')

-- those for each member of a list
pub all_concat : {A : Type 0} (f : A → List Rowed) (g : A → List Shape) (xs : List A) → Every (λ x. AllStandFor (f x) (g x)) xs → AllStandFor (concat_map f xs) (concat_map g xs)
all_concat f g [] h = tt
all_concat f g (x ∷ xs) h = all_append (f x) (concat_map f xs) (g x) (concat_map g xs) (h x (Memᴰ.head refl)) (all_concat f g xs (λ y m. h y (Memᴰ.tail m)))

-- the same facts beside each of a list of bare shapes
module _ (l : List ℕ) (facts : List Fact) (r : RowsOf l facts) (n : ℕ) (h : FactsOf n facts) where
  pub rowed_stands : (t : Shape) → BareFrom n t → size t ≤ 14 → StandsFor (rowed l t) (with_facts t facts)
  rowed_stands t (none, more) few =
      record {
        bare = λ i. with_facts t (none i);
        cells = few;
        facts_of = λ u m. let (k, p, q) = h u m in (k, (p.0, omega (arith, p.1)), (q.0, omega (arith, q.1)));
        facts = r;
      }

  pub all_rowed : (ts : List Shape) → Every (BareFrom n) ts → Every (λ t. size t ≤ 14) ts → AllStandFor (map (rowed l) ts) (map (λ t. with_facts t facts) ts)
  all_rowed [] bare few = tt
  all_rowed (t ∷ ts) bare few = (rowed_stands t (bare t (Memᴰ.head refl)) (few t (Memᴰ.head refl)), all_rowed ts (λ u m. bare u (Memᴰ.tail m)) (λ u m. few u (Memᴰ.tail m)))
