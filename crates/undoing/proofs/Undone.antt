-- The rows before an operation of kinds 8 to 13 stand for the shapes before it.
use mathlib.Core.Bool.{Bool, true, false, not, cond}
use mathlib.Core.List.{List, [], ◌∷◌, map, map-id}
use mathlib.Core.Logic.{◌≢◌}
use mathlib.Core.Path.{◌≡◌, refl, ap, subst}
use Prim.Native.Nat.{ℕ, zero, suc, ◌+◌, ◌-◌, ◌≤◌, ◌<◌}
use native.Mathlib.Omega.{arith}
use Rattle.std.proofs.lemmas.Bool.Decides.{nat_tests}
use lib.Dec.{eqb}
use Rattle.lists.specs.List.{keep}
use Rattle.lists.proofs.List.{every_cons}
use Rattle.lists.proofs.Reflect.{Reflect, r_eq, cond_cases}
use Rattle.heap.specs.Place.{cell}
use Rattle.heap.specs.Value.{below, equals}
use Rattle.facts.specs.Facts.{FactOf, close}
use Rattle.facts.proofs.Closing.{close_cells}
use Rattle.shape.specs.Shape.{Shape, size}
use Rattle.backward.specs.Predecessors.{with_facts, learn, forget_facts, had_value, before_copy, before_compared}
use Rattle.backward.proofs.Bare.{map_keep}
use Rattle.backward.proofs.ClosedFacts.{ClosedFacts, close_closed}
use Rattle.backward.proofs.Tests.{without_mem}
use Rattle.factrows.specs.Rows.{with_fact, clashing, without_cell}
use Rattle.factrows.proofs.Predecessors.{learn_rows, learn_stands, forget_stands, had_stands}
use Rattle.factrows.proofs.RowsOf.{fact_on}
use Rattle.undoing.specs.Rowed.{Rowed, rowed, StandsFor, Settled, AllStandFor}
use Rattle.undoing.specs.Undone.{fact_kind, left_cell, right_cell, is_own, is_undone, rows_told, rows_undone, shapes_undone}
use Rattle.undoing.proofs.Cases.{not_own, undone_read, undone_own, undone_told, undone_written, undone_kept}
use Rattle.undoing.proofs.Rowed.{all_kept}

-- ---- one cell's facts

module _ (o : Rowed) (s : Shape) (h : StandsFor o s) (all : ClosedFacts s.facts) (c : ℕ) (hc : c < size s) where
  -- they go
  forgotten : StandsFor (rowed (without_cell c o.rows) o.shape) (forget_facts (cell c) s)
  forgotten =
      record {
        bare = h.bare;
        cells = h.cells;
        facts_of = λ t m. h.facts_of t (without_mem (cell c) s.facts t m).0;
        facts = forget_stands o.rows s.facts h.facts c (omega (arith, h.cells)) all;
      }

  -- that it had a value, in their place
  valued : StandsFor (rowed (with_fact (without_cell c o.rows) equals c c) o.shape) (had_value (cell c) s)
  valued =
      record {
        bare = h.bare;
        cells = h.cells;
        facts_of = every_cons (FactOf (size s)) (omega arith, (omega arith, omega arith), (omega arith, omega arith)) forgotten.facts_of;
        facts = had_stands o.rows s.facts h.facts c (omega (arith, h.cells)) all;
      }

-- ---- a fact is told

fact_kind_lem : (kind : ℕ) → fact_kind kind < 2
unfolding fact_kind
fact_kind_lem kind = grind (arith, nat_tests)

left_inside : (kind c d n : ℕ) → c < n → d < n → left_cell kind c d < n
unfolding left_cell
left_inside kind c d n hc hd = grind (arith, nat_tests)

right_inside : (kind c d n : ℕ) → c < n → d < n → right_cell kind c d < n
unfolding right_cell
right_inside kind c d n hc hd = grind (arith, nat_tests)

module _ (o : Rowed) (s : Shape) (h : Settled o s) (c d : ℕ) (hc : c < size s) (hd : d < size s) where
  abbrev l : List ℕ
  l = o.rows

  -- what is before, in rows
  abbrev Before : ℕ → List Shape → Type 0
  Before kind = AllStandFor (keep (is_undone kind c d l) (rowed (rows_undone kind c d l) o.shape))

  module _ (kind : ℕ) where
    -- what is learnt; the shape with the fact, closed; whether that is there
    abbrev learnt : List Shape
    learnt = learn (fact_kind kind) (cell (left_cell kind c d)) (cell (right_cell kind c d)) s

    abbrev told : Shape
    told = with_facts s (close (size s) (fact_on (fact_kind kind) (left_cell kind c d) (right_cell kind c d) ∷ s.facts))

    abbrev fits : Bool
    fits = not (clashing l (fact_kind kind) (left_cell kind c d) (right_cell kind c d))

    told_stands : StandsFor (rowed (rows_told kind c d l) o.shape) told
    told_stands =
        record {
          bare = h.stands.bare;
          cells = h.stands.cells;
          facts_of = close_cells (size s) (fact_on (fact_kind kind) (left_cell kind c d) (right_cell kind c d) ∷ s.facts);
          facts = learn_stands l s h.stands.facts h.stands.facts_of h.stands.cells (fact_kind kind) (left_cell kind c d) (right_cell kind c d) (fact_kind_lem kind) (left_inside kind c d (size s) hc hd) (right_inside kind c d (size s) hc hd);
        }

    told_closed : ClosedFacts told.facts
    told_closed =
        let a = left_inside kind c d (size s) hc hd in
        let b = right_inside kind c d (size s) hc hd in
        close_closed (size s) (fact_on (fact_kind kind) (left_cell kind c d) (right_cell kind c d) ∷ s.facts)
        (every_cons (FactOf (size s)) (fact_kind_lem kind, (omega arith, omega arith), (omega arith, omega arith)) h.stands.facts_of)

    learnt_rows : learnt ≡ keep fits told
    learnt_rows = learn_rows l s h.stands.facts h.stands.facts_of h.stands.cells (fact_kind kind) (left_cell kind c d) (right_cell kind c d) (fact_kind_lem kind) (left_inside kind c d (size s) hc hd) (right_inside kind c d (size s) hc hd) h.consistent

    module _ (n : kind ≢ 13) (other : is_own kind c d ≡ false) where
      -- and all facts stay
      kept : (9 < kind → c ≡ d) → Before kind learnt
      kept e =
          rw (learnt_rows, ← undone_told kind c d l n other, ← undone_kept kind c d l n other e)
          (all_kept fits (rowed (rows_told kind c d l) o.shape) told told_stands)

      -- and the written cell's facts go
      written : 9 < kind → c ≢ d → Before kind (map (forget_facts (cell c)) learnt)
      written b e =
          rw (learnt_rows, map_keep (forget_facts (cell c)) fits told, ← undone_told kind c d l n other, ← undone_written kind c d l n other b e)
          (all_kept fits (rowed (without_cell c (rows_told kind c d l)) o.shape) (forget_facts (cell c) told)
          (forgotten (rowed (rows_told kind c d l) o.shape) told told_stands told_closed c hc))

  -- ---- by kind

  -- tests
  tested : (kind : ℕ) → kind < 10 → Before kind (learnt kind)
  tested kind b = kept kind (omega arith) (not_own kind c d (λ a. absurd (omega arith))) (λ a. absurd (omega arith))

  copied : Before 10 (before_copy (cell c) (cell d) s)
  unfolding fact_kind left_cell right_cell
  copied = go (eqb (cell c) (cell d)) (r_eq (cell c) (cell d))
    where
      other : is_own 10 c d ≡ false
      other = not_own 10 c d (λ a. absurd (omega arith))

      go : (b : Bool) → Reflect (cell c ≡ cell d) b → Before 10 (map (λ t. cond b t (forget_facts (cell c) t)) (learn equals (cell c) (cell d) s))
      go true r = rw (map-id (learn equals (cell c) (cell d) s)) (kept 10 (omega arith) other (λ _. let e = r.holds tt in omega arith))
      go false r = written 10 (omega arith) other (omega arith) (λ e. r.tests (ap cell e))

  -- larger and smaller
  below_told : (kind : ℕ) → 10 < kind → fact_kind kind ≡ below
  unfolding fact_kind
  below_told kind a = grind (arith, nat_tests)

  compared : (kind : ℕ) → 10 < kind → kind < 13 → Before kind (before_compared (cell c) (cell d) (cell (left_cell kind c d)) (cell (right_cell kind c d)) s)
  compared kind a b = cond_cases (Before kind) (r_eq (cell c) (cell d)) one two
    where
      one : cell c ≡ cell d → Before kind (had_value (cell c) s ∷ [])
      one e = let (is, rows) = undone_own kind c d l (omega arith) a (omega arith) in rw (← is, ← rows) (valued o s h.stands h.closed c hc, tt)

      two : ¬ (cell c ≡ cell d) → Before kind (map (forget_facts (cell c)) (learn below (cell (left_cell kind c d)) (cell (right_cell kind c d)) s))
      two n =
          subst (λ (k : ℕ). Before kind (map (forget_facts (cell c)) (learn k (cell (left_cell kind c d)) (cell (right_cell kind c d)) s))) (below_told kind a)
          (written kind (omega arith) (not_own kind c d (λ _ e. n (ap cell e))) (omega arith) (λ e. n (ap cell e)))

  read_before : Before 13 (forget_facts (cell c) s ∷ [])
  read_before = let (is, rows) = undone_read 13 c d l refl in rw (← is, ← rows) (forgotten o s h.stands h.closed c hc, tt)

  -- the rows before, if there are any, stand for the shapes before
  pub undone_values : (kind : ℕ) → 8 ≤ kind → kind ≤ 13 → AllStandFor (keep (is_undone kind c d o.rows) (rowed (rows_undone kind c d o.rows) o.shape)) (shapes_undone kind (cell c) (cell d) s)
  unfolding shapes_undone fact_kind left_cell right_cell
  undone_values kind a b = subst (λ (k : ℕ). Before k (shapes_undone k (cell c) (cell d) s)) (omega arith) (go (kind - 8) (omega arith))
    where
      go : (j : ℕ) → j ≤ 5 → Before (8 + j) (shapes_undone (8 + j) (cell c) (cell d) s)
      go zero _ = tested 8 (omega arith)
      go (suc zero) _ = tested 9 (omega arith)
      go (suc (suc zero)) _ = copied
      go (suc (suc (suc zero))) _ = compared 11 (omega arith) (omega arith)
      go (suc (suc (suc (suc zero)))) _ = compared 12 (omega arith) (omega arith)
      go (suc (suc (suc (suc (suc zero))))) _ = read_before
      go (suc (suc (suc (suc (suc (suc j)))))) h = absurd (omega arith)
