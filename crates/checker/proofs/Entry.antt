-- An entry as it is loaded: its array and the rows of its facts stand for its shape.
use mathlib.Core.Bool.{Bool, true, false, cond}
use mathlib.Core.List.{List, [], ◌∷◌, ◌++◌, map, append-nil}
use mathlib.Core.Path.{◌≡◌, refl, sym, ap, ap₂, ◌∙◌, subst}
use Prim.Native.Nat.{ℕ, ◌≤◌}
use native.Mathlib.Omega.{arith}
use lib.Dec.{eqb}
use lib.ListN.{replicate}
use Rattle.lists.specs.List.{concat_map, keep}
use Rattle.facts.specs.Facts.{FactsOf, close}
use Rattle.shape.specs.Shape.{Shape, size}
use Rattle.run.specs.Run.{Transition, Located}
use Rattle.backward.specs.Predecessors.{with_facts, settle, before, predecessors}
use Rattle.cover.specs.Cover.{predecessors_by}
use Rattle.factrows.specs.Listed.{listed}
use Rattle.factrows.specs.Rows.{is_consistent}
use Rattle.factrows.specs.RowsOf.{RowsOf}
use Rattle.factrows.proofs.RowsOf.{stands_closed}
use Rattle.heap.specs.Operation.{Op}
use Rattle.layout.specs.Entries.{located_at, EntryInRange}
use Rattle.layout.specs.Loading.{loaded_shape, entry_facts, loaded_facts}
use Rattle.layout.specs.ShapeArray.{shape_in}
use Rattle.layout.proofs.Facts.{facts_listed}
use Rattle.layout.proofs.Loaded.{loaded}
use Rattle.layout.proofs.Whole.{entry_whole}
use Rattle.undoing.specs.Rowed.{rowed, StandsFor, Settled}
use Rattle.undoing.proofs.Rowed.{settled_listed}
use Rattle.checker.specs.Checking.{located, Checked, ChecksAll}
use Rattle.checker.specs.declared.checked.Position.{Position}

module _ (bytes : List ℕ) (variables at : ℕ) (entry : EntryInRange bytes variables at) (few : variables ≤ 8) where
  abbrev shape : Shape
  shape = (located_at bytes variables at).shape

  -- its facts are those that its bytes list
  abbrev are_listed : shape.facts ≡ listed (entry_facts bytes variables at)
  are_listed = facts_listed bytes variables at (entry_whole bytes variables at entry few)

  facts_fourteen : FactsOf 14 shape.facts
  facts_fourteen t m = let (k, p, q) = entry.range.facts t m in (k, (p.0, omega (arith, p.1, entry.range.cells)), (q.0, omega (arith, q.1, entry.range.cells)))

  module _ (s rows : List ℕ) (s-is : s ≡ loaded_shape bytes variables at (replicate 28 0)) (rows_is : rows ≡ loaded_facts bytes variables at) where
    stands : RowsOf rows shape.facts
    stands = rw (rows_is, are_listed) (stands_closed (entry_facts bytes variables at) (rw are_listed at facts_fourteen))

    bare : with_facts shape [] ≡ shape_in variables s
    bare = sym (loaded bytes variables at s entry few s-is).shape

    -- with its facts closed
    abbrev pub whole : Shape
    whole = with_facts shape (close (size shape) shape.facts)

    known : (settle shape ≡ keep (is_consistent rows) whole) × (is_consistent rows ≡ true → Settled (rowed rows (with_facts shape [])) whole) × StandsFor (rowed rows (with_facts shape [])) shape
    known = settled_listed rows shape stands entry.range.facts (omega (arith, entry.range.cells))

    pub entry_stands : StandsFor (rowed rows (shape_in variables s)) shape
    entry_stands = subst (λ (t : Shape). StandsFor (rowed rows t) shape) bare known.2

    -- no cell is below itself: its predecessors are those of the closed shape
    pub entry_settled : is_consistent rows ≡ true → Settled (rowed rows (shape_in variables s)) whole
    entry_settled ok = subst (λ (t : Shape). Settled (rowed rows t) whole) bare (known.1 ok)

    pub entry_before : is_consistent rows ≡ true → (o : Op) → predecessors o shape ≡ before o whole
    entry_before ok o = ap (concat_map (before o)) (known.0 ∙ ap (λ (b : Bool). keep b whole) ok) ∙ append-nil (before o whole)

    -- what is checked for the closed shape is checked for its own
    pub entry_checked : is_consistent rows ≡ true → (ms : List Located) (from : ℕ) (o : Op) (t : Position) (g : Checked)
        → ((w : Shape) → Settled (rowed rows (shape_in variables s)) w → ChecksAll bytes ms (map (located from) (before o w)) t g)
        → ChecksAll bytes ms (map (located from) (predecessors o shape)) t g
    entry_checked ok ms from o t g h = subst (λ (ss : List Shape). ChecksAll bytes ms (map (located from) ss) t g) (sym (entry_before ok o)) (h whole (entry_settled ok))

    -- else it has none
    pub entry_none : is_consistent rows ≡ false → (o : Op) → predecessors o shape ≡ []
    entry_none fails o = ap (concat_map (before o)) (known.0 ∙ ap (λ (b : Bool). keep b whole) fails)

-- a shape without predecessors owes nothing
pub nothing_owed : (m : Located) → ((o : Op) → predecessors o m.shape ≡ []) → (ts : List Transition) → concat_map (predecessors_by m) ts ≡ []
nothing_owed m empty [] = refl
nothing_owed m empty (t ∷ ts) = ap₂ (λ (l r : List Located). l ++ r) by_one (nothing_owed m empty ts)
  where
    either : (b : Bool) → cond {A = List Located} b [] [] ≡ []
    either true = refl
    either false = refl

    by_one : predecessors_by m t ≡ []
    by_one = ap (λ (l : List Shape). cond (eqb t.to m.state) (map (λ s. record { state = t.from; shape = s }) l) []) (empty t.op) ∙ either (eqb t.to m.state)
