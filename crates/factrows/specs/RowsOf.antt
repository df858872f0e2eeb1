-- Rows that stand for a list of facts: they have exactly what follows from it.
use Rattle.std.specs.Prelude.{List, ℕ}
use Rattle.heap.specs.Place.{cell}
use Rattle.facts.specs.Facts.{Fact, FactsOf, Follows}
use Rattle.factrows.specs.Rows.{FactsIn}

pub record RowsOf (l : List ℕ) (facts : List Fact) : Type 0 where
  pub cells : FactsOf 14 facts
  pub sound : (k p q : ℕ) → FactsIn l k p q → Follows facts k (cell p) (cell q)
  pub complete : (k p q : ℕ) → Follows facts k (cell p) (cell q) → FactsIn l k p q
