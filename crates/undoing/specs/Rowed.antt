-- A shape whose facts are kept apart, as rows.
use Rattle.std.specs.Prelude.{true, List, [], ◌∷◌, ◌≡◌, ℕ, ◌≤◌}
use Rattle.facts.specs.Facts.{Listed, Follows, FactsOf}
use Rattle.shape.specs.Shape.{Shape, size}
use Rattle.backward.specs.Predecessors.{with_facts}
use Rattle.factrows.specs.Rows.{is_consistent}
use Rattle.factrows.specs.RowsOf.{RowsOf}

-- a shape without facts, and the rows of its facts
pub record Rowed : Type 0 where
  pub shape : Shape
  pub rows : List ℕ

abbrev pub rowed : List ℕ → Shape → Rowed
rowed rows s = record { shape = s; rows = rows }

-- they stand for the shape s
pub record StandsFor (o : Rowed) (s : Shape) : Type 0 where
  pub bare : o.shape ≡ with_facts s []
  pub cells : size s ≤ 14
  pub facts_of : FactsOf (size s) s.facts
  pub facts : RowsOf o.rows s.facts

-- its facts are closed, and none puts a cell below itself
pub record Settled (o : Rowed) (s : Shape) : Type 0 where
  pub stands : StandsFor o s
  pub closed : (k p q : ℕ) → Follows s.facts k p q → Listed s.facts k p q
  pub consistent : is_consistent o.rows ≡ true

-- so many of them stand for so many shapes, in order
abbrev pub AllStandFor : List Rowed → List Shape → Type 0
AllStandFor [] [] = Unit {0}
AllStandFor [] (s ∷ ss) = ⊥
AllStandFor (o ∷ os) [] = ⊥
AllStandFor (o ∷ os) (s ∷ ss) = StandsFor o s × AllStandFor os ss
