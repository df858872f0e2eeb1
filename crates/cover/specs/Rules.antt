-- What breaks each rule of a cover. Document 02, Wish 2: "The test of one cover shall say what broke, and its callers pass that up: 1 wrong
-- state, 2 an image used twice, 3 a variable elsewhere, 4 a link that misses, 5 a shared path. The first in this order counts, and within
-- it the lowest cell or variable, which is also named; for 1 the name is 0, for 5 it is the higher of the two source cells, lowest such."
use Rattle.std.specs.Prelude.{List, ◌≢◌, ◌≡◌, ℕ, ◌<◌}
use Rattle.lists.specs.List.{◌∈◌}
use Rattle.heap.specs.Place.{nowhere, cell}
use Rattle.graph.specs.Graph.{Chain, Graph}
use Rattle.facts.specs.Facts.{Fact}
use Rattle.shape.specs.Shape.{shape_graph}
use Rattle.run.specs.Run.{Located}
use Rattle.cover.specs.Test.{image_map}

-- g is to embed in h by f
module _ (g h : Graph) (f : ℕ → ℕ) where
  -- "an image used twice": another cell has the image of cell i too
  abbrev pub ImageTwice : ℕ → Type 0
  ImageTwice i = (d : ℕ) × g.Cell (cell i) × g.Cell d × (cell i ≢ d) × (f (cell i) ≡ f d)

  -- "a variable elsewhere": variable v has a place, and in the other not the image of that place
  abbrev pub VariableElsewhere : ℕ → Type 0
  VariableElsewhere v = (g.var v ≢ nowhere) × (h.var v ≢ f (g.var v))

  -- "for a link from a to p, following links in the other from the image of a, at least one step, the first image, # or * met is the
  -- image of p", and what is strictly between
  pub record Path (a : ℕ) (between : List ℕ) : Type 0 where
    pub linked : g.link a ≢ nowhere
    pub chain : Chain h.link (f a) between (f (g.link a))
    pub no_image : (x d : ℕ) → x ∈ between → g.Cell d → x ≢ f d

  -- "a link that misses": cell i has a link, and there is no such path for it
  abbrev pub LinkMisses : ℕ → Type 0
  LinkMisses i = (g.link (cell i) ≢ nowhere) × ((between : List ℕ) → ¬ Path (cell i) between)

  -- "a shared path", by "the higher of the two source cells": a cell strictly between is used by the paths of cell i and of a lower cell
  abbrev pub SharedPath : ℕ → Type 0
  SharedPath i =
      (j : ℕ) × (xs : List ℕ) × (ys : List ℕ) × (x : ℕ) × (j < i) × Path (cell i) xs × Path (cell j) ys × (x ∈ xs) × (x ∈ ys)

  -- document 02, Wish 6, "named by its i": of the facts listed, one whose first cell is cell i does not hold of the images
  abbrev pub FactMissing : List Fact → ℕ → Type 0
  FactMissing facts i = (t : Fact) × (t ∈ facts) × ((t.left ≡ cell i) × (¬ h.fact t.kind (f t.left) (f t.right)))

-- the rule with a number is broken at a name, in a cover of o by the member m
pub data Breaks (m : Located) (images : List ℕ) (o : Located) : ℕ → ℕ → Type 0 where
  -- "1 wrong state", "for 1 the name is 0"
  wrong_state : m.state ≢ o.state → Breaks m images o 1 0
  -- "2 an image used twice"
  image_twice : (i : ℕ) → ImageTwice (shape_graph m.shape) (shape_graph o.shape) (image_map images) i → Breaks m images o 2 i
  -- "3 a variable elsewhere"
  variable_elsewhere : (v : ℕ) → VariableElsewhere (shape_graph m.shape) (shape_graph o.shape) (image_map images) v → Breaks m images o 3 v
  -- "4 a link that misses"
  link_misses : (i : ℕ) → LinkMisses (shape_graph m.shape) (shape_graph o.shape) (image_map images) i → Breaks m images o 4 i
  -- "5 a shared path"
  shared_path : (i : ℕ) → SharedPath (shape_graph m.shape) (shape_graph o.shape) (image_map images) i → Breaks m images o 5 i
  -- Wish 6: "each fact listed for a member must be among the closed facts of the covered shape (else rule 6 ..)"
  fact_missing : (i : ℕ) → FactMissing (shape_graph m.shape) (shape_graph o.shape) (image_map images) m.shape.facts i → Breaks m images o 6 i

-- "The first in this order counts, and within it the lowest cell or variable, which is also named": the rule r is broken at n, and
-- neither it at a lower name nor a rule before it
pub record First (Broken : ℕ → ℕ → Type 0) (r n : ℕ) : Type 0 where
  pub here : Broken r n
  pub lowest : (k : ℕ) → k < n → ¬ Broken r k
  pub earlier : (q : ℕ) → q < r → (k : ℕ) → ¬ Broken q k
