-- Document 01, "Threads to pull on": "P marks the twelve that are theorems of the definitions, gathered as rows of one list with one theorem
-- for the list". After them two of document 02.
use Rattle.std.specs.Prelude.{List, [], ◌∷◌, ◌≡◌, ℕ, length}
use Rattle.std.proofs.Math.Option.{Option, none, some}
use Rattle.heap.specs.Operation.{Op, operation}
use Rattle.graph.specs.Graph.{Embeds}
use Rattle.shape.specs.Shape.{Shape, shape_graph}
use Rattle.backward.specs.Predecessors.{predecessors}
use Rattle.cover.specs.Test.{image_map}
use Rattle.number.specs.Number.{number_at, read_result}
use Rattle.format.specs.Parser.{refusal, broken_rule}
use Rattle.format.specs.Verdict.{verdict, accepted, refused}

-- job J with a kind: "state 0, new of variable 1, state 1; forbidden there: variable 1 at #", where the kind is 6
abbrev pub J : ℕ → List ℕ
J kind = 1 ∷ 1 ∷ 2 ∷ 0 ∷ 1 ∷ 0 ∷ kind ∷ 1 ∷ 0 ∷ 1 ∷ 1 ∷ 1 ∷ 0 ∷ 1 ∷ []

abbrev pub shape : List ℕ → List ℕ → Shape
shape vars links = record { vars = vars; links = links; facts = [] }

abbrev pub predecessors_named : Option Op → Shape → List Shape
predecessors_named none s = []
predecessors_named (some o) s = predecessors o s

-- the predecessors by kind and operands
abbrev pub predecessors_of : ℕ → ℕ → ℕ → Shape → List Shape
predecessors_of kind a b s = predecessors_named (operation (length s.vars) kind a b) s

-- "three cells, links from cell 0 to cell 2 and from 1 to 2, V = 1 and nothing placed"
abbrev pub two_links : Shape
two_links = shape (0 ∷ []) (5 ∷ 5 ∷ 0 ∷ [])

-- "two cells with a link from 0 to 1"
abbrev pub one_link : Shape
one_link = shape (0 ∷ []) (4 ∷ 0 ∷ [])

-- "four cells with links from 0 to 2, 1 to 2, 2 to 3"
abbrev pub four_cells : Shape
four_cells = shape (0 ∷ []) (5 ∷ 5 ∷ 6 ∷ 0 ∷ [])

-- "P1 J with `1 1 1 0 1 0`: accepted, counts 1, 1, 1." Document 02: "P1 prints `accepted bads 1 members 1 covers 1 links 0`".
abbrev pub P1 : Type 0
P1 = verdict (J 6) (1 ∷ 1 ∷ 1 ∷ 0 ∷ 1 ∷ 0 ∷ []) ≡ accepted (record { bads = 1; members = 1; covers = 1; links = 0 })

-- "P2 J with `1 1 1 0 2 0`: 9 at 5." Document 02: "`refused 9 at 5 rule 3 of 1` for P2".
abbrev pub P2 : Type 0
P2 = verdict (J 6) (1 ∷ 1 ∷ 1 ∷ 0 ∷ 2 ∷ 0 ∷ []) ≡ refused (broken_rule 3 1) 5

-- "P3 J with kind 3 for 6, and `1 1 1 0 1 0`: a predecessor needs a cover, so 6 at 6."
abbrev pub P3 : Type 0
P3 = verdict (J 3) (1 ∷ 1 ∷ 1 ∷ 0 ∷ 1 ∷ 0 ∷ []) ≡ refused (refusal 6) 6

-- "P4 the same job with `1 2 1 0 1 0 0 0 0`: 8 at 5."
abbrev pub P4 : Type 0
P4 = verdict (J 3) (1 ∷ 2 ∷ 1 ∷ 0 ∷ 1 ∷ 0 ∷ 0 ∷ 0 ∷ 0 ∷ []) ≡ refused (refusal 8) 5

-- "P5 kind 2, a = 1, b = 2, on the shape with no cells and nothing placed, V = 2: three predecessors (# and cell 0; cell 0 and #; cells 0
-- and 1)."
abbrev pub P5 : Type 0
P5 =
    predecessors_of 2 1 2 (shape (0 ∷ 0 ∷ []) [])
    ≡ shape (1 ∷ 3 ∷ []) (0 ∷ []) ∷ shape (3 ∷ 1 ∷ []) (0 ∷ []) ∷ shape (3 ∷ 4 ∷ []) (0 ∷ 0 ∷ []) ∷ []

-- "P6 kind 1: two."
abbrev pub P6 : Type 0
P6 = predecessors_of 1 1 2 (shape (0 ∷ 0 ∷ []) []) ≡ shape (1 ∷ 1 ∷ []) [] ∷ shape (3 ∷ 3 ∷ []) (0 ∷ []) ∷ []

-- "P7 kind 4, a = b = variable 1, which is at #, no cells: one predecessor, variable at cell 0, link to #."
abbrev pub P7 : Type 0
P7 = predecessors_of 4 1 1 (shape (1 ∷ []) []) ≡ shape (3 ∷ []) (1 ∷ []) ∷ []

-- "P8 kind 6, variable at cell 0 with link to cell 0: none."
abbrev pub P8 : Type 0
P8 = predecessors_of 6 1 0 (shape (3 ∷ []) (3 ∷ [])) ≡ []

-- "P9 with link to *: one, without cells."
abbrev pub P9 : Type 0
P9 = predecessors_of 6 1 0 (shape (3 ∷ []) (2 ∷ [])) ≡ shape (0 ∷ []) [] ∷ []

-- "by images 0, 1, 3: shared path, doesn't embed."
abbrev pub P10 : Type 0
P10 = ¬ Embeds (shape_graph two_links) (shape_graph four_cells) (image_map (0 ∷ 1 ∷ 3 ∷ []))

-- "into the same four by images 0, 3: embeds."
abbrev pub P11 : Type 0
P11 = Embeds (shape_graph one_link) (shape_graph four_cells) (image_map (0 ∷ 3 ∷ []))

-- "P12 bytes 128 0: 3 at 0."
abbrev pub P12 : Type 0
P12 = read_result (number_at (128 ∷ 0 ∷ []) 0) ≡ record { code = 3; values = 0 ∷ 0 ∷ [] }

-- Document 02, Wish 5: "With V = 2 and both at *, the predecessors become two." Variable 2 was at * already, or stood at the deleted cell.
abbrev pub TwoDangling : Type 0
TwoDangling = predecessors_of 7 1 0 (shape (2 ∷ 2 ∷ []) []) ≡ shape (3 ∷ 2 ∷ []) (0 ∷ []) ∷ shape (3 ∷ 3 ∷ []) (0 ∷ []) ∷ []

-- With V = 3, all at *, variable 2 deleted and a cell with a link to *: four; the link is forgotten, and variable 1 changes slowest.
abbrev pub ThreeDangling : Type 0
ThreeDangling =
    predecessors_of 7 2 0 (shape (2 ∷ 2 ∷ 2 ∷ []) (2 ∷ []))
    ≡ shape (2 ∷ 4 ∷ 2 ∷ []) (0 ∷ 0 ∷ [])
    ∷ shape (2 ∷ 4 ∷ 4 ∷ []) (0 ∷ 0 ∷ [])
    ∷ shape (4 ∷ 4 ∷ 2 ∷ []) (0 ∷ 0 ∷ [])
    ∷ shape (4 ∷ 4 ∷ 4 ∷ []) (0 ∷ 0 ∷ [])
    ∷ []

-- P11 as a certificate, for a job that forbids the four cells: the path from cell 0 by way of cell 2 to cell 3 has two links. (No row of the
-- document.)
abbrev pub two_links_followed : Type 0
two_links_followed =
    verdict (1 ∷ 1 ∷ 1 ∷ 0 ∷ 0 ∷ 1 ∷ 0 ∷ 4 ∷ 0 ∷ 5 ∷ 5 ∷ 6 ∷ 0 ∷ []) (1 ∷ 1 ∷ 0 ∷ 2 ∷ 0 ∷ 4 ∷ 0 ∷ 0 ∷ 0 ∷ 3 ∷ [])
    ≡ accepted (record { bads = 1; members = 1; covers = 1; links = 2 })

abbrev pub rows : List (Type 0)
rows = P1 ∷ P2 ∷ P3 ∷ P4 ∷ P5 ∷ P6 ∷ P7 ∷ P8 ∷ P9 ∷ P10 ∷ P11 ∷ P12 ∷ TwoDangling ∷ ThreeDangling ∷ []

-- all statements of a list
abbrev pub Conjunction : List (Type 0) → Type 0
Conjunction [] = Unit {0}
Conjunction (p ∷ ps) = p × Conjunction ps
