-- Worked cases of values in the cells (document 02, Wish 6), gathered as rows of one list.
use Rattle.std.specs.Prelude.{true, List, [], ◌∷◌, ◌≡◌, ℕ}
use Rattle.heap.specs.Place.{cell}
use Rattle.facts.specs.Facts.{Fact, follows?}
use Rattle.shape.specs.Shape.{Shape}
use Rattle.format.specs.Parser.{refusal}
use Rattle.format.specs.Verdict.{verdict, accepted, refused}
use Rattle.cases.specs.Rows.{J, predecessors_of}

-- cell i is below cell j; equal to it
abbrev pub cell_below : ℕ → ℕ → Fact
cell_below i j = record { kind = 0; left = cell i; right = cell j }

abbrev pub cell_equal : ℕ → ℕ → Fact
cell_equal i j = record { kind = 1; left = cell i; right = cell j }

abbrev pub valued : List ℕ → List ℕ → List Fact → Shape
valued vars links facts = record { vars = vars; links = links; facts = facts }

-- "closed under the usual laws of order and equality": 0 below 1 and 1 equal to 2, so 0 below 2
abbrev pub Exchanged : Type 0
Exchanged = follows? 3 (cell_below 0 1 ∷ cell_equal 1 2 ∷ []) 0 (cell 0) (cell 2) ≡ true

-- "a predecessor that then puts a cell below itself is dropped": kind 9 with both operands at one cell, and with one variable, nowhere
abbrev pub BelowItself : Type 0
BelowItself = predecessors_of 9 1 2 (valued (3 ∷ 3 ∷ []) (0 ∷ []) []) ≡ []

abbrev pub OneBelow : Type 0
OneBelow = predecessors_of 9 1 1 (valued (0 ∷ []) [] []) ≡ []

-- a test adds its fact, and all that follows
abbrev pub TestAddsFact : Type 0
TestAddsFact =
    predecessors_of 9 1 2 (valued (3 ∷ 4 ∷ []) (0 ∷ 0 ∷ []) []) ≡ valued (3 ∷ 4 ∷ []) (0 ∷ 0 ∷ []) (cell_below 0 1 ∷ cell_equal 0 0 ∷ cell_equal 1 1 ∷ []) ∷ []

-- "dropped, before any fact goes": what was copied from cell 1 to cell 0 can't be below it
abbrev pub CopiedBelow : Type 0
CopiedBelow = predecessors_of 10 1 2 (valued (3 ∷ 4 ∷ []) (0 ∷ 0 ∷ []) (cell_below 0 1 ∷ [])) ≡ []

-- "the written cell's facts go": of a copy there is left that the other cell had a value; of a smaller value too
abbrev pub Copied : Type 0
Copied = predecessors_of 10 1 2 (valued (3 ∷ 4 ∷ []) (0 ∷ 0 ∷ []) (cell_equal 0 1 ∷ [])) ≡ valued (3 ∷ 4 ∷ []) (0 ∷ 0 ∷ []) (cell_equal 1 1 ∷ []) ∷ []

abbrev pub Smaller : Type 0
Smaller = predecessors_of 12 1 2 (valued (3 ∷ 4 ∷ []) (0 ∷ 0 ∷ []) []) ≡ valued (3 ∷ 4 ∷ []) (0 ∷ 0 ∷ []) (cell_equal 1 1 ∷ []) ∷ []

-- "larger and smaller add no other fact and put the one that it had a value in place of that cell's facts", where both name one cell
abbrev pub LargerOfOne : Type 0
LargerOfOne =
    predecessors_of 11 1 1 (valued (3 ∷ []) (0 ∷ 0 ∷ []) (cell_below 0 1 ∷ [])) ≡ valued (3 ∷ []) (0 ∷ 0 ∷ []) (cell_equal 0 0 ∷ cell_equal 1 1 ∷ []) ∷ []

-- "A cell with any fact can't come from new"
abbrev pub NewWithFact : Type 0
NewWithFact = predecessors_of 6 1 0 (valued (3 ∷ []) (0 ∷ []) (cell_equal 0 0 ∷ [])) ≡ []

-- "A job and a certificate of different versions get 20"
abbrev pub Versions : Type 0
Versions = verdict (J 6) (2 ∷ 1 ∷ 1 ∷ 0 ∷ 1 ∷ 0 ∷ 0 ∷ []) ≡ refused (refusal 20) 0

-- the job of P1 that forbids a cell with a value, in version 2, and a certificate that says so too
abbrev pub valued_job : List ℕ
valued_job = 2 ∷ 1 ∷ 2 ∷ 0 ∷ 1 ∷ 0 ∷ 6 ∷ 1 ∷ 0 ∷ 1 ∷ 1 ∷ 1 ∷ 1 ∷ 3 ∷ 0 ∷ 1 ∷ 1 ∷ 0 ∷ 0 ∷ []

abbrev pub Accepted : Type 0
Accepted =
    verdict valued_job (2 ∷ 1 ∷ 1 ∷ 1 ∷ 3 ∷ 0 ∷ 1 ∷ 1 ∷ 0 ∷ 0 ∷ 0 ∷ 0 ∷ []) ≡ accepted (record { bads = 1; members = 1; covers = 1; links = 0 })

-- "strictly rising (else 4 or 7 at its j)"
abbrev pub Unordered : Type 0
Unordered = verdict valued_job (2 ∷ 1 ∷ 1 ∷ 1 ∷ 3 ∷ 0 ∷ 2 ∷ 1 ∷ 0 ∷ 0 ∷ 1 ∷ 0 ∷ 0 ∷ 0 ∷ 0 ∷ []) ≡ refused (refusal 7) 12

abbrev pub value_rows : List (Type 0)
value_rows =
    Exchanged ∷ BelowItself ∷ OneBelow ∷ TestAddsFact ∷ CopiedBelow ∷ Copied ∷ Smaller ∷ LargerOfOne ∷ NewWithFact ∷ Versions ∷ Accepted ∷ Unordered ∷ []
