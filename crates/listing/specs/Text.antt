-- The text of a listing, and its lines. Document 01, "Listings": "Each line ends with byte 10".
use Rattle.std.specs.Prelude.{cond, List, [], ◌∷◌, ◌++◌, ℕ, eqb}
use Rattle.lists.specs.List.{concat_map}
use Rattle.heap.specs.Operation.{Op, numbers_of}
use Rattle.lines.specs.Line.{line_text, line_of}
use Rattle.lines.specs.declared.Line.{Line}
use Rattle.lines.specs.declared.Line.TheVariants.{Perform, While, If, End, Mark, Other}
use Rattle.lines.specs.declared.Operation.{Operation}
use Rattle.listing.specs.Listing.{Test, same, other, any, Statement, perform, mark, while, if, Block, done, ◌⨾◌}

-- a last line without byte 10, unless it has no byte, is outside the grammar
abbrev pub last_line : List ℕ → List Line
last_line [] = []
last_line (c ∷ s) = Other ∷ []

-- the lines of a text whose first line goes on here; its bytes before are `begun`
unfoldable pub lines_from : List ℕ → List ℕ → List Line
lines_from begun [] = last_line begun
lines_from begun (c ∷ s) = cond (eqb c 10) (line_of begun ∷ lines_from [] s) (lines_from (begun ++ (c ∷ [])) s)

abbrev pub lines_of : List ℕ → List Line
lines_of text = lines_from [] text

-- the bytes of lines
abbrev pub text_of : List Line → List ℕ
text_of = concat_map (λ l. line_text l ++ (10 ∷ []))

-- kind and operands of an operation, and of a test, for which `any` has kind 0
abbrev pub operation_for : Op → Operation
operation_for o = let (kind, a, b) = numbers_of o in record { kind = kind; a = a; b = b }

abbrev pub operation_for_test : Test → Operation
operation_for_test (same a b) = record { kind = 1; a = a; b = b }
operation_for_test (other a b) = record { kind = 2; a = a; b = b }
operation_for_test any = record { kind = 0; a = 0; b = 0 }

-- the lines of a statement, and of a block
abbrev mutual
  pub lines_for : Statement → List Line
  lines_for (perform o) = Perform (operation_for o) ∷ []
  lines_for (mark k) = Mark k ∷ []
  lines_for (while t b) = While (operation_for_test t) ∷ (lines_in b ++ (End ∷ []))
  lines_for (if t b) = If (operation_for_test t) ∷ (lines_in b ++ (End ∷ []))

  pub lines_in : Block → List Line
  lines_in done = []
  lines_in (s ⨾ b) = lines_for s ++ lines_in b
