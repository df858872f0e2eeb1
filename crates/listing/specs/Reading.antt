-- What a text is: a listing, or a refusal with its line. Document 02, Wish 4: "A line outside the grammar, an `end` with nothing open or one
-- missing (at the line after the last) gets 17, deeper nesting 18, more than 8 names or 64 states 19, at the first line, from 1, where any of
-- these falls, lowest number first".
use Rattle.std.specs.Prelude.{Bool, true, false, ◌||◌, cond, not, List, [], ◌∷◌, ℕ, zero, suc, eqb, ltb, length}
use Rattle.std.proofs.Math.Option.{Option, none, some}
use Rattle.lists.specs.List.{absent}
use Rattle.heap.specs.Operation.{Op, kind_of}
use Rattle.kinds.specs.Kinds.{from_kind}
use Rattle.lines.specs.declared.Line.{Line}
use Rattle.lines.specs.declared.Line.TheVariants.{Perform, While, If, End, Mark, Other}
use Rattle.lines.specs.declared.Operation.{Operation}
use Rattle.listing.specs.Listing.{Test, same, other, any, Statement, perform, mark, while, if, Block, done, ◌⨾◌}
use Rattle.listing.specs.Names.{meet_line, number_in, letter_in, block_by}
use Rattle.listing.specs.Text.{lines_of, text_of, lines_in}
use Rattle.listing.specs.Translation.{skip}

-- ---- refusals

-- What has been seen once so many lines are passed: the letters as first met, the k of the marks, how many `while` and `if` are open. Every line
-- makes one new state and ends in it, so the number of the lines passed is the number of the present state too.
pub record Seen : Type 0 where
  pub passed : ℕ
  pub names : List ℕ
  pub marks : List ℕ
  pub depth : ℕ

abbrev pub nothing_seen : Seen
nothing_seen = record { passed = 0; names = []; marks = []; depth = 0 }

-- the k of the marks, and how many are open, after one line more
abbrev pub marks_met : Line → List ℕ → List ℕ
marks_met (Perform o) marks = marks
marks_met (While t) marks = marks
marks_met (If t) marks = marks
marks_met End marks = marks
marks_met (Mark k) marks = k ∷ marks
marks_met Other marks = marks

abbrev pub depth_after : Line → ℕ → ℕ
depth_after (Perform o) n = n
depth_after (While t) n = suc n
depth_after (If t) n = suc n
depth_after End zero = zero
depth_after End (suc n) = n
depth_after (Mark k) n = n
depth_after Other n = n

-- one line more
abbrev pub see : Line → Seen → Seen
see l s =
    record {
      passed = suc s.passed;
      names = meet_line s.names l;
      marks = marks_met l s.marks;
      depth = depth_after l s.depth;
    }

-- "A line outside the grammar, an `end` with nothing open"; "`mark k`, [..] each k at most once"
abbrev pub is_misplaced : Line → Seen → Bool
is_misplaced (Perform o) s = false
is_misplaced (While t) s = false
is_misplaced (If t) s = false
is_misplaced End s = eqb s.depth 0
is_misplaced (Mark k) s = not (absent k s.marks)
is_misplaced Other s = true

-- "with at most 16 `while` and `if` open at once"
abbrev pub is_too_deep : Seen → Bool
is_too_deep s = ltb 16 s.depth

-- "more than 8 names or 64 states": state 0, and one for each line
abbrev pub is_too_much : Seen → Bool
is_too_much s = ltb 8 (length s.names) || ltb 64 (suc s.passed)

-- a refusal's number and its line, from 1
pub record Fault : Type 0 where
  pub number : ℕ
  pub line : ℕ

abbrev pub fault : ℕ → ℕ → Fault
fault number line = record { number = number; line = line }

-- "at the first line, from 1, where any of these falls, lowest number first"; "one missing (at the line after the last)"
unfoldable pub first_fault : List Line → Seen → Option Fault
first_fault [] s = cond (eqb s.depth 0) none (some (fault 17 (suc s.passed)))
first_fault (l ∷ ls) s =
    let here = suc s.passed in
    let later = first_fault ls (see l s) in
    cond (is_misplaced l s) (some (fault 17 here))
    (cond (is_too_deep (see l s)) (some (fault 18 here)) (cond (is_too_much (see l s)) (some (fault 19 here)) later))

-- ---- statements

-- the operation, or the test, that a kind and operands are
abbrev pub op_of : Operation → Op
op_of o = from_kind skip (λ k. k.op o.a o.b) (kind_of o.kind)

abbrev pub test_by_kind : ℕ → ℕ → ℕ → Test
test_by_kind zero a b = any
test_by_kind (suc zero) a b = same a b
test_by_kind (suc (suc k)) a b = other a b

abbrev pub test_of : Operation → Test
test_of o = test_by_kind o.kind o.a o.b

-- a statement ahead of the first block
abbrev pub ahead : Statement → List Block → List Block
ahead s [] = []
ahead s (b ∷ bs) = (s ⨾ b) ∷ bs

-- the first block, up to its `end`, made a statement ahead of the second
abbrev pub enclosed : (Block → Statement) → List Block → List Block
enclosed f [] = []
enclosed f (b ∷ bs) = ahead (f b) bs

-- one line ahead of the blocks that the lines after it are
abbrev pub with_line : Line → List Block → List Block
with_line (Perform o) bs = ahead (perform (op_of o)) bs
with_line (While t) bs = enclosed (while (test_of t)) bs
with_line (If t) bs = enclosed (if (test_of t)) bs
with_line End bs = done ∷ bs
with_line (Mark k) bs = ahead (mark k) bs
with_line Other bs = bs

-- The blocks that lines are: the statements up to the first `end` that closes none of them, those from there up to the next such `end`, and so
-- on; one block if each `end` closes a `while` or an `if`.
unfoldable pub blocks : List Line → List Block
blocks [] = done ∷ []
blocks (l ∷ ls) = with_line l (blocks ls)

abbrev pub first_block : List Block → Block
first_block [] = done
first_block (b ∷ bs) = b

-- the letters once all lines are met
abbrev pub meet_lines : List ℕ → List Line → List ℕ
meet_lines names [] = names
meet_lines names (l ∷ ls) = meet_lines (meet_line names l) ls

-- a listing: its letters as first met, and its statements, whose operands are 0 or the number of a letter
pub record Listing : Type 0 where
  pub names : List ℕ
  pub statements : Block

abbrev pub listing_of : List Line → Listing
listing_of ls = let names = meet_lines [] ls in record { names = names; statements = block_by (number_in names) (first_block (blocks ls)) }

-- a listing, or the refusal
pub data Reading : Type 0 where
  listed : Listing → Reading
  refused : Fault → Reading

abbrev pub unless : Option Fault → Listing → Reading
unless none l = listed l
unless (some f) l = refused f

-- what any list of bytes is
abbrev pub read : List ℕ → Reading
read text = unless (first_fault (lines_of text) nothing_seen) (listing_of (lines_of text))

-- the text of a listing
abbrev pub write : Listing → List ℕ
write l = text_of (lines_in (block_by (letter_in l.names) l.statements))
