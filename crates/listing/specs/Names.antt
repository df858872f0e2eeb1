-- The names of a listing. Document 01, "Listings": "Names are letters a to z, numbered from 1 as first met; V is their number, or 1 if none."
-- On a line an operand is 0 for `null` or 1 to 26 for a letter; in a transition it is 0 or the number of a name.
use Rattle.std.specs.Prelude.{cond, List, [], ◌∷◌, ◌++◌, ℕ, zero, suc, eqb, length, get_or}
use Rattle.lists.specs.List.{absent}
use Rattle.heap.specs.Operation.{Op, equal, different, assign, load, store, new, delete, equal_value, below_value, copy, larger, smaller, read}
use Rattle.lines.specs.declared.Line.{Line}
use Rattle.lines.specs.declared.Line.TheVariants.{Perform, While, If, End, Mark, Other}
use Rattle.listing.specs.Listing.{Test, same, other, any, Statement, perform, mark, while, if, Block, done, ◌⨾◌}

-- the letters met so far, once an operand is met
abbrev pub meet : List ℕ → ℕ → List ℕ
meet names zero = names
meet names (suc c) = cond (absent (suc c) names) (names ++ (suc c ∷ [])) names

-- once a line is met
abbrev pub meet_line : List ℕ → Line → List ℕ
meet_line names (Perform o) = meet (meet names o.a) o.b
meet_line names (While t) = meet (meet names t.a) t.b
meet_line names (If t) = meet (meet names t.a) t.b
meet_line names End = names
meet_line names (Mark k) = names
meet_line names Other = names

abbrev pub index_of : ℕ → List ℕ → ℕ
index_of x [] = 0
index_of x (y ∷ ys) = cond (eqb y x) 0 (suc (index_of x ys))

-- "numbered from 1 as first met": the number of an operand, and the operand of a number
abbrev pub number_in : List ℕ → ℕ → ℕ
number_in names zero = 0
number_in names (suc c) = suc (index_of (suc c) names)

abbrev pub letter_in : List ℕ → ℕ → ℕ
letter_in names zero = 0
letter_in names (suc i) = get_or names i 0

-- "V is their number, or 1 if none"
abbrev pub variables_for : List ℕ → ℕ
variables_for [] = 1
variables_for (x ∷ names) = suc (length names)

-- every operand changed by f
module _ (f : ℕ → ℕ) where
  abbrev pub op_by : Op → Op
  op_by (equal a b) = equal (f a) (f b)
  op_by (different a b) = different (f a) (f b)
  op_by (assign a b) = assign (f a) (f b)
  op_by (load a b) = load (f a) (f b)
  op_by (store a b) = store (f a) (f b)
  op_by (new a) = new (f a)
  op_by (delete a) = delete (f a)
  op_by (equal_value a b) = equal_value (f a) (f b)
  op_by (below_value a b) = below_value (f a) (f b)
  op_by (copy a b) = copy (f a) (f b)
  op_by (larger a b) = larger (f a) (f b)
  op_by (smaller a b) = smaller (f a) (f b)
  op_by (read a) = read (f a)

  abbrev pub test_by : Test → Test
  test_by (same a b) = same (f a) (f b)
  test_by (other a b) = other (f a) (f b)
  test_by any = any

  abbrev mutual
    pub statement_by : Statement → Statement
    statement_by (perform o) = perform (op_by o)
    statement_by (mark k) = mark k
    statement_by (while t b) = while (test_by t) (block_by b)
    statement_by (if t b) = if (test_by t) (block_by b)

    pub block_by : Block → Block
    block_by done = done
    block_by (s ⨾ b) = statement_by s ⨾ block_by b
