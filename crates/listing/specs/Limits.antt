-- Listings within the limits: "at most 16 `while` and `if` open at once", 8 names, 64 states; names as first met, each mark once. Their texts are
-- those that are read as listings.
use Rattle.std.specs.Prelude.{[], ◌≡◌, ℕ, suc, ◌≤◌, max, length}
use Rattle.lists.specs.List.{Every, Distinct}
use Rattle.heap.specs.Operation.{Op, Allowed}
use Rattle.format.specs.JobBytes.{Between}
use Rattle.listing.specs.Listing.{Statement, perform, mark, while, if, Block, done, ◌⨾◌, marks_in}
use Rattle.listing.specs.Names.{letter_in, block_by}
use Rattle.listing.specs.Reading.{meet_lines, Listing}
use Rattle.listing.specs.Text.{operation_for, lines_in}
use Rattle.listing.specs.Translation.{test, states_of}

-- an operation of a listing with v variables: its kind is 1 to 7, and the table of kinds allows it
abbrev pub Listable : ℕ → Op → Type 0
Listable v o = Allowed v o × ((operation_for o).kind ≤ 7)

-- every operation and every test is one
abbrev mutual
  pub FitsOne : Statement → ℕ → Type 0
  FitsOne (perform o) v = Listable v o
  FitsOne (mark k) v = Unit {0}
  FitsOne (while t b) v = Allowed v (test t) × Fits b v
  FitsOne (if t b) v = Allowed v (test t) × Fits b v

  pub Fits : Block → ℕ → Type 0
  Fits done v = Unit {0}
  Fits (s ⨾ b) v = FitsOne s v × Fits b v

-- how many `while` and `if` are open at once
abbrev mutual
  pub depth_of : Statement → ℕ
  depth_of (perform o) = 0
  depth_of (mark k) = 0
  depth_of (while t b) = suc (depth_in b)
  depth_of (if t b) = suc (depth_in b)

  pub depth_in : Block → ℕ
  depth_in done = 0
  depth_in (s ⨾ b) = max (depth_of s) (depth_in b)

pub record WithinLimits (l : Listing) : Type 0 where
  pub letters : Every (Between 1 26) l.names
  pub first_met : l.names ≡ meet_lines [] (lines_in (block_by (letter_in l.names) l.statements))
  pub names : length l.names ≤ 8
  pub operands : Fits l.statements (length l.names)
  pub states : states_of l.statements ≤ 64
  pub depth : depth_in l.statements ≤ 16
  pub once : Distinct (marks_in l.statements)
  pub marks : Every (λ k. k ≤ 63) (marks_in l.statements)
