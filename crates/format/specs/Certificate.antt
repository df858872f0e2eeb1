-- Certificates: members, then covers.
use Rattle.std.specs.Prelude.{Bool, ◌&&◌, not, List, map, ℕ, eqb}
use Rattle.std.proofs.Math.ListN.{get_elem?}
use Rattle.shape.specs.Shape.{size}
use Rattle.run.specs.Run.{Located}
use Rattle.cover.specs.Cover.{by_empty}
use Rattle.cover.specs.Test.{closed_in, Answer, holds, broken, answer_by, links_followed}
use Rattle.format.specs.Parser.{refusal, broken_rule, parsed, fault, Parser, ◌>>=◌, ◌>>◌, return, here, require, many, Buffer, read_as, ranged}
use Rattle.format.specs.Job.{read_located}

-- a member with the place of its first byte
pub record Member : Type 0 where
  pub first : ℕ
  pub located : Located

abbrev pub without_places : List Member → List Located
without_places = map (λ m. m.located)

-- "A member at the start state is satisfied by the empty heap"
abbrev pub at_start : ℕ → Located → Bool
at_start start m = eqb m.state start && by_empty m.shape

-- "8. A member at the start state is satisfied by the empty heap [..] (the member's first byte)."
abbrev pub test_start : ℕ → Member → Parser (Unit {0})
test_start start m = require (not (at_start start m.located)) (refusal 8) m.first

-- "9. A cover that reads doesn't hold (the cover's first byte)." One that holds answers the links followed.
abbrev pub judge : Answer → ℕ → ℕ → Parser ℕ
judge holds links first at = parsed links at
judge (broken rule name) links first at = fault (broken_rule rule name) first

module _ (s : Buffer) where
  unfoldable pub read_member : ℕ → ℕ → ℕ → Parser Member
  read_member version variables states = do
    first ← here
    located ← read_located version s variables states
    return (record { first = first; located = located })

  -- "Certificate: version 1; N 1..512; N members (state, shape); then covers." Document 02, Wish 6: "A job and a certificate of different versions
  -- get 20, after 5 and before anything in the certificate past its version number."
  unfoldable pub read_members : ℕ → ℕ → ℕ → Parser (List Member)
  read_members version variables states = do
    own ← ranged s 1 3
    require (eqb own version) (refusal 20) 0
    count ← ranged s 1 513
    many count (read_member version variables states)

  -- "A cover is a member number below N and one image for each of its cells, below the number of cells of the covered shape."
  -- Its value is the number of links followed. A test tells the closed facts of the covered shape.
  unfoldable pub read_cover_by : (ℕ → ℕ → ℕ → Bool) → List Located → Located → Parser ℕ
  read_cover_by among members covered = do
    first ← here
    member ← read_as s (get_elem? members)
    images ← many (size member.shape) (ranged s 0 (size covered.shape))
    judge (answer_by among member images covered) (links_followed member.shape covered.shape images) first

  abbrev pub read_cover : List Located → Located → Parser ℕ
  read_cover members covered = read_cover_by (closed_in covered.shape) members covered
