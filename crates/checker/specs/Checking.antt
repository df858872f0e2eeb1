-- Checking covers in turn: "In turn, each cover is taken as read or refused on the spot."
use Rattle.std.specs.Prelude.{List, [], ◌∷◌, map, ◌≡◌, ℕ, suc, ◌+◌, ◌*◌, ◌/◌, ◌%◌, ◌≤◌, length, Result, Ok, Err}
use Rattle.shape.specs.Shape.{Shape}
use Rattle.run.specs.Run.{Located}
use Rattle.factrows.specs.Rows.{no_facts, rows_test}
use Rattle.layout.specs.Entries.{version_of}
use Rattle.undoing.specs.Rowed.{Rowed}
use Rattle.format.specs.Certificate.{read_cover, read_cover_by}
use Rattle.format.specs.Parser.{Parsed, parsed, fault, Parser, ◌>>=◌, return, certificate_buffer}
use Rattle.verdict.specs.Verdict.{reason_of}
use Rattle.verdict.specs.declared.Refused.{Refused}
use Rattle.checker.specs.declared.checked.Position.{Position}

-- how many covers were checked, and how many links were followed for them
pub record Tally : Type 0 where
  pub covers : ℕ
  pub links : ℕ

abbrev pub no_covers : Tally
no_covers = record { covers = 0; links = 0 }

-- one cover more, with its links
abbrev pub one_more : Tally → ℕ → Tally
one_more n links = record { covers = suc n.covers; links = n.links + links }

-- takes covers, each as it is read and judged, and counts on
unfoldable pub take_all : List (Parser ℕ) → Tally → Parser Tally
take_all [] n = return n
take_all (p ∷ ps) n = do
  links ← p
  take_all ps (one_more n links)

-- what is counted up to a position
abbrev pub tally_of : Position → Tally
tally_of t = record { covers = t.counted / 4294967296; links = t.counted % 4294967296 }

-- how far the covers are checked: they are right up to a position, or one is refused
abbrev pub Checked : Type 0
Checked = Result Position Refused

-- that, as the answer of a parser
abbrev pub checked_of : Checked → Parsed Tally
checked_of (Ok t) = parsed (tally_of t) t.at
checked_of (Err r) = fault (reason_of r.refusal) r.place

-- a cover has at least one byte, and its links are a number of 16 bits
pub record Within (cert : List ℕ) (t : Position) : Type 0 where
  pub counted : (tally_of t).covers ≤ t.at
  pub linked : (tally_of t).links ≤ 65535 * (tally_of t).covers
  pub inside : t.at ≤ length cert
  pub fits : length cert ≤ 65536

-- what goes on is within the certificate
abbrev pub StaysWithin : List ℕ → Checked → Type 0
StaysWithin cert (Ok t) = Within cert t
StaysWithin cert (Err r) = Unit {0}

-- g is how far these covers are taken, from t on
abbrev pub Takes : List ℕ → List (Parser ℕ) → Position → Checked → Type 0
Takes cert ps t g = (checked_of g ≡ take_all ps (tally_of t) t.at) × StaysWithin cert g

-- a shape at a state
abbrev pub located : ℕ → Shape → Located
located state s = record { state = state; shape = s }

-- a cover of each, with members ms
abbrev pub covers_of : List ℕ → List Located → List Located → List (Parser ℕ)
covers_of cert ms os = map (read_cover (certificate_buffer cert) ms) os

-- a cover of a shape at a state whose facts are in rows, and of each of them
abbrev pub cover_rowed : List ℕ → List Located → ℕ → Rowed → Parser ℕ
cover_rowed cert ms state o = read_cover_by (certificate_buffer cert) (rows_test o.rows) ms (located state o.shape)

abbrev pub covers_rowed : List ℕ → List Located → ℕ → List Rowed → List (Parser ℕ)
covers_rowed cert ms state os = map (cover_rowed cert ms state) os

-- g is how far the covers of all these are checked, from t on
abbrev pub ChecksAll : List ℕ → List Located → List Located → Position → Checked → Type 0
ChecksAll cert ms os t g = Takes cert (covers_of cert ms os) t g

abbrev pub Checks : List ℕ → List Located → ℕ → List Rowed → Position → Checked → Type 0
Checks cert ms state os t g = Takes cert (covers_rowed cert ms state os) t g

-- a certificate of version 1 has no facts, so that rows beside it are empty
abbrev pub OwnVersion : List ℕ → List ℕ → Type 0
OwnVersion cert rows = (version_of cert ≡ 2 → ⊥) → rows ≡ no_facts
