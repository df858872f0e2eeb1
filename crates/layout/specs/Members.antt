-- The members of a certificate by a table of the places where they start, whatever the table and the certificate hold.
use Rattle.std.specs.Prelude.{cond, List, [], map, ℕ}
use Rattle.run.specs.Run.{Located}
use Rattle.layout.specs.Entries.{located_at, is_whole}

-- no member: its state is not a byte, so that it covers nothing
abbrev pub no_member : Located
no_member = record { state = 256; shape = record { vars = []; links = []; facts = [] } }

-- the member whose first byte is at a place
abbrev pub member_at : List ℕ → ℕ → ℕ → Located
member_at cert variables start = cond (is_whole cert variables start) (located_at cert variables start) no_member

-- those at the places of a table
abbrev pub members_from : List ℕ → ℕ → List ℕ → List Located
members_from cert variables starts = map (member_at cert variables) starts
