-- Entries as they stand in a buffer that was read: in range, every number of them is one byte, but for the number of facts, which may be two.
use Rattle.std.specs.Prelude.{Bool, ◌&&◌, cond, List, [], ◌∷◌, map, ℕ, zero, suc, ◌+◌, ◌-◌, ◌*◌, ◌≤◌, ◌<◌, eqb, leb, ltb, length, get_or, take, drop}
use Rattle.facts.specs.Facts.{Fact}
use Rattle.shape.specs.Shape.{InRange}
use Rattle.run.specs.Run.{Located}
use Rattle.factrows.specs.Listed.{listed}

-- ---- facts, which files of version 2 have

-- the version of a file, its first number, which is one byte
abbrev pub version_of : List ℕ → ℕ
version_of bytes = get_or bytes 0 0

-- the number of facts that stands at a place, and where they begin
unfoldable pub fact_count : List ℕ → ℕ → ℕ
fact_count bytes at = let low = get_or bytes at 0 in cond (ltb low 128) low (low - 128 + get_or bytes (at + 1) 0 * 128)

unfoldable pub facts_first : List ℕ → ℕ → ℕ
facts_first bytes at = cond (ltb (get_or bytes at 0) 128) (at + 1) (at + 2)

-- their bytes, three each
abbrev pub fact_bytes : List ℕ → ℕ → List ℕ
fact_bytes bytes at = take (3 * fact_count bytes at) (drop (facts_first bytes at) bytes)

-- the facts whose number is at a place; none in version 1
unfoldable pub facts_from : List ℕ → ℕ → List Fact
facts_from bytes at = cond (eqb (version_of bytes) 2) (listed (fact_bytes bytes at)) []

-- the place after them
unfoldable pub facts_end : List ℕ → ℕ → ℕ
facts_end bytes at = cond (eqb (version_of bytes) 2) (facts_first bytes at + 3 * fact_count bytes at) at

-- ---- entries

-- the place after the links of the entry at a place
abbrev pub links_end : List ℕ → ℕ → ℕ → ℕ
links_end bytes variables at = at + 2 + variables + get_or bytes (at + 1) 0

-- the state and the shape whose first byte is at a place: state, n, the places of the variables, the links, the facts
abbrev pub located_at : List ℕ → ℕ → ℕ → Located
located_at bytes variables at =
    record {
      state = get_or bytes at 0;
      shape =
          record {
            vars = take variables (drop (at + 2) bytes);
            links = take (get_or bytes (at + 1) 0) (drop (at + 2 + variables) bytes);
            facts = facts_from bytes (links_end bytes variables at);
          };
    }

-- the place after the entry at a place
abbrev pub entry_end : List ℕ → ℕ → ℕ → ℕ
entry_end bytes variables at = facts_end bytes (links_end bytes variables at)

-- the entry at a place is whole and in range
pub record EntryInRange (bytes : List ℕ) (variables at : ℕ) : Type 0 where
  pub inside : links_end bytes variables at ≤ length bytes
  pub facts_inside : entry_end bytes variables at ≤ length bytes
  pub cells : get_or bytes (at + 1) 0 ≤ 12
  pub state : get_or bytes at 0 < 64
  pub range : InRange variables 12 (located_at bytes variables at).shape

-- The links of an entry of at most 12 cells at a place, and all ahead of them, are inside, its variables no more than the array of a shape has room
-- for. Its codes may be out of range.
unfoldable pub links_inside : List ℕ → ℕ → ℕ → Bool
links_inside bytes variables at = leb variables 9 && (leb (get_or bytes (at + 1) 0) 12 && leb (links_end bytes variables at) (length bytes))

-- and so are its facts: it stands whole
unfoldable pub is_whole : List ℕ → ℕ → ℕ → Bool
is_whole bytes variables at = links_inside bytes variables at && leb (entry_end bytes variables at) (length bytes)

-- what the test says
pub record Whole (bytes : List ℕ) (variables at : ℕ) : Type 0 where
  pub variables_most : variables ≤ 9
  pub cells : get_or bytes (at + 1) 0 ≤ 12
  pub inside : links_end bytes variables at ≤ length bytes
  pub facts_inside : entry_end bytes variables at ≤ length bytes

-- so many entries, one after the other
unfoldable pub entries_at : List ℕ → ℕ → ℕ → ℕ → List Located
entries_at bytes variables at zero = []
entries_at bytes variables at (suc left) = located_at bytes variables at ∷ entries_at bytes variables (entry_end bytes variables at) left

-- their first places
unfoldable pub places_at : List ℕ → ℕ → ℕ → ℕ → List ℕ
places_at bytes variables at zero = []
places_at bytes variables at (suc left) = at ∷ places_at bytes variables (entry_end bytes variables at) left

-- each of them is whole and in range
unfoldable pub EntriesIn : List ℕ → ℕ → ℕ → ℕ → Type 0
EntriesIn bytes variables at zero = at ≤ length bytes
EntriesIn bytes variables at (suc left) = EntryInRange bytes variables at × EntriesIn bytes variables (entry_end bytes variables at) left

-- the members of a certificate, by the table of their first places
abbrev pub members_at : List ℕ → ℕ → List ℕ → List Located
members_at bytes variables starts = map (located_at bytes variables) starts

-- the table is that of members in range
pub record Table (bytes : List ℕ) (variables : ℕ) (starts : List ℕ) : Type 0 where
  pub variables_some : 1 ≤ variables
  pub variables_most : variables ≤ 8
  pub count_most : length starts ≤ 512
  pub entry : (i : ℕ) → i < length starts → EntryInRange bytes variables (get_or starts i 0)
