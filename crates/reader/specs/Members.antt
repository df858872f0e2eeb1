-- What reading the members of a certificate answers.
use Rattle.std.specs.Prelude.{Bool, ◌&&◌, List, [], ◌∷◌, ◌++◌, map, ◌≡◌, ℕ, zero, suc, ◌+◌, ◌%◌, ◌≤◌, eqb, length, get_or, take, drop, Result, Ok, Err}
use Rattle.lists.specs.List.{absent}
use Rattle.heap.specs.Place.{null}
use Rattle.format.specs.Certificate.{Member, without_places, read_member, read_members, test_start}
use Rattle.format.specs.JobBytes.{Between}
use Rattle.format.specs.Parser.{refusal, Parsed, parsed, fault, Parser, ◌>>=◌, ◌>>◌, return, here, require, each, Buffer, certificate_buffer, ranged}
use Rattle.layout.specs.Entries.{version_of, members_at, Table}
use Rattle.verdict.specs.Verdict.{reason_of}
use Rattle.verdict.specs.declared.Refused.{Refused}
use Rattle.reader.specs.declared.Members.{Members}

-- The number of variables and of states is that of a job, and every place of the certificate fits 16 bits.
pub record Bounds (cert : List ℕ) (variables states : ℕ) : Type 0 where
  pub variables_range : Between 1 8 variables
  pub states_most : states ≤ 64
  pub fits : length cert ≤ 65536

-- ---- the table of the members' first places

-- what comes after a value that was read; nothing after a refusal
abbrev pub places_after : {A : Type 0} → Parsed A → (ℕ → List ℕ) → List ℕ
places_after (parsed x next) rest = rest next
places_after (fault why place) rest = []

-- the places at which so many values are read, one after the other; where one is refused, its place is the last
unfoldable pub places_read : {A : Type 0} → ℕ → Parser A → ℕ → List ℕ
places_read zero p at = []
places_read (suc left) p at = at ∷ places_after (p at) (places_read left p)

abbrev pub places_of : Parsed (List ℕ) → List ℕ
places_of (parsed places next) = places
places_of (fault why place) = []

-- the places at which members of a certificate are read, for a job of a version; none where its own version or the number of members is refused
unfoldable pub member_places : Buffer → ℕ → ℕ → ℕ → List ℕ
member_places s version variables states =
    places_of
    ((do
      own ← ranged s 1 3
      require (eqb own version) (refusal 20) 0
      count ← ranged s 1 513
      first ← here
      return (places_read count (read_member s version variables states) first))
    0)

-- A table with places in its first slots, each less a multiple of 65,536, so that it fits 16 bits. What it held behind them stays.
abbrev pub with_places : List ℕ → List ℕ → List ℕ
with_places places before = map (λ at. at % 65536) places ++ drop (length places) before

-- ---- the members

-- the shape whose number of cells is at a place "is satisfied by the empty heap: it has no cells and no variable at #"
abbrev pub empty_at : List ℕ → ℕ → ℕ → Bool
empty_at bytes variables at = eqb (get_or bytes at 0) 0 && absent null (take variables (drop (at + 1) bytes))

-- members that were read, once each has passed the test of refusal 8
abbrev pub tested : ℕ → List Member → Parser (List Member)
tested start ms = do
  each (test_start start) ms
  return ms

-- the members of a certificate, all of them read and then tested
unfoldable pub read_tested : Buffer → ℕ → ℕ → ℕ → ℕ → Parser (List Member)
read_tested s version variables states start = do
  members ← read_members s version variables states
  tested start members

-- The certificate's first bytes are read as members that pass the test, and the table has their first places.
pub record MembersRead (cert : List ℕ) (version variables states start : ℕ) (table : List ℕ) (count next : ℕ) : Type 0 where
  pub members : List Member
  pub read : read_tested (certificate_buffer cert) version variables states start 0 ≡ parsed members next
  pub version_is : version ≡ version_of cert
  pub number : length members ≡ count
  pub number_range : Between 1 512 count
  pub inside : next ≤ length cert
  pub size : length table ≡ 512
  pub places_are : Bounds cert variables states → map (λ m. m.first) members ≡ take count table
  pub members_are : Bounds cert variables states → without_places members ≡ members_at cert variables (take count table)
  pub table_is : Bounds cert variables states → Table cert variables (take count table)

abbrev pub MembersAnswered : List ℕ → ℕ → ℕ → ℕ → ℕ → List ℕ → Result Members Refused → Type 0
MembersAnswered cert version variables states start table (Ok m) = MembersRead cert version variables states start table m.count m.end
MembersAnswered cert version variables states start table (Err r) =
    read_tested (certificate_buffer cert) version variables states start 0 ≡ fault (reason_of r.refusal) r.place
