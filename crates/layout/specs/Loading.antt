-- Entries loaded into the array of a shape under work (layout/specs/ShapeArray.antt).
use Rattle.std.specs.Prelude.{Bool, ◌&&◌, cond, List, [], ℕ, ◌+◌, ◌-◌, eqb, leb, length, get_or, drop, set}
use Rattle.std.proofs.Math.Seq.{paste}
use Rattle.heap.specs.Place.{null}
use Rattle.factrows.specs.Listed.{closed}
use Rattle.layout.specs.Entries.{version_of, facts_first, fact_bytes, links_end, links_inside, entry_end, is_whole}

-- The most codes that an entry in range has, 8 of variables ahead of its first link and 12 of links from it on, are inside the buffer.
unfoldable pub most_inside : List ℕ → ℕ → ℕ → Bool
most_inside bytes variables links = leb variables 8 && (leb 8 links && leb (links + 12) (length bytes))

-- v codes ahead of the first link go to the slots up to the last variable's, and then l codes from the link on to the slots of links
abbrev pub copied : List ℕ → ℕ → ℕ → ℕ → ℕ → List ℕ → List ℕ
copied bytes variables links v l s = paste (paste s (18 + variables - v) (drop (links - v) bytes) v) 3 (drop links bytes) l

-- the most codes that an entry has, where they are inside; else those of this entry
unfoldable pub loaded_codes : List ℕ → ℕ → ℕ → ℕ → List ℕ → List ℕ
loaded_codes bytes variables links n s =
    cond (most_inside bytes variables links) (copied bytes variables links 8 12 s) (copied bytes variables links variables n s)

-- The array with the shape of the entry at a place: the places of its variables and of its links, # for null, and the number of its cells. The slots
-- above the variables stay, and all of them where its links are not inside.
abbrev pub loaded_shape : List ℕ → ℕ → ℕ → List ℕ → List ℕ
loaded_shape bytes variables at s =
    let n = get_or bytes (at + 1) 0 in
    cond (links_inside bytes variables at) (set (set (loaded_codes bytes variables (at + 2 + variables) n s) 17 null) 0 n) s

-- The bytes of its facts; none in version 1, and where the entry is not whole.
unfoldable pub entry_facts : List ℕ → ℕ → ℕ → List ℕ
entry_facts bytes variables at =
    cond (is_whole bytes variables at && eqb (version_of bytes) 2) (fact_bytes bytes (links_end bytes variables at)) []

-- Where they stand, from one place up to another: from their first byte up to the entry's end, also where it lists none; from 0 up to 0 in version 1, and where
-- the entry is not whole.
unfoldable pub span_first : List ℕ → ℕ → ℕ → ℕ
span_first bytes variables at =
    cond (is_whole bytes variables at && eqb (version_of bytes) 2) (facts_first bytes (links_end bytes variables at)) 0

unfoldable pub span_end : List ℕ → ℕ → ℕ → ℕ
span_end bytes variables at = cond (is_whole bytes variables at && eqb (version_of bytes) 2) (entry_end bytes variables at) 0

-- The rows of its facts, closed, whatever they held.
abbrev pub loaded_facts : List ℕ → ℕ → ℕ → List ℕ
loaded_facts bytes variables at = closed (entry_facts bytes variables at)
