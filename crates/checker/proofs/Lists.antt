-- Lists of entries and members by what is left of them.
use mathlib.Core.List.{List, [], ◌∷◌}
use mathlib.Core.Path.{◌≡◌, refl}
use Prim.Native.Nat.{ℕ, suc, ◌+◌, ◌-◌, ◌≤◌, ◌<◌}
use native.Mathlib.Numerals.{add-one}
use native.Mathlib.Omega.{arith}
use Rattle.lists.specs.Range.{range}
use Rattle.layout.specs.Entries.{located_at, EntryInRange, entry_end, entries_at, EntriesIn}

-- i of n have been passed
module _ (n i : ℕ) (h : i < n) where
  left : n - i ≡ suc (n - (i + 1))
  left = omega arith

  pub range_next : range i (n - i) ≡ i ∷ range (i + 1) (n - (i + 1))
  range_next = rw (left, add-one i) refl

  module _ (bytes : List ℕ) (variables at : ℕ) where
    pub entries_next : entries_at bytes variables at (n - i) ≡ located_at bytes variables at ∷ entries_at bytes variables (entry_end bytes variables at) (n - (i + 1))
    unfolding entries_at
    entries_next = rw left refl

    pub entry_next : EntriesIn bytes variables at (n - i) → EntryInRange bytes variables at × EntriesIn bytes variables (entry_end bytes variables at) (n - (i + 1))
    unfolding EntriesIn
    entry_next e = rw left at e

module _ (n i : ℕ) (h : n ≤ i) where
  pub range_end : range i (n - i) ≡ []
  range_end = let none : n - i ≡ 0 = omega arith in rw none refl

  pub entries_end : (bytes : List ℕ) (variables at : ℕ) → entries_at bytes variables at (n - i) ≡ []
  unfolding entries_at
  entries_end bytes variables at = let none : n - i ≡ 0 = omega arith in rw none refl
