-- Entries one after the other.
use mathlib.Core.List.{List}
use mathlib.Core.Path.{◌≡◌, refl, ap}
use Prim.Native.Nat.{ℕ, zero, suc}
use lib.ListN.{length}
use Rattle.layout.specs.Entries.{entry_end, entries_at}

pub entries_number : (bytes : List ℕ) (variables at n : ℕ) → length (entries_at bytes variables at n) ≡ n
unfolding entries_at
entries_number bytes variables at zero = refl
entries_number bytes variables at (suc n) = ap suc (entries_number bytes variables (entry_end bytes variables at) n)
