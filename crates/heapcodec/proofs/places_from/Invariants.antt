-- The loop fills the table of the places.
use Prim.Native.Nat.{◌+◌}
use lib.ListN.{get_or}
use Rattle.lists.proofs.Range.{Filled}
use Rattle.place.specs.Place.{place_of}
use Rattle.heapcodec.proofs.places_from.Given as goal

abbrev pub invariant-loop-i : goal.invariant-loop-i
invariant-loop-i g l = Filled (λ j. place_of (get_or l.bytes (l.first + j) 0)) (place_of 0) g.row.N l.place-items l.i
