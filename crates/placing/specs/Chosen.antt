-- What the wanted choices give.
use Rattle.std.specs.Prelude.{cond, List, [], ℕ, eqb}
use Rattle.lists.specs.List.{keep}
use Rattle.heap.specs.Place.{nowhere}
use Rattle.place.specs.Place.{place_of, both_nowhere}
use Rattle.shape.specs.Shape.{Shape, var_at}
use Rattle.placing.specs.Choice.{put}
use Rattle.placing.specs.Retained.{changed, firsts}
use Rattle.placing.specs.Wanted.{fits_in, wanted_first, wanted_last}
use Rattle.placing.specs.declared.Wanted.{Wanted}

-- ---- the operand placed last

-- a where it is nowhere, else b
unfoldable pub last_operand : ℕ → ℕ → Shape → ℕ
last_operand a b s = cond (eqb (var_at s a) nowhere) a b

abbrev pub wanted_of_last : ℕ → ℕ → ℕ → Shape → Wanted
wanted_of_last kind a b s = wanted_last kind (eqb a b) s.links (place_of (var_at s a)) (place_of (var_at s b))

-- the predecessor by choice k of it
unfoldable pub last_of : ℕ → ℕ → ℕ → ℕ → Shape → ℕ → List Shape
last_of variables kind a b s k =
    keep (fits_in s.links (wanted_of_last kind a b s) k) (changed variables kind a b (put (last_operand a b s) s k))

-- ---- the operand placed first

abbrev pub wanted_of_first : ℕ → ℕ → Shape → Wanted
wanted_of_first a b s = wanted_first (eqb a b) (place_of (var_at s a)) (place_of (var_at s b))

-- a is placed by choice k, where both are nowhere
unfoldable pub put_first : ℕ → ℕ → Shape → ℕ → Shape
put_first a b s k = cond (both_nowhere (eqb a b) (var_at s a) (var_at s b)) (put a s k) s

-- the predecessors by choice k of it
unfoldable pub first_of : ℕ → ℕ → ℕ → ℕ → Shape → ℕ → List Shape
first_of variables kind a b s k = cond (fits_in s.links (wanted_of_first a b s) k) (firsts variables kind a b (put_first a b s k)) []
