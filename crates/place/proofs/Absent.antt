-- A place is looked for: it is absent where no place equals it.
use mathlib.Core.Bool.{Bool, true, false, not, ◌||◌, ◌&&◌}
use mathlib.Core.List.{List, [], ◌∷◌}
use mathlib.Core.Path.{◌≡◌, refl}
use Prim.Native.Nat.{ℕ}
use lib.Dec.{eqb}
use Rattle.std.specs.List.{list_any}
use Rattle.lists.specs.List.{absent}

absent_any : (code : ℕ) (places : List ℕ) → not (list_any (λ p. eqb p code) places) ≡ absent code places
absent_any code [] = refl
absent_any code (p ∷ ps) = elim (eqb p code) as (λ b. not (b || list_any (λ q. eqb q code) ps) ≡ (not b) && absent code ps) [ true ↦ refl | false ↦ absent_any code ps ]

-- by the library's test for a member
pub none_there : (code : ℕ) (places : List ℕ) (found : Bool) → found ≡ list_any (λ p. eqb p code) places → not found ≡ absent code places
none_there code places found e = rw e (absent_any code places)
