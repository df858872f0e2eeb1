-- The place type of the code and the codes of document 01.
use Rattle.std.specs.Prelude.{Bool, ◌&&◌, not, cond, List, map, ℕ, ◌+◌, eqb, ltb}
use Rattle.heap.specs.Place.{nowhere}
use Rattle.place.specs.declared.Place.{Place}

abbrev pub place_of : ℕ → Place
place_of p = record { code = p }

-- The constructor from a cell number: "cell i is 3 + i". A code is a byte, so cells above 252 have none.
abbrev pub cell_place : ℕ → Place
cell_place i = cond (ltb i 253) (place_of (3 + i)) (place_of nowhere)

abbrev pub codes : List Place → List ℕ
codes places = map (λ (p : Place). p.code) places

-- two variables, at x and y, are both nowhere; `same` says that they are one variable
unfoldable pub both_nowhere : Bool → ℕ → ℕ → Bool
both_nowhere same x y = eqb x nowhere && (eqb y nowhere && not same)
