-- What the kinds that speak of values, 8 to 13, retain and want: cells.
use mathlib.Core.Bool.{◌&&◌}
use mathlib.Core.List.{List}
use mathlib.Core.Path.{◌≡◌}
use Prim.Native.Nat.{ℕ, ◌≤◌, ◌<◌}
use native.Mathlib.Omega.{arith}
use Rattle.std.proofs.lemmas.Bool.Decides.{nat_tests}
use lib.Dec.{ltb}
use Rattle.heap.specs.Place.{dangling}
use Rattle.place.specs.declared.Place.{Place}
use Rattle.placing.specs.Retained.{retained}
use Rattle.placing.specs.Wanted.{any_cell, cell_beside, beside, wanted_one}
use Rattle.placing.specs.declared.Wanted.TheVariants.{Nothing}

pub retains_cells : (kind x y : ℕ) (links : List ℕ) → 5 < kind → (ltb dangling x && ltb dangling y) ≡ retained kind x y links
unfolding retained
retains_cells kind x y links h = grind (arith, nat_tests)

pub cell_none : (q : ℕ) → q ≤ 2 → Nothing ≡ cell_beside q
unfolding cell_beside
cell_none q h = grind (arith, nat_tests)

pub cell_any : (q : ℕ) → 2 < q → any_cell ≡ cell_beside q
unfolding cell_beside
cell_any q h = grind (arith, nat_tests)

pub beside_cells : (starting kind : ℕ) (links : List ℕ) (q : Place) → 4 ≤ kind → (kind ≡ starting → ⊥) → 5 < kind
    → cell_beside q.code ≡ beside starting kind links q
unfolding beside
beside_cells starting kind links q h e m = grind (arith, nat_tests)

pub one_cell : (kind : ℕ) → 5 < kind → any_cell ≡ wanted_one kind
unfolding wanted_one
one_cell kind m = grind (arith, nat_tests)
