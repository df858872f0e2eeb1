-- The loops that turn places to *: one place more.
use mathlib.Core.List.{List}
use mathlib.Core.Path.{◌≡◌, refl}
use Prim.Native.Nat.{ℕ, ◌+◌}
use native.Mathlib.Numerals.{add-one}
use borrow.Author.Tests.{eq-eqb, ne_eqb}
use lib.ListN.{get_or, set}
use Rattle.heap.specs.Place.{nowhere, dangling}
use Rattle.lists.proofs.Sweep.{swept, swept_at, swept_set}
use Rattle.place.specs.Place.{place_of}
use Rattle.place.specs.declared.Place.{Place}
use Rattle.stepper.specs.Table.{dangle_place}

module _ (y : ℕ) (xs l : List Place) (i : ℕ) (e : l ≡ swept (dangle_place y) xs i) where
  here : get_or l i (place_of nowhere) ≡ get_or xs i (place_of nowhere)
  here = rw e (swept_at (dangle_place y) xs i (place_of nowhere))

  pub hit : (get_or l i (place_of nowhere)).code ≡ y → set l i (place_of dangling) ≡ swept (dangle_place y) xs (i + 1)
  hit h =
      let value : place_of dangling ≡ dangle_place y (get_or xs i (place_of nowhere)) = rw (← here, eq-eqb (get_or l i (place_of nowhere)).code y h) refl in
      rw (add-one i, e) (swept_set (dangle_place y) xs i (place_of nowhere) (place_of dangling) value)

  pub miss : ((get_or l i (place_of nowhere)).code ≡ y → ⊥) → set l i (get_or l i (place_of nowhere)) ≡ swept (dangle_place y) xs (i + 1)
  miss h =
      let value : get_or xs i (place_of nowhere) ≡ dangle_place y (get_or xs i (place_of nowhere)) = rw (← here, ne_eqb (get_or l i (place_of nowhere)).code y h) refl in
      rw (add-one i, here, e) (swept_set (dangle_place y) xs i (place_of nowhere) (get_or xs i (place_of nowhere)) value)
