-- The test of one variable.
use mathlib.Core.Bool.{true, false, or-true}
use mathlib.Core.List.{List}
use mathlib.Core.Logic.{◌≢◌}
use mathlib.Core.Path.{◌≡◌, refl, sym}
use Prim.Native.Nat.{ℕ, ◌+◌}
use borrow.Author.Tests.{eq-eqb, ne_eqb}
use lib.Dec.{eqb}
use lib.ListN.{get_or}
use Rattle.heap.specs.Place.{nowhere}
use Rattle.covering.specs.Images.{image_in, var_fits_in}

module _ (cert : List ℕ) (first : ℕ) (codes s : List ℕ) (i p : ℕ) (e : p ≡ get_or cert (first + i) 0) where
  pub unplaced : p ≡ nowhere → var_fits_in cert first codes s i ≡ true
  unplaced z = rw (← e) (rw (eq-eqb p nowhere z) refl)

  module _ (q : ℕ) (image : q ≡ image_in codes p) where
    pub at_image : q ≡ get_or s (i + 18) 0 → var_fits_in cert first codes s i ≡ true
    at_image z = rw (← e, ← image) (rw (eq-eqb (get_or s (i + 18) 0) q (sym z)) (or-true (eqb p nowhere)))

    pub elsewhere : p ≢ nowhere → q ≢ get_or s (i + 18) 0 → var_fits_in cert first codes s i ≡ false
    elsewhere n z = rw (← e, ← image) (rw (ne_eqb p nowhere n, ne_eqb (get_or s (i + 18) 0) q (λ y. z (sym y))) refl)
