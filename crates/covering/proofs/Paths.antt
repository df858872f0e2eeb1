-- The paths of a member's links, followed one after the other.
use mathlib.Core.Bool.{Bool, true, false, ◌&&◌, and-false}
use mathlib.Core.List.{List, ◌++◌}
use mathlib.Core.Logic.{◌≢◌, ◌⊎◌, inl, inr}
use mathlib.Core.Path.{◌≡◌, refl, sym, ◌∙◌}
use Prim.Native.Nat.{ℕ, suc, ◌+◌}
use native.Mathlib.Omega.{arith}
use borrow.Author.Tests.{eq-eqb, ne_eqb}
use lib.Dec.{eqb}
use lib.ListN.{length}
use Rattle.lists.specs.List.{disjoint}
use Rattle.heap.specs.Place.{nowhere, cell}
use Rattle.shape.specs.Shape.{Shape, link_at}
use Rattle.cover.specs.Lengths.{lengths_below}
use Rattle.cover.specs.Test.{image_map, stops, link_meets, between, between_below}
use Rattle.covering.specs.Images.{path_fits}
use Rattle.covering.specs.Marks.{Marks, end_from, path_from, Followed}
use Rattle.cover.proofs.Paths.{somewhere}

module _ (member covered : Shape) (images : List ℕ) (i : ℕ) where
  abbrev to : ℕ
  to = link_at member (cell i)

  abbrev from : ℕ
  from = image_map images (cell i)

  -- cell i has no link
  pub path_none : to ≡ nowhere → path_fits member covered images i ≡ true
  path_none z = rw (eq-eqb to nowhere z) refl

  pub link_none : to ≡ nowhere → link_meets member covered images i ≡ true
  link_none z = rw (eq-eqb to nowhere z) refl

  pub below_none : to ≡ nowhere → between_below member covered images (suc i) ≡ between_below member covered images i
  below_none z = rw (eq-eqb to nowhere z) refl

  pub length_none : to ≡ nowhere → lengths_below member (between member covered images) (suc i) ≡ lengths_below member (between member covered images) i
  length_none z = rw (eq-eqb to nowhere z) (omega arith)

  module _ (n : to ≢ nowhere) where
    pub link_some : link_meets member covered images i ≡ eqb (end_from covered.links images from) (image_map images to)
    link_some = rw (ne_eqb to nowhere n) refl

    below_some : between_below member covered images (suc i) ≡ path_from covered.links images from ++ between_below member covered images i
    below_some = rw (ne_eqb to nowhere n) refl

    fits_some : path_fits member covered images i
        ≡ eqb (end_from covered.links images from) (image_map images to)
        && disjoint (path_from covered.links images from) (between_below member covered images i)
    fits_some = rw (ne_eqb to nowhere n) refl

    length_some : lengths_below member (between member covered images) (suc i)
        ≡ suc (length (path_from covered.links images from)) + lengths_below member (between member covered images) i
    length_some = rw (ne_eqb to nowhere n) refl

    module _ (r steps : ℕ) (marks : List ℕ) (f : Followed covered.links images (between_below member covered images i) from r steps marks) where
      -- the links of the path are added to those of the lower cells
      pub path_counted : stops images r ≡ true
          → lengths_below member (between member covered images) (suc i) ≡ lengths_below member (between member covered images) i + steps
      path_counted s = omega (arith, length_some, f.counted s)

      pub path_good : r ≡ image_map images to → stops images r ≡ true
          → (path_fits member covered images i ≡ true) × Marks images (between_below member covered images (suc i)) marks
      path_good e s = (
        fits_some ∙ rw (eq-eqb (end_from covered.links images from) (image_map images to) (f.ends s ∙ e), f.unshared s) refl,
        rw below_some (f.marked s),
      )

      pub path_bad : (stops images r ≡ true → r ≢ image_map images to) → path_fits member covered images i ≡ false
      path_bad m = fits_some ∙ go (stops images r) refl
        where
          other : end_from covered.links images from ≢ image_map images to
              → eqb (end_from covered.links images from) (image_map images to)
              && disjoint (path_from covered.links images from) (between_below member covered images i) ≡ false
          other k = rw (ne_eqb (end_from covered.links images from) (image_map images to) k) refl

          lost : (end_from covered.links images from ≡ nowhere)
              ⊎ (disjoint (path_from covered.links images from) (between_below member covered images i) ≡ false)
              → eqb (end_from covered.links images from) (image_map images to)
              && disjoint (path_from covered.links images from) (between_below member covered images i) ≡ false
          lost (inl z) = other (λ y. somewhere images to n (sym y ∙ z))
          lost (inr z) = rw z (and-false (eqb (end_from covered.links images from) (image_map images to)))

          go : (b : Bool) → stops images r ≡ b → eqb (end_from covered.links images from) (image_map images to)
              && disjoint (path_from covered.links images from) (between_below member covered images i) ≡ false
          go true s = other (λ y. m s (sym (f.ends s) ∙ y))
          go false s = lost (f.lost s)
