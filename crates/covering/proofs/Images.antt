-- The map of places that an array of images makes.
use mathlib.Core.Bool.{true, cond}
use mathlib.Core.List.{List}
use mathlib.Core.Path.{◌≡◌, refl, sym, ap, ◌∙◌}
use Prim.Native.Nat.{ℕ, zero, suc, ◌+◌, ◌≤◌, ◌<◌}
use native.Mathlib.Decide.{dec_lt}
use native.Mathlib.Omega.{arith}
use borrow.Author.Tests.{lt-ltb, le-ltb}
use lib.Dec.{ltb}
use lib.ListN.{get_or, get_or-eq_default}
use Rattle.lists.proofs.Reflect.{is_true}
use Rattle.heap.specs.Place.{cell}
use Rattle.cover.specs.Test.{image_map, stops}
use Rattle.cover.proofs.Paths.{r_stops}
use Rattle.coverreader.specs.Images.{images_in, ImageCodes}
use Rattle.coverreader.proofs.Images.{images_length, image_at}
use Rattle.covering.specs.Images.{image_in}

module _ (count n : ℕ) (codes : List ℕ) (m : ImageCodes count n codes) where
  -- a cell without an image
  no_image : (i : ℕ) → count ≤ i → get_or (images_in count codes) i 0 ≡ 0
  no_image i b = get_or-eq_default (images_in count codes) 0 (omega (arith, images_length count n codes m))

  pub image_beyond : (i : ℕ) → 12 ≤ i → get_or (images_in count codes) i 0 ≡ 0
  image_beyond i b = no_image i (omega (arith, m.few))

  -- a cell that a member may have
  pub image_coded : (i : ℕ) → i < 12 → get_or codes (i + 3) 0 ≡ cell (get_or (images_in count codes) i 0)
  image_coded i b = go (dec_lt i count)
    where
      go : Dec (i < count) → get_or codes (i + 3) 0 ≡ cell (get_or (images_in count codes) i 0)
      go (yes c) = sym (image_at count n codes m i c)
      go (no c) = m.rest i (omega arith) b ∙ sym (ap cell (no_image i (omega arith)))

  -- the array is the map of places
  pub image_of : (p : ℕ) → image_in codes p ≡ image_map (images_in count codes) p
  unfolding image_in
  image_of zero = m.nowhere_fixed
  image_of (suc zero) = m.null_fixed
  image_of (suc (suc zero)) = m.dangling_fixed
  image_of (suc (suc (suc i))) = go (dec_lt i 12)
    where
      swap : i + 3 ≡ cell i
      swap = omega arith

      go : Dec (i < 12) → cond (ltb (cell i) 15) (get_or codes (cell i) 0) (cell 0) ≡ cell (get_or (images_in count codes) i 0)
      go (yes b) = rw (lt-ltb (cell i) 15 (omega arith)) (rw swap at (image_coded i b))
      go (no b) = rw (le-ltb (cell i) 15 (omega arith)) (sym (ap cell (image_beyond i (omega arith))))

  -- the image of a place that the member has is an end
  pub image_stops : (p : ℕ) → p < cell count → stops (images_in count codes) (image_in codes p) ≡ true
  image_stops p b = rw (image_of p) (go p b)
    where
      go : (p : ℕ) → p < cell count → stops (images_in count codes) (image_map (images_in count codes) p) ≡ true
      go zero b = refl
      go (suc zero) b = refl
      go (suc (suc zero)) b = refl
      go (suc (suc (suc i))) b =
          is_true (stops (images_in count codes) (cell (get_or (images_in count codes) i 0)))
          ((r_stops (images_in count codes) (cell (get_or (images_in count codes) i 0))).tests (λ _. (i, omega (arith, images_length count n codes m), refl)))

pub image_read : (codes : List ℕ) (p : ℕ) → p < 15 → image_in codes p ≡ get_or codes p 0
unfolding image_in
image_read codes p b = rw (lt-ltb p 15 b) refl

pub image_past : (codes : List ℕ) (p : ℕ) → 15 ≤ p → image_in codes p ≡ cell 0
unfolding image_in
image_past codes p b = rw (le-ltb p 15 b) refl
