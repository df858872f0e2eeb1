-- Images in an array.
use mathlib.Core.List.{List, [], ◌∷◌, map}
use mathlib.Core.Path.{◌≡◌, refl, ap, ◌∙◌}
use Prim.Native.Nat.{ℕ, zero, suc, ◌+◌, ◌-◌, ◌≤◌, ◌<◌}
use native.Mathlib.Omega.{arith}
use lib.ListN.{length, get_or, take, drop, length-map, length-take, length-drop, replicate, get_or-replicate}
use lib.Seq.{get_or-take, get_or-drop}
use Rattle.heap.specs.Place.{cell}
use Rattle.coverreader.specs.Images.{images_in, ImageCodes, no_images}

get_or_sub : (l : List ℕ) (i : ℕ) → get_or (map (λ p. p - 3) l) i 0 ≡ get_or l i 0 - 3
get_or_sub [] i = refl
get_or_sub (x ∷ xs) zero = refl
get_or_sub (x ∷ xs) (suc i) = get_or_sub xs i

module _ (count n : ℕ) (codes : List ℕ) (m : ImageCodes count n codes) where
  pub images_length : length (images_in count codes) ≡ count
  images_length = simp (length-map, length-take, length-drop) (omega (arith, m.room, m.few))

  pub image_at : (i : ℕ) → i < count → cell (get_or (images_in count codes) i 0) ≡ get_or codes (i + 3) 0
  image_at i b =
      let e : get_or (images_in count codes) i 0 ≡ get_or codes (3 + i) 0 - 3 =
      get_or_sub (take count (drop 3 codes)) i ∙ ap (λ (p : ℕ). p - 3) (get_or-take count (drop 3 codes) i 0 b ∙ get_or-drop 3 codes i 0) in
      let z : 3 + i ≡ i + 3 = omega arith in
      omega (arith, rw z at e, m.low i b)

pub images_none : (n : ℕ) → n ≤ 25 → ImageCodes 0 n no_images
images_none n most =
    record {
      room = refl;
      few = omega arith;
      most = most;
      nowhere_fixed = refl;
      null_fixed = refl;
      dangling_fixed = refl;
      low = λ i b. absurd (omega arith);
      high = λ i b. absurd (omega arith);
      rest = λ i _ b. swap i (get_or-replicate 12 i 3 0 b);
    }
  where
    swap : (i : ℕ) → get_or {A = ℕ} (replicate 12 3) i 0 ≡ 3 → get_or {A = ℕ} (0 ∷ 1 ∷ 2 ∷ replicate 12 3) (i + 3) 0 ≡ 3
    swap i e = let z : i + 3 ≡ cell i = omega arith in rw z e
