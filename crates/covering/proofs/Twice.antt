-- Whether another cell has the image of cell i.
use mathlib.Core.Bool.{Bool, true, false, ◌||◌, not, or-true}
use mathlib.Core.List.{List}
use mathlib.Core.Logic.{◌≢◌}
use mathlib.Core.Path.{◌≡◌, refl, sym, ap, ◌∙◌}
use Prim.Native.Nat.{ℕ, ◌+◌, ◌-◌, ◌≤◌, ◌<◌}
use native.Mathlib.Omega.{arith}
use borrow.Author.Tests.{eq-eqb, ne_eqb}
use lib.Dec.{eqb}
use lib.ListN.{get_or}
use Rattle.lists.specs.Test.{all_from}
use Rattle.lists.proofs.Test.{all_passed, all_failed, all_done}
use Rattle.coverreader.specs.Images.{images_in, ImageCodes}
use Rattle.covering.specs.Images.{once_at}
use Rattle.coverreader.proofs.Images.{images_length, image_at}

module _ (count : ℕ) (codes : List ℕ) (m : ImageCodes count 25 codes) (i : ℕ) (b : i < count) where
  abbrev images : List ℕ
  images = images_in count codes

  abbrev test : ℕ → Bool
  test j = eqb i j || not (eqb (get_or images i 0) (get_or images j 0))

  -- the first j cells but i have other images
  pub record Differing (j : ℕ) : Type 0 where
    pub inside : j ≤ count
    pub whole : all_from (count - j) j test ≡ all_from count 0 test

  all_cells : all_from count 0 test ≡ once_at images i
  all_cells = ap (λ (k : ℕ). all_from k 0 test) (sym (images_length count 25 codes m))

  pub differ_none : Differing 0
  differ_none = record { inside = omega arith; whole = ap (λ (k : ℕ). all_from k 0 test) (omega arith) }

  module _ (j : ℕ) (d : Differing j) where
    pub differ_all : count ≤ j → true ≡ once_at images i
    differ_all l = sym (all_done test count j l) ∙ d.whole ∙ all_cells

    module _ (c : j < count) where
      more : test j ≡ true → Differing (j + 1)
      more e = record { inside = omega arith; whole = sym (all_passed test count j c e) ∙ d.whole }

      pub differ_itself : i ≡ j → Differing (j + 1)
      differ_itself e = more (rw (eq-eqb i j e) refl)

      pub differ_more : get_or codes (i + 3) 0 ≢ get_or codes (j + 3) 0 → Differing (j + 1)
      differ_more n = more (rw (ne_eqb (get_or images i 0) (get_or images j 0) other) (or-true (eqb i j)))
        where
          other : get_or images i 0 ≢ get_or images j 0
          other e = n (omega (arith, e, image_at count 25 codes m i b, image_at count 25 codes m j c))

      pub differ_not : i ≢ j → get_or codes (i + 3) 0 ≡ get_or codes (j + 3) 0 → false ≡ once_at images i
      differ_not n e =
          let same : get_or images i 0 ≡ get_or images j 0 = omega (arith, e, image_at count 25 codes m i b, image_at count 25 codes m j c) in
          sym (all_failed test count j c (rw (ne_eqb i j n, eq-eqb (get_or images i 0) (get_or images j 0) same) refl)) ∙ d.whole ∙ all_cells
