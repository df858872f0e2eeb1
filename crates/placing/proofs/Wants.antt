-- What is wanted of the operand placed last, and of the one placed first, is what the kind retains.
use mathlib.Core.Bool.{Bool, true, false, ◌&&◌, cond}
use mathlib.Core.List.{List}
use mathlib.Core.Logic.{◌≢◌}
use mathlib.Core.Path.{◌≡◌, refl, sym}
use Prim.Native.Nat.{ℕ, ◌+◌, ◌≤◌, ◌<◌}
use native.Mathlib.Omega.{arith}
use Rattle.std.proofs.lemmas.Bool.Decides.{nat_tests}
use native.Mathlib.Decide.{ℕ_discrete}
use borrow.Author.Tests.{eq-eqb, ne_eqb}
use lib.Dec.{eqb}
use lib.ListN.{length, get_or}
use Rattle.heap.specs.Place.{nowhere, dangling, cell}
use Rattle.place.specs.Place.{place_of, both_nowhere}
use Rattle.placing.specs.Choice.{chosen, exists, opened}
use Rattle.placing.specs.Retained.{At}
use Rattle.placing.specs.Retained.{retained}
use Rattle.placing.specs.Wanted.{fits_in, once_if, wanted_first, wanted_last}
use Rattle.placing.proofs.Retaining.{beside_first, beside_second, one_fits}

-- one choice, which changes nothing
once_first : (links : List ℕ) (test : Bool) (k : ℕ) → k ≡ 0 → fits_in links (once_if test) k ≡ test
unfolding once_if
once_first links true k e = eq-eqb k 0 e
once_first links false k e = refl

once_later : (links : List ℕ) (test : Bool) (k : ℕ) → k ≢ 0 → fits_in links (once_if test) k ≡ false
unfolding once_if
once_later links true k o = ne_eqb k 0 o
once_later links false k o = refl

-- ---- of the operand placed last, a at x and b at y

module _ (kind a b x y : ℕ) (links : List ℕ) (k : ℕ) where
  abbrev fits_last : Bool
  fits_last = fits_in links (wanted_last kind (eqb a b) links (place_of x) (place_of y)) k

  module _ (kind_least : 1 ≤ kind) (most : k < length links + (2 + length links))
      (range : (i : ℕ) → i < length links → get_or links i nowhere < cell (length links)) where
    -- a is placed by choice k, and b too where it is the same variable
    pub last_a : x ≡ nowhere → (kind ≡ 4 → a ≢ b) → (a ≢ b → At (length links) y)
        → fits_last
        ≡ exists links k
        && cond (eqb a b) (retained kind (chosen (length links) k) (chosen (length links) k) (opened links k))
        (retained kind (chosen (length links) k) y (opened links k))
    unfolding wanted_last
    last_a e apart at = go (ℕ_discrete a b)
      where
        c : ℕ
        c = chosen (length links) k

        go : Dec (a ≡ b) → fits_last ≡ exists links k && cond (eqb a b) (retained kind c c (opened links k)) (retained kind c y (opened links k))
        go (yes i) = rw (eq-eqb x nowhere e, eq-eqb a b i) (sym (one_fits links k most range kind kind_least (λ f. apart f i)))
        go (no i) = rw (eq-eqb x nowhere e, ne_eqb a b i) (sym (beside_second links k most range kind y kind_least (at i)))

    -- b is placed by choice k
    pub last_b : At (length links) x → y ≡ nowhere → fits_last ≡ exists links k && retained kind x (chosen (length links) k) (opened links k)
    unfolding wanted_last
    last_b at e =
        rw (ne_eqb x nowhere at.some, eq-eqb y nowhere e) (sym (beside_first links k most range kind x kind_least at))

  -- both have places
  module _ (nx : x ≢ nowhere) (ny : y ≢ nowhere) where
    pub last_once : k ≡ 0 → fits_last ≡ retained kind x y links
    unfolding wanted_last
    last_once e = rw (ne_eqb x nowhere nx, ne_eqb y nowhere ny) (once_first links (retained kind x y links) k e)

    pub last_later : k ≢ 0 → fits_last ≡ false
    unfolding wanted_last
    last_later o = rw (ne_eqb x nowhere nx, ne_eqb y nowhere ny) (once_later links (retained kind x y links) k o)

-- ---- of the operand placed first

module _ (same : Bool) (x y : ℕ) (links : List ℕ) (k : ℕ) where
  abbrev fits_first : Bool
  fits_first = fits_in links (wanted_first same (place_of x) (place_of y)) k

  pub first_a_dangling : x ≡ dangling → fits_first ≡ false
  unfolding wanted_first
  first_a_dangling e = rw (eq-eqb x dangling e) refl

  pub first_b_dangling : y ≡ dangling → fits_first ≡ false
  unfolding wanted_first
  first_b_dangling e = grind (arith, nat_tests)

  module _ (nx : x ≢ dangling) (ny : y ≢ dangling) where
    pub first_both : both_nowhere same x y ≡ true → fits_first ≡ exists links k
    unfolding wanted_first
    first_both e = grind (arith, nat_tests)

    pub first_one : both_nowhere same x y ≡ false → fits_first ≡ eqb k 0
    unfolding wanted_first
    first_one e = grind (arith, nat_tests)
