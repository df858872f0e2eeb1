-- The choices of a variable that a kind retains are the wanted ones.
use mathlib.Core.Bool.{Bool, true, false, ◌&&◌, ◌||◌, not, and-true, and-false, and_comm, and_self}
use mathlib.Core.List.{List, [], ◌∷◌, ◌++◌}
use mathlib.Core.Logic.{◌≢◌}
use mathlib.Core.Path.{◌≡◌, refl, sym, ◌∙◌}
use Prim.Native.Nat.{ℕ, zero, suc, ◌+◌, ◌-◌, ◌≤◌, ◌<◌}
use native.Mathlib.Decide.{ℕ_discrete, dec_lt}
use native.Mathlib.Omega.{arith}
use Rattle.std.proofs.lemmas.Bool.Decides.{nat_tests}
use borrow.Author.Tests.{lt-ltb, le-ltb, le-leb, lt-leb, eq-eqb, ne_eqb}
use lib.Dec.{eqb, ltb}
use lib.ListN.{length, get_or, set, length-set, get_or-eq_default, get_or-append}
use lib.Seq.{get_or-set_same, get_or_at}
use Rattle.lists.proofs.List.{end, ◌&◌}
use Rattle.heap.specs.Codes.{link_in}
use Rattle.heap.specs.Place.{nowhere, null, dangling, cell}
use Rattle.heap.proofs.Rows.{by_kind}
use Rattle.place.specs.Place.{place_of}
use Rattle.shape.proofs.Laws.{link_set_other, link_snoc, link_unlinked}
use Rattle.placing.specs.Choice.{chosen, choice_of, exists, opened}
use Rattle.placing.specs.Retained.{At, link_open, retained}
use Rattle.placing.proofs.Chosen.{chosen_cell, chosen_null, chosen_fresh, chosen_placed, choice_of_null, choice_of_most}
use Rattle.placing.proofs.Tests.{retains_cells, cell_none, cell_any, beside_cells, one_cell}
use Rattle.placing.specs.Wanted.{source_fits, itself_fits, target_fits, fits_in, target_of, any_cell, cell_beside, beside, wanted_one}

-- ---- the link of the cell at p after choice k

open_at : (links : List ℕ) (p q l : ℕ) → 2 < p → link_in links p ≡ l → link_open links p q ≡ eqb l nowhere || eqb l q
unfolding link_open
open_at links p q l h e = grind (arith, nat_tests)

pub open_none : (links : List ℕ) (p q : ℕ) → p ≤ 2 → link_open links p q ≡ false
unfolding link_open
open_none links p q h = grind (arith, nat_tests)

module _ (links : List ℕ) (k : ℕ) where
  exists_low : k < length links + 2 → exists links k ≡ true
  unfolding exists
  exists_low h = grind (arith, nat_tests)

  exists_high : length links + 2 ≤ k → exists links k ≡ not (eqb (get_or links (k - (length links + 2)) nowhere) nowhere)
  unfolding exists
  exists_high h = grind (arith, nat_tests)

  pub opened_none : k ≤ length links → opened links k ≡ links
  unfolding opened
  opened_none h = grind (arith, nat_tests)

  pub opened_fresh : k ≡ suc (length links) → opened links k ≡ links ++ (nowhere ∷ [])
  unfolding opened
  opened_fresh e = grind (arith, nat_tests)

  link_kept : (p : ℕ) → k < length links + 2 → link_in (opened links k) p ≡ link_in links p
  link_kept p h = go (ℕ_discrete k (suc (length links)))
    where
      go : Dec (k ≡ suc (length links)) → link_in (opened links k) p ≡ link_in links p
      go (yes e) = rw (opened_fresh e) (link_unlinked links p)
      go (no e) = rw (opened_none (omega arith)) refl

  module _ (l : length links + 2 ≤ k) (b : k < length links + (2 + length links)) where
    pub opened_middle : opened links k
        ≡ set links (k - (length links + 2)) (cell (length links)) ++ (get_or links (k - (length links + 2)) nowhere ∷ [])
    unfolding opened
    opened_middle = grind (arith, nat_tests)

    set_length : length (set links (k - (length links + 2)) (cell (length links))) ≡ length links
    set_length = length-set links (k - (length links + 2)) (cell (length links))

    link_middle : link_in (opened links k) (cell (length links)) ≡ get_or links (k - (length links + 2)) nowhere
    link_middle =
        rw opened_middle
        (get_or_at (set links (k - (length links + 2)) (cell (length links))) (get_or links (k - (length links + 2)) nowhere) [] nowhere (length links) set_length)

    link_source : (j : ℕ) → j ≡ k - (length links + 2) → link_in (opened links k) (cell j) ≡ cell (length links)
    link_source j e =
        rw (e, opened_middle)
        (get_or-append (set links (k - (length links + 2)) (cell (length links))) (get_or links (k - (length links + 2)) nowhere ∷ []) nowhere
        (k - (length links + 2)) (omega (arith, set_length))
        ∙ get_or-set_same links (k - (length links + 2)) (cell (length links)) nowhere (omega arith))

    link_other : (j : ℕ) → j < length links → j ≢ k - (length links + 2) → link_in (opened links k) (cell j) ≡ get_or links j nowhere
    link_other j h o =
        rw opened_middle
        (link_snoc (set links (k - (length links + 2)) (cell (length links))) (get_or links (k - (length links + 2)) nowhere) (cell j) (omega (arith, set_length))
        ∙ link_set_other links (k - (length links + 2)) (cell (length links)) (cell j) (omega arith))

-- ---- the same place, and a different one

module _ (n q k : ℕ) (at : At n q) where
  same_place : eqb q (chosen n k) ≡ eqb k (choice_of n q)
  unfolding chosen choice_of
  same_place = grind (arith, nat_tests)

  same_place_too : eqb (chosen n k) q ≡ eqb k (choice_of n q)
  unfolding chosen choice_of
  same_place_too = grind (arith, nat_tests)

module _ (links : List ℕ) (q k : ℕ) (at : At (length links) q) where
  -- a choice at a place of the shape is there
  at_exists : exists links k && eqb k (choice_of (length links) q) ≡ eqb k (choice_of (length links) q)
  unfolding exists choice_of
  at_exists = grind (arith, nat_tests)

-- ---- a cell

-- a choice is at a cell, but for #
chosen_apart : (n k : ℕ) → ltb dangling (chosen n k) ≡ not (eqb k n)
unfolding chosen
chosen_apart n k = grind (arith, nat_tests)

module _ (links : List ℕ) (k : ℕ) where
  any_cell_lem : exists links k && ltb dangling (chosen (length links) k) ≡ fits_in links any_cell k
  any_cell_lem = rw (chosen_apart (length links) k, choice_of_null (length links) null refl) (and_comm (exists links k) _)

  -- the other variable is at q
  cell_beside_lem : (q : ℕ) → exists links k && (ltb dangling q && ltb dangling (chosen (length links) k)) ≡ fits_in links (cell_beside q) k
  cell_beside_lem q = go (dec_lt 2 q)
    where
      go : Dec (2 < q) → exists links k && (ltb dangling q && ltb dangling (chosen (length links) k)) ≡ fits_in links (cell_beside q) k
      go (yes h) = rw (lt-ltb dangling q h, ← cell_any q h) any_cell_lem
      go (no h) = rw (le-ltb dangling q (omega arith), ← cell_none q (omega arith)) (and-false (exists links k))

-- ---- a link from the chosen cell, and a link to it

module _ (links : List ℕ) (k : ℕ) (most : k < length links + (2 + length links)) where
  source_fits_lem : (q : ℕ) → exists links k && link_open (opened links k) (chosen (length links) k) q ≡ source_fits links q k
  unfolding source_fits
  source_fits_lem q = go (dec_lt k n) (ℕ_discrete k n) (ℕ_discrete k (n + 1))
    where
      n : ℕ
      n = length links

      go : Dec (k < n) → Dec (k ≡ n) → Dec (k ≡ n + 1) → exists links k && link_open (opened links k) (chosen n k) q ≡ source_fits links q k
      go (yes h) d e =
          rw (exists_low links k (omega arith), chosen_cell n k h, open_at (opened links k) (cell k) q (get_or links k nowhere) (omega arith) (link_kept links k (cell k) (omega arith)))
          (simp (lt-ltb k n h))
      go (no h) (yes d) e =
          rw (chosen_null n k d, open_none (opened links k) null q (omega arith), and-false (exists links k))
          (simp (le-ltb k n (omega arith), le-leb k (n + 1) (omega arith), ne_eqb k (n + 1) (omega arith)))
      go (no h) (no d) (yes e) =
          rw (
            exists_low links k (omega arith),
            chosen_fresh n k (omega arith),
            open_at (opened links k) (cell n) q nowhere (omega arith) (link_kept links k (cell n) (omega arith) ∙ get_or-eq_default links nowhere (omega arith)),
          )
          (simp (le-ltb k n (omega arith), le-leb k (n + 1) (omega arith), eq-eqb k (n + 1) e))
      go (no h) (no d) (no e) =
          rw (
            exists_high links k (omega arith),
            chosen_fresh n k (omega arith),
            open_at (opened links k) (cell n) q (get_or links (k - (n + 2)) nowhere) (omega arith) (link_middle links k (omega arith) most),
          )
          (simp (le-ltb k n (omega arith), lt-leb k (n + 1) (omega arith)) (open_same (eqb (get_or links (k - (n + 2)) nowhere) nowhere) (eqb (get_or links (k - (n + 2)) nowhere) q)))
        where
          open_same : (x y : Bool) → not x && (x || y) ≡ not x && y
          open_same true y = refl
          open_same false y = refl

  module _ (range : (i : ℕ) → i < length links → get_or links i nowhere < cell (length links)) where
    itself_fits_lem : exists links k && link_open (opened links k) (chosen (length links) k) (chosen (length links) k) ≡ itself_fits links k
    unfolding source_fits itself_fits
    itself_fits_lem = source_fits_lem (chosen (length links) k) ∙ go (dec_lt k n) (dec_lt k (n + 2))
      where
        n : ℕ
        n = length links

        go : Dec (k < n) → Dec (k < n + 2) → source_fits links (chosen n k) k ≡ itself_fits links k
        go (yes h) e = rw (chosen_cell n k h) (simp (lt-ltb k n h))
        go (no h) (yes e) = simp (le-ltb k n (omega arith), le-leb k (n + 1) (omega arith))
        go (no h) (no e) =
            rw (chosen_fresh n k (omega arith))
            (simp (
              le-ltb k n (omega arith),
              lt-leb k (n + 1) (omega arith),
              ne_eqb k (n + 1) (omega arith),
              ne_eqb (get_or links (k - (n + 2)) nowhere) (cell n) (omega (arith, range (k - (n + 2)) (omega arith))),
              and-false,
            ))

    -- the link of cell j is nowhere, or at l
    target_free : (j : ℕ) → j < length links → get_or links j nowhere ≡ nowhere
        → exists links k && link_open (opened links k) (cell j) (chosen (length links) k) ≡ exists links k
    target_free j h z = go (dec_lt k (n + 2)) (ℕ_discrete j (k - (n + 2)))
      where
        n : ℕ
        n = length links

        is_open : link_in (opened links k) (cell j) ≡ nowhere → exists links k && link_open (opened links k) (cell j) (chosen n k) ≡ exists links k
        is_open e = rw (open_at (opened links k) (cell j) (chosen n k) nowhere (omega arith) e) (and-true (exists links k))

        go : Dec (k < n + 2) → Dec (j ≡ k - (n + 2)) → exists links k && link_open (opened links k) (cell j) (chosen n k) ≡ exists links k
        go (yes l) e = is_open (link_kept links k (cell j) l ∙ z)
        go (no l) (no e) = is_open (link_other links k (omega arith) most j h e ∙ z)
        go (no l) (yes e) = rw (exists_high links k (omega arith), ← e, z) refl

    target_at : (j : ℕ) → j < length links → get_or links j nowhere ≢ nowhere
        → exists links k && link_open (opened links k) (cell j) (chosen (length links) k) ≡ target_fits (length links) (get_or links j nowhere) j k
    unfolding target_fits
    target_at j h z = go (dec_lt k (n + 2)) (ℕ_discrete j (k - (n + 2))) (ℕ_discrete l dangling)
      where
        n : ℕ
        n = length links

        l : ℕ
        l = get_or links j nowhere

        at : l ≢ dangling → At n l
        at o = record { some = z; safe = o; inside = range j h }

        as_was : link_in (opened links k) (cell j) ≡ l → link_open (opened links k) (cell j) (chosen n k) ≡ eqb l (chosen n k)
        as_was e = open_at (opened links k) (cell j) (chosen n k) l (omega arith) e ∙ rw (ne_eqb l nowhere z) refl

        go : Dec (k < n + 2) → Dec (j ≡ k - (n + 2)) → Dec (l ≡ dangling)
            → exists links k && link_open (opened links k) (cell j) (chosen n k) ≡ target_fits n l j k
        go (yes i) e (yes d) =
            rw (exists_low links k i, as_was (link_kept links k (cell j) i), ne_eqb l (chosen n k) (λ c. (chosen_placed n k).1 (sym c ∙ d)))
            (simp (ne_eqb k (n + 2 + j) (omega arith), eq-eqb l dangling d))
        go (yes i) e (no d) =
            rw (exists_low links k i, as_was (link_kept links k (cell j) i), same_place n l k (at d))
            (simp (ne_eqb k (n + 2 + j) (omega arith), ne_eqb l dangling d))
        go (no i) (yes e) d =
            rw (
              exists_high links k (omega arith),
              ← e,
              ne_eqb l nowhere z,
              chosen_fresh n k (omega arith),
              open_at (opened links k) (cell j) (cell n) (cell n) (omega arith) (link_source links k (omega arith) most j e),
              eq-eqb (cell n) (cell n) refl,
            )
            (simp (eq-eqb k (n + 2 + j) (omega arith), ne_eqb (cell n) nowhere (omega arith)))
        go (no i) (no e) (yes d) =
            rw (
              as_was (link_other links k (omega arith) most j h e),
              ne_eqb l (chosen n k) (λ c. (chosen_placed n k).1 (sym c ∙ d)),
              and-false (exists links k),
            )
            (simp (ne_eqb k (n + 2 + j) (omega arith), eq-eqb l dangling d))
        go (no i) (no e) (no d) =
            rw (
              as_was (link_other links k (omega arith) most j h e),
              same_place n l k (at d),
              ne_eqb k (choice_of n l) (omega (arith, choice_of_most n l (range j h))),
              and-false (exists links k),
            )
            (simp (ne_eqb k (n + 2 + j) (omega arith), ne_eqb l dangling d))

    target_fits_lem : (q : ℕ) → q < cell (length links)
        → exists links k && link_open (opened links k) q (chosen (length links) k) ≡ fits_in links (target_of links q) k
    unfolding target_of
    target_fits_lem zero b = rw (open_none (opened links k) 0 (chosen (length links) k) (omega arith)) (and-false (exists links k))
    target_fits_lem (suc zero) b = rw (open_none (opened links k) 1 (chosen (length links) k) (omega arith)) (and-false (exists links k))
    target_fits_lem (suc (suc zero)) b = rw (open_none (opened links k) 2 (chosen (length links) k) (omega arith)) (and-false (exists links k))
    target_fits_lem (suc (suc (suc j))) b = go (ℕ_discrete (get_or links j nowhere) nowhere)
      where
        j_is : cell j - 3 ≡ j
        j_is = omega arith

        go : Dec (get_or links j nowhere ≡ nowhere)
            → exists links k && link_open (opened links k) (cell j) (chosen (length links) k) ≡ fits_in links (target_of links (cell j)) k
        go (yes z) = simp (lt-leb (cell j) dangling (omega arith), eq-eqb (get_or links j nowhere) nowhere z) (target_free j (omega arith) z)
        go (no z) = simp (lt-leb (cell j) dangling (omega arith), ne_eqb (get_or links j nowhere) nowhere z, j_is) (target_at j (omega arith) z)

    -- ---- by kind

    module _ (kind q : ℕ) (kind_least : 1 ≤ kind) (at : At (length links) q) where
      -- the first variable is at q
      pub beside_first : exists links k && retained kind q (chosen (length links) k) (opened links k) ≡ fits_in links (beside 4 kind links (place_of q)) k
      unfolding retained beside
      beside_first = go (dec_lt 5 kind)
        where
          same : exists links k && eqb q (chosen (length links) k) ≡ eqb k (choice_of (length links) q)
          same = rw (same_place (length links) q k at) (at_exists links q k at)

          go : Dec (5 < kind) → exists links k && retained kind q (chosen (length links) k) (opened links k) ≡ fits_in links (beside 4 kind links (place_of q)) k
          go (yes h) =
              rw (← retains_cells kind q (chosen (length links) k) (opened links k) h, ← beside_cells 4 kind links (place_of q) (omega arith) (omega arith) h)
              (cell_beside_lem links k q)
          go (no h) =
              by_kind 5 (λ m. exists links k && retained m q (chosen (length links) k) (opened links k) ≡ fits_in links (beside 4 m links (place_of q)) k)
              (same & rw (same_place (length links) q k at) (and_comm (exists links k) _) & same & source_fits_lem q & target_fits_lem q at.inside & end)
              kind kind_least (omega arith)

      -- the second one is
      pub beside_second : exists links k && retained kind (chosen (length links) k) q (opened links k) ≡ fits_in links (beside 5 kind links (place_of q)) k
      unfolding retained beside
      beside_second = go (dec_lt 5 kind)
        where
          same : exists links k && eqb (chosen (length links) k) q ≡ eqb k (choice_of (length links) q)
          same = rw (same_place_too (length links) q k at) (at_exists links q k at)

          go : Dec (5 < kind) → exists links k && retained kind (chosen (length links) k) q (opened links k) ≡ fits_in links (beside 5 kind links (place_of q)) k
          go (yes h) =
              rw (
                ← retains_cells kind (chosen (length links) k) q (opened links k) h,
                ← beside_cells 5 kind links (place_of q) (omega arith) (omega arith) h,
                and_comm (ltb dangling (chosen (length links) k)) (ltb dangling q),
              )
              (cell_beside_lem links k q)
          go (no h) =
              by_kind 5 (λ m. exists links k && retained m (chosen (length links) k) q (opened links k) ≡ fits_in links (beside 5 m links (place_of q)) k)
              (same & rw (same_place_too (length links) q k at) (and_comm (exists links k) _) & same & target_fits_lem q at.inside & source_fits_lem q & end)
              kind kind_least (omega arith)

    -- both are one
    pub one_fits : (kind : ℕ) → 1 ≤ kind → kind ≢ 4
        → exists links k && retained kind (chosen (length links) k) (chosen (length links) k) (opened links k) ≡ fits_in links (wanted_one kind) k
    unfolding retained wanted_one
    one_fits kind l o = go (dec_lt 5 kind)
      where
        equal : eqb (chosen (length links) k) (chosen (length links) k) ≡ true
        equal = eq-eqb (chosen (length links) k) (chosen (length links) k) refl

        same : exists links k && eqb (chosen (length links) k) (chosen (length links) k) ≡ exists links k
        same = simp (equal, and-true)

        go : Dec (5 < kind) → exists links k && retained kind (chosen (length links) k) (chosen (length links) k) (opened links k) ≡ fits_in links (wanted_one kind) k
        go (yes h) =
            rw (
              ← retains_cells kind (chosen (length links) k) (chosen (length links) k) (opened links k) h,
              ← one_cell kind h,
              and_self (ltb dangling (chosen (length links) k)),
            )
            (any_cell_lem links k)
        go (no h) =
            by_kind 5
            (λ m. m ≢ 4 → exists links k && retained m (chosen (length links) k) (chosen (length links) k) (opened links k) ≡ fits_in links (wanted_one m) k)
            ((λ _. same) & (λ _. simp (equal, and-false)) & (λ _. same) & (λ o. absurd (o refl)) & (λ _. itself_fits_lem) & end) kind l (omega arith) o
