-- The choices to try have all that are wanted among them.
use mathlib.Core.Bool.{Bool, true, false, ◌||◌, cond, and-false}
use mathlib.Core.List.{List}
use mathlib.Core.Logic.{◌≢◌, ◌⊎◌, inl, inr}
use mathlib.Core.Path.{◌≡◌, refl}
use Prim.Native.Nat.{ℕ, suc, ◌+◌, ◌-◌, ◌≤◌, ◌<◌}
use native.Mathlib.Decide.{ℕ_discrete}
use native.Mathlib.Omega.{arith}
use Rattle.std.proofs.lemmas.Bool.Decides.{nat_tests}
use borrow.Author.Tests.{eq-eqb, ne_eqb}
use lib.Dec.{eqb, ltb, leb}
use lib.ListN.{length, get_or}
use Rattle.lists.specs.List.{concat_map}
use Rattle.lists.specs.Range.{range}
use Rattle.heap.specs.Place.{nowhere, dangling, cell}
use Rattle.place.specs.Place.{place_of, both_nowhere}
use Rattle.placing.specs.Choice.{choice_of}
use Rattle.placing.specs.Retained.{retained}
use Rattle.placing.proofs.Chosen.{choice_of_most}
use Rattle.placing.specs.Wanted.{target_fits, fits_in, one_by_one, target_choices, choices_of, target_of, any_cell, cell_beside, beside, once_if, wanted_one, wanted_first, wanted_last}
use Rattle.placing.specs.declared.Choices.{Choices}
use Rattle.placing.specs.declared.Wanted.{Wanted}
use Rattle.placing.specs.declared.Wanted.TheVariants.{Nothing, Once, Any, At, Off, Source, Itself, Target}

pub choice_of_under : (n p : ℕ) → choice_of n p ≤ n + p
unfolding choice_of
choice_of_under n p = grind (arith, nat_tests)

-- ---- what is left out is not wanted

-- what the choices from one on give, before another
abbrev pub stretch : {A : Type 0} → (ℕ → List A) → ℕ → ℕ → List A
stretch f start past = concat_map f (range start (past - start))

-- of the numbers from `start` to before `past`, those outside the choices are such
pub record Covers (c : Choices) (Out : ℕ → Type 0) (start past : ℕ) : Type 0 where
  pub forward : 1 ≤ c.step
  pub most : c.to ≤ past
  pub least : start ≤ c.from
  pub before : (j : ℕ) → start ≤ j → j < c.from → Out j
  pub between : c.step ≢ 1 → (j : ℕ) → c.from < j → suc j < c.to → Out j
  pub two : c.step ≢ 1 → c.from + c.step + 1 ≡ c.to
  pub after : (j : ℕ) → c.to ≤ j → j < past → Out j

-- a step stays small
pub step_most : {c : Choices} {Out : ℕ → Type 0} {start past : ℕ} → Covers c Out start past → c.step ≤ suc c.to
step_most {c} h = go (ℕ_discrete c.step 1)
  where
    go : Dec (c.step ≡ 1) → c.step ≤ suc c.to
    go (yes e) = omega arith
    go (no e) = omega (arith, h.two e)

pub covers_map : {c : Choices} {Out Off : ℕ → Type 0} {start past : ℕ} → ((j : ℕ) → Out j → Off j) → Covers c Out start past
    → Covers c Off start past
covers_map f h =
    record {
      forward = h.forward;
      most = h.most;
      least = h.least;
      before = λ j b m. f j (h.before j b m);
      between = λ s j b m. f j (h.between s j b m);
      two = h.two;
      after = λ j b m. f j (h.after j b m);
    }

-- the places and cells that are named are those of a shape of n cells
abbrev pub Sound : ℕ → Wanted → Type 0
Sound n Nothing = Unit {0}
Sound n Once = Unit {0}
Sound n Any = Unit {0}
Sound n (At p) = p.code < cell n
Sound n (Off p) = Unit {0}
Sound n (Source p) = Unit {0}
Sound n Itself = Unit {0}
Sound n (Target p i) = (p.code < cell n) × (i < n)

target_else : (n p i j : ℕ) → j ≢ n + 2 + i → (p ≡ dangling) ⊎ (j ≢ choice_of n p) → target_fits n p i j ≡ false
unfolding target_fits
target_else n p i j w (inl d) = simp (ne_eqb j (n + 2 + i) w, eq-eqb p dangling d)
target_else n p i j w (inr c) = simp (ne_eqb j (n + 2 + i) w, ne_eqb j (choice_of n p) c, and-false)

covers_target : (n p i : ℕ) → p < cell n → i < n → Covers (target_choices n p i) (λ j. target_fits n p i j ≡ false) 0 (n + (2 + n))
unfolding target_choices
covers_target n p i inside cell-is = go (ℕ_discrete p dangling)
  where
    low : choice_of n p ≤ n
    low = choice_of_most n p inside

    go : Dec (p ≡ dangling) → Covers (target_choices n p i) (λ j. target_fits n p i j ≡ false) 0 (n + (2 + n))
    go (yes d) =
        rw (eq-eqb p dangling d)
        (record {
          forward = omega arith;
          most = omega arith;
          least = omega arith;
          before = λ j _ h. target_else n p i j (omega arith) (inl d);
          between = λ h. absurd (h refl);
          two = λ h. absurd (h refl);
          after = λ j h b. target_else n p i j (omega arith) (inl d);
        })
    go (no d) =
        rw (ne_eqb p dangling d)
        (record {
          forward = omega (arith, low);
          most = omega arith;
          least = omega arith;
          before = λ j _ h. target_else n p i j (omega (arith, low)) (inr (omega arith));
          between = λ h j l m. target_else n p i j (omega arith) (inr (omega arith));
          two = λ h. omega (arith, low);
          after = λ j h b. target_else n p i j (omega arith) (inr (omega (arith, low)));
        })

-- a whole stretch
pub covers_stretch : (Out : ℕ → Type 0) (start past : ℕ) → Covers (one_by_one start past) Out start past
covers_stretch Out start past =
    record {
      forward = omega arith;
      most = omega arith;
      least = omega arith;
      before = λ j l h. absurd (omega arith);
      between = λ h. absurd (h refl);
      two = λ h. absurd (h refl);
      after = λ j h b. absurd (omega arith);
    }

covers_one : (n k : ℕ) → k ≤ n → Covers (one_by_one k (suc k)) (λ j. eqb j k ≡ false) 0 (n + (2 + n))
covers_one n k h = grind (arith, nat_tests)

pub covers : (links : List ℕ) (wanted : Wanted) → Sound (length links) wanted
    → Covers (choices_of (length links) wanted) (λ j. fits_in links wanted j ≡ false) 0 (length links + (2 + length links))
covers links Nothing s =
    record {
      forward = omega arith;
      most = omega arith;
      least = omega arith;
      before = λ j _ h. refl;
      between = λ h. absurd (h refl);
      two = λ h. absurd (h refl);
      after = λ j h b. refl;
    }
covers links Once s = covers_one (length links) 0 (omega arith)
covers links Any s = covers_stretch (λ j. fits_in links Any j ≡ false) 0 (length links + (2 + length links))
covers links (At p) s = covers_one (length links) (choice_of (length links) p.code) (choice_of_most (length links) p.code s)
covers links (Off p) s = covers_stretch (λ j. fits_in links (Off p) j ≡ false) 0 (length links + (2 + length links))
covers links (Source p) s = covers_stretch (λ j. fits_in links (Source p) j ≡ false) 0 (length links + (2 + length links))
covers links Itself s = covers_stretch (λ j. fits_in links Itself j ≡ false) 0 (length links + (2 + length links))
covers links (Target p i) s = covers_target (length links) p.code i s.0 s.1

-- ---- an operation speaks of the shape's own places

sound_target : (links : List ℕ) (q : ℕ) → q < cell (length links) → ((i : ℕ) → i < length links → get_or links i nowhere < cell (length links))
    → Sound (length links) (target_of links q)
unfolding target_of
sound_target links q inside range = grind (arith, nat_tests)

sound_cell : (n q : ℕ) → Sound n (cell_beside q)
unfolding cell_beside
sound_cell n q = go (leb q dangling)
  where
    go : (x : Bool) → Sound n (cond x Nothing any_cell)
    go true = tt
    go false = tt

sound_beside : (starting kind : ℕ) (links : List ℕ) (q : ℕ) → q < cell (length links)
    → ((i : ℕ) → i < length links → get_or links i nowhere < cell (length links)) → Sound (length links) (beside starting kind links (place_of q))
unfolding beside
sound_beside starting kind links q inside range = go (eqb kind 2) (ltb kind 4) (eqb kind starting) (ltb 5 kind)
  where
    go : (x y z w : Bool)
        → Sound (length links)
        (cond x (Off (place_of q)) (cond y (At (place_of q)) (cond z (Source (place_of q)) (cond w (cell_beside q) (target_of links q)))))
    go true y z w = tt
    go false true z w = inside
    go false false true w = tt
    go false false false true = sound_cell (length links) q
    go false false false false = sound_target links q inside range

sound_once : (n : ℕ) (x : Bool) → Sound n (once_if x)
unfolding once_if
sound_once n true = tt
sound_once n false = tt

sound_one : (n kind : ℕ) → Sound n (wanted_one kind)
unfolding wanted_one
sound_one n kind = go (eqb kind 2) (eqb kind 5) (ltb 5 kind)
  where
    go : (x y z : Bool) → Sound n (cond x Nothing (cond y Itself (cond z any_cell Any)))
    go true y z = tt
    go false true z = tt
    go false false true = tt
    go false false false = tt

pub sound_first : (n : ℕ) (same : Bool) (x y : ℕ) → Sound n (wanted_first same (place_of x) (place_of y))
unfolding wanted_first
sound_first n same x y = go (eqb x dangling || eqb y dangling) (both_nowhere same x y)
  where
    go : (d t : Bool) → Sound n (cond d Nothing (cond t Any Once))
    go true t = tt
    go false true = tt
    go false false = tt

pub sound_last : (kind : ℕ) (same : Bool) (links : List ℕ) (x y : ℕ) → x < cell (length links) → y < cell (length links)
    → ((i : ℕ) → i < length links → get_or links i nowhere < cell (length links))
    → Sound (length links) (wanted_last kind same links (place_of x) (place_of y))
unfolding wanted_last
sound_last kind same links x y x_in y-in range = go (eqb x nowhere) same (eqb y nowhere)
  where
    go : (n s m : Bool)
        → Sound (length links)
        (cond n (cond s (wanted_one kind) (beside 5 kind links (place_of y)))
        (cond m (beside 4 kind links (place_of x)) (once_if (retained kind x y links))))
    go true true m = sound_one (length links) kind
    go true false m = sound_beside 5 kind links y y-in range
    go false s true = sound_beside 4 kind links x x_in range
    go false s false = sound_once (length links) (retained kind x y links)
