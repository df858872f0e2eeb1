-- Places and the codes in a table's lists.
use mathlib.Core.Bool.{Bool, true, false}
use mathlib.Core.List.{List, [], ◌∷◌}
use mathlib.Core.Path.{◌≡◌, refl, sym, ap, ◌∙◌}
use Prim.Native.Nat.{ℕ, zero, suc, ◌+◌, ◌-◌, ◌≤◌, ◌<◌}
use native.Mathlib.Omega.{arith}
use lib.ListN.{length, get_or, get_or-map, get_or-eq_default}
use Rattle.heap.specs.Place.{nowhere, cell}
use Rattle.heap.proofs.Codes.{by_code}
use Rattle.place.specs.Place.{place_of, codes}
use Rattle.place.specs.declared.Place.{Place}
use Rattle.stepper.specs.Step.{lowest_unused}
use Rattle.stepper.specs.Table.{standing}

pub code_at : (l : List Place) (i : ℕ) → (get_or l i (place_of nowhere)).code ≡ get_or (codes l) i nowhere
code_at l i = sym (get_or-map (λ (p : Place). p.code) l i (place_of nowhere))

module _ (used : List Bool) where
  pub standing_cell : (p : ℕ) → 3 ≤ p → get_or used (p - 3) false ≡ standing used p
  unfolding standing
  standing_cell =
      by_code (λ p. 3 ≤ p → get_or used (p - 3) false ≡ standing used p) (λ h. absurd (omega arith)) (λ h. absurd (omega arith))
      (λ h. absurd (omega arith)) (λ i h. let e : cell i - 3 ≡ i = omega arith in rw e refl)

  pub standing_high : (p n : ℕ) → length used ≡ n → n + 3 ≤ p → false ≡ standing used p
  standing_high p n e h = sym (get_or-eq_default used false (omega arith)) ∙ standing_cell p (omega arith)

-- ---- the lowest unused cell

pub lowest_first : (us : List Bool) (i : ℕ) → i < length us → get_or us i false ≡ false → ((k : ℕ) → k < i → get_or us k false ≡ true) → i ≡ lowest_unused us
unfolding lowest_unused
lowest_first [] i h e before = absurd (omega arith)
lowest_first (u ∷ us) zero h e before = rw e refl
lowest_first (u ∷ us) (suc i) h e before = rw (before 0 (omega arith)) (ap suc (lowest_first us i (omega arith) e (λ k l. before (suc k) (omega arith))))

pub lowest_none : (us : List Bool) → ((k : ℕ) → k < length us → get_or us k false ≡ true) → length us ≤ lowest_unused us
unfolding lowest_unused
lowest_none [] all = omega arith
lowest_none (u ∷ us) all = rw (all 0 (omega arith)) (let rest = lowest_none us (λ k l. all (suc k) (omega arith)) in omega arith)
