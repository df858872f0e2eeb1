-- The order of the verdicts doesn't matter if none gets 23.
use mathlib.Core.Bool.{true}
use mathlib.Core.List.{List, [], ◌∷◌}
use mathlib.Core.Logic.{◌⊎◌, inl, inr}
use mathlib.Core.Path.{◌≡◌, refl, sym, ap, ◌∙◌, subst}
use Prim.Native.Nat.{ℕ, zero, suc, ◌+◌, ◌-◌, ◌≤◌}
use native.Mathlib.Omega.{arith}
use lib.ListN.{get_or, replicate}
use Rattle.format.specs.Parser.{reason_number}
use Rattle.format.specs.Verdict.{Verdict, accepted, refused}
use Rattle.tally.specs.Release.{tallied, taken_in, turned_away, Reordered, same, keep, swap, then}
use Rattle.tally.specs.Tally.{limit, begun, one_more, after, count_of, fits}
use Rattle.tally.specs.declared.Tally.{Tally}
use Rattle.tally.proofs.Release.{holding, after_comm, after_inside, by_taking, tallied_holds, taken_in_lem, away_in, away_out}
use Rattle.tally.proofs.Taking.{fits_accepted, accepted_fits, fits_refused, refused_fits}

-- no number of the tally is above the limit
pub record InLimit (t : Tally) : Type 0 where
  pub verdicts_in : t.verdicts ≤ limit
  pub accepted_in : t.accepted ≤ limit
  pub members_in : t.members ≤ limit
  pub covers_in : t.covers ≤ limit
  pub refusals_in : (i : ℕ) → get_or t.refusals i 0 ≤ limit

-- ---- one more at a place

more_most : (i j : ℕ) (l : List ℕ) → get_or l j 0 ≤ get_or (one_more i l) j 0
more_most i j [] = omega arith
more_most zero zero (x ∷ xs) = omega arith
more_most zero (suc j) (x ∷ xs) = omega arith
more_most (suc i) zero (x ∷ xs) = omega arith
more_most (suc i) (suc j) (x ∷ xs) = more_most i j xs

-- at its place it is one more, or there is no such place
more_at : (i : ℕ) (l : List ℕ) → (get_or (one_more i l) i 0 ≡ get_or l i 0 + 1) ⊎ (get_or l i 0 ≡ 0)
more_at i [] = inr refl
more_at zero (x ∷ xs) = inl refl
more_at (suc i) (x ∷ xs) = more_at i xs

-- each place is as it was, or it is the one, which stays in the limit
more_within : (i j : ℕ) (l : List ℕ) → get_or l j 0 ≤ limit → get_or l i 0 + 1 ≤ limit → get_or (one_more i l) j 0 ≤ limit
more_within i j [] h k = h
more_within zero zero (x ∷ xs) h k = k
more_within zero (suc j) (x ∷ xs) h k = h
more_within (suc i) zero (x ∷ xs) h k = h
more_within (suc i) (suc j) (x ∷ xs) h k = more_within i j xs h k

-- ---- one verdict

fits_within : (v : Verdict) (t : Tally) → InLimit t → fits v t ≡ true → InLimit (after v t)
fits_within (accepted c) t w e =
    let f = fits_accepted t c e in
    record { verdicts_in = f.one_verdict; accepted_in = f.one_accepted; members_in = f.its_members; covers_in = f.its_covers; refusals_in = w.refusals_in }
fits_within (refused why place) t w e =
    let f = fits_refused t why place e in
    record {
      verdicts_in = f.one_verdict;
      accepted_in = w.accepted_in;
      members_in = w.members_in;
      covers_in = w.covers_in;
      refusals_in = λ j. more_within (reason_number why - 1) j t.refusals (w.refusals_in j) f.one_count;
    }

within_fits : (v : Verdict) (t : Tally) → InLimit (after v t) → fits v t ≡ true
within_fits (accepted c) t w = accepted_fits t c (record { one_verdict = w.verdicts_in; one_accepted = w.accepted_in; its_members = w.members_in; its_covers = w.covers_in })
within_fits (refused why place) t w =
    refused_fits t why place (record { one_verdict = w.verdicts_in; one_count = small (more_at (reason_number why - 1) t.refusals) })
  where
    small : (get_or (one_more (reason_number why - 1) t.refusals) (reason_number why - 1) 0 ≡ count_of (reason_number why) t + 1) ⊎ (count_of (reason_number why) t ≡ 0)
        → count_of (reason_number why) t + 1 ≤ limit
    small (inl e) = omega (arith, e, w.refusals_in (reason_number why - 1))
    small (inr e) = omega (arith, e)

within_before : (v : Verdict) (t : Tally) → InLimit (after v t) → InLimit t
within_before (accepted c) t w =
    record {
      verdicts_in = omega (arith, w.verdicts_in);
      accepted_in = omega (arith, w.accepted_in);
      members_in = omega (arith, w.members_in);
      covers_in = omega (arith, w.covers_in);
      refusals_in = w.refusals_in;
    }
within_before (refused why place) t w =
    record {
      verdicts_in = omega (arith, w.verdicts_in);
      accepted_in = w.accepted_in;
      members_in = w.members_in;
      covers_in = w.covers_in;
      refusals_in = λ j. omega (arith, more_most (reason_number why - 1) j t.refusals, w.refusals_in j);
    }

-- ---- a list of verdicts: none gets 23 exactly if what all of them come to is within the limit

pub none_within : (t : Tally) (vs : List Verdict) → InLimit t → turned_away t vs ≡ 0 → InLimit (holding t vs)
none_within =
    by_taking (λ t vs. InLimit t → turned_away t vs ≡ 0 → InLimit (holding t vs)) (λ t w z. w)
    (λ t v vs e p w z. subst InLimit (after_inside v t vs) (p (fits_within v t w e) (sym (away_in t v vs e) ∙ z)))
    (λ t v vs e p w z. absurd (omega (arith, away_out t v vs e, z)))

within_first : (t : Tally) (vs : List Verdict) → InLimit (holding t vs) → InLimit t
within_first t [] w = w
within_first t (v ∷ vs) w = within_first t vs (within_before v (holding t vs) w)

pub within_none : (t : Tally) (vs : List Verdict) → InLimit (holding t vs) → (turned_away t vs ≡ 0) × (taken_in t vs ≡ vs)
unfolding turned_away taken_in
within_none t [] w = (refl, refl)
within_none t (v ∷ vs) w =
    let inside = subst InLimit (sym (after_inside v t vs)) w in
    let e = within_fits v t (within_first (after v t) vs inside) in
    let rest = within_none (after v t) vs inside in
    (away_in t v vs e ∙ rest.0, taken_in_lem t v vs e ∙ ap (λ (l : List Verdict). v ∷ l) rest.1)

-- the same verdicts in another order come to the same
pub holding_reordered : (t : Tally) {vs ws : List Verdict} → Reordered vs ws → holding t vs ≡ holding t ws
holding_reordered t same = refl
holding_reordered t (keep {v} r) = ap (after v) (holding_reordered t r)
holding_reordered t (swap {v} {w} {vs}) = after_comm v w (holding t vs)
holding_reordered t (then r s) = holding_reordered t r ∙ holding_reordered t s

begun_within : InLimit begun
begun_within = record { verdicts_in = omega arith; accepted_in = omega arith; members_in = omega arith; covers_in = omega arith; refusals_in = zeros 31 }
  where
    zeros : (n i : ℕ) → get_or (replicate n 0) i 0 ≤ limit
    zeros zero i = omega arith
    zeros (suc n) zero = omega arith
    zeros (suc n) (suc i) = zeros n i

pub order_from : (t : Tally) → InLimit t → (vs ws : List Verdict) → Reordered vs ws → turned_away t vs ≡ 0 → (turned_away t ws ≡ 0) × (tallied t ws ≡ tallied t vs)
order_from t begins vs ws r z =
    let w = none_within t vs begins z in
    let left = within_none t vs w in
    let right = within_none t ws (subst InLimit (holding_reordered t r) w) in (
      right.0,
      tallied_holds t ws ∙ ap (holding t) right.1 ∙ sym (holding_reordered t r) ∙ ap (holding t) (sym left.1) ∙ sym (tallied_holds t vs),
    )

-- "their order doesn't matter if none gets 23"
pub order_is_free : (vs ws : List Verdict) → Reordered vs ws → turned_away begun vs ≡ 0 → (turned_away begun ws ≡ 0) × (tallied begun ws ≡ tallied begun vs)
order_is_free = order_from begun begun_within
