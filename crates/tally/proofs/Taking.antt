-- One verdict taken in.
use mathlib.Core.Bool.{Bool, true, false, ◌&&◌, cond}
use mathlib.Core.List.{List, [], ◌∷◌}
use mathlib.Core.Path.{◌≡◌, refl, ap}
use Prim.Native.Nat.{ℕ, zero, suc, ◌+◌, ◌<◌, ◌≤◌}
use native.Mathlib.Omega.{arith}
use Rattle.std.proofs.Common.{None, Some, unwrap_or}
use borrow.Author.Tests.{le-leb, lt-leb, leb-true}
use lib.Dec.{leb}
use lib.ListN.{get_or, set}
use Rattle.format.specs.Parser.{Reason, reason_number}
use Rattle.format.specs.Verdict.{Verdict, Counts, accepted, refused}
use Rattle.lists.proofs.Test.{and_left, and_right}
use Rattle.tally.specs.Tally.{limit, one_more, after, count_of, fits, take_in, tally_after}
use Rattle.tally.specs.declared.Tally.{Tally}

-- one more at a place, as a store
pub one_more_lem : (l : List ℕ) (i : ℕ) → set l i (get_or l i 0 + 1) ≡ one_more i l
one_more_lem [] i = refl
one_more_lem (x ∷ xs) zero = refl
one_more_lem (x ∷ xs) (suc i) = ap (λ (l : List ℕ). x ∷ l) (one_more_lem xs i)

-- ---- taken in, or turned away

module _ (v : Verdict) (t : Tally) where
  pub goes_in : fits v t ≡ true → Some (after v t) ≡ take_in v t
  unfolding take_in
  goes_in e = rw e

  pub is_full : fits v t ≡ false → None ≡ take_in v t
  unfolding take_in
  is_full e = rw e

  -- a law of the tally after it, by whether it fits
  pub by_fit : (P : Tally → Type 0) → P (after v t) → P t → P (tally_after v t)
  unfolding take_in
  by_fit P inn out = go (fits v t)
    where
      go : (b : Bool) → P (unwrap_or (cond b (Some (after v t)) None) t)
      go true = inn
      go false = out

-- ---- what fits

-- no count or sum that an accepted verdict changes passes the limit
pub record FitsAccepted (t : Tally) (c : Counts) : Type 0 where
  pub one_verdict : t.verdicts + 1 ≤ limit
  pub one_accepted : t.accepted + 1 ≤ limit
  pub its_members : t.members + c.members ≤ limit
  pub its_covers : t.covers + c.covers ≤ limit

pub fits_accepted : (t : Tally) (c : Counts) → fits (accepted c) t ≡ true → FitsAccepted t c
fits_accepted t c e =
    let v = leb (t.verdicts + 1) limit in
    let a = leb (t.accepted + 1) limit in
    let m = leb (t.members + c.members) limit in
    let k = leb (t.covers + c.covers) limit in
    let vam = and_left (v && a && m) k e in
    let va = and_left (v && a) m vam in
    record {
      one_verdict = leb-true _ _ (and_left v a va);
      one_accepted = leb-true _ _ (and_right v a va);
      its_members = leb-true _ _ (and_right (v && a) m vam);
      its_covers = leb-true _ _ (and_right (v && a && m) k e);
    }

pub accepted_fits : (t : Tally) (c : Counts) → FitsAccepted t c → fits (accepted c) t ≡ true
accepted_fits t c f =
    simp (
      le-leb (t.verdicts + 1) limit f.one_verdict,
      le-leb (t.accepted + 1) limit f.one_accepted,
      le-leb (t.members + c.members) limit f.its_members,
      le-leb (t.covers + c.covers) limit f.its_covers,
    )

pub accepted_goes_in : (t : Tally) (c : Counts) → FitsAccepted t c → Some (after (accepted c) t) ≡ take_in (accepted c) t
accepted_goes_in t c f = goes_in (accepted c) t (accepted_fits t c f)

-- nor one that a refusal changes
pub record FitsRefused (t : Tally) (why : Reason) : Type 0 where
  pub one_verdict : t.verdicts + 1 ≤ limit
  pub one_count : count_of (reason_number why) t + 1 ≤ limit

module _ (t : Tally) (why : Reason) (place : ℕ) where
  pub fits_refused : fits (refused why place) t ≡ true → FitsRefused t why
  fits_refused e =
      record {
        one_verdict = leb-true _ _ (and_left (leb (t.verdicts + 1) limit) (leb (count_of (reason_number why) t + 1) limit) e);
        one_count = leb-true _ _ (and_right (leb (t.verdicts + 1) limit) (leb (count_of (reason_number why) t + 1) limit) e);
      }

  pub refused_fits : FitsRefused t why → fits (refused why place) t ≡ true
  refused_fits f = simp (le-leb (t.verdicts + 1) limit f.one_verdict, le-leb (count_of (reason_number why) t + 1) limit f.one_count)

  pub refused_goes_in : FitsRefused t why → Some (after (refused why place) t) ≡ take_in (refused why place) t
  refused_goes_in f = goes_in (refused why place) t (refused_fits f)

-- ---- the first number that is full: none

pub full_verdicts : (v : Verdict) (t : Tally) → limit ≤ t.verdicts → None ≡ take_in v t
full_verdicts (accepted c) t h = is_full (accepted c) t (simp (lt-leb (t.verdicts + 1) limit (omega arith)))
full_verdicts (refused why place) t h = is_full (refused why place) t (simp (lt-leb (t.verdicts + 1) limit (omega arith)))

module _ (t : Tally) (c : Counts) (v : t.verdicts < limit) where
  pub full_accepted : limit ≤ t.accepted → None ≡ take_in (accepted c) t
  full_accepted h = is_full (accepted c) t (simp (le-leb (t.verdicts + 1) limit (omega arith), lt-leb (t.accepted + 1) limit (omega arith)))

  module _ (a : t.accepted < limit) where
    pub full_members : limit < t.members + c.members → None ≡ take_in (accepted c) t
    full_members h =
        is_full (accepted c) t
        (simp (le-leb (t.verdicts + 1) limit (omega arith), le-leb (t.accepted + 1) limit (omega arith), lt-leb (t.members + c.members) limit h))

    pub full_covers : t.members + c.members ≤ limit → limit < t.covers + c.covers → None ≡ take_in (accepted c) t
    full_covers m h =
        is_full (accepted c) t
        (simp (
          le-leb (t.verdicts + 1) limit (omega arith),
          le-leb (t.accepted + 1) limit (omega arith),
          le-leb (t.members + c.members) limit m,
          lt-leb (t.covers + c.covers) limit h,
        ))

pub full_count : (t : Tally) (why : Reason) (place : ℕ) → t.verdicts < limit → limit ≤ count_of (reason_number why) t → None ≡ take_in (refused why place) t
full_count t why place v h =
    is_full (refused why place) t (simp (le-leb (t.verdicts + 1) limit (omega arith), lt-leb (count_of (reason_number why) t + 1) limit (omega arith)))
