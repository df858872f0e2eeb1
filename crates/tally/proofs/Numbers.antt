-- A tally and its numbers.
use mathlib.Core.List.{List, [], ◌∷◌, ◌++◌, append-nil}
use mathlib.Core.Path.{◌≡◌, refl, sym, ap, ap₂, ◌∙◌}
use Prim.Native.Nat.{ℕ, ◌-◌, ◌<◌, ◌≤◌}
use native.Mathlib.Decide.{dec_lt}
use native.Mathlib.Omega.{arith}
use borrow.Author.Tests.{lt-ltb, le-ltb}
use lib.ListN.{length, get_or, take, drop, replicate, length-drop, take-append-drop, length-append}
use lib.Seq.{drop-cons, drop-drop, take_at, length-take-le, drop_at}
use Rattle.format.specs.Parser.{reason_number}
use Rattle.format.specs.Verdict.{Verdict, accepted, refused}
use Rattle.tally.proofs.Taking.{by_fit}
use Rattle.tally.proofs.Release.{length_more}
use Rattle.tally.specs.Numbers.{numbers_of, tally_from, untaken, numbers_after, numbers_all}
use Rattle.tally.specs.Release.{tallied}
use Rattle.tally.specs.Tally.{begun, after, fits, take_in, tally_after}
use Rattle.tally.specs.declared.Tally.{Tally}
use Rattle.tally.specs.declared.Untaken.{Untaken}
use Rattle.tally.specs.declared.Untaken.TheVariants.{TooFew, Full}
use Rattle.std.proofs.Common.{Option, None, Some, unwrap_or, Bool, true, false, cond}

-- the numbers of the tally that a host's numbers are: the first 35
pub numbers_back : (l : List ℕ) → 35 ≤ length l → numbers_of (tally_from l) ++ drop 35 l ≡ l
numbers_back l h =
    ap (λ (r : List ℕ). get_or l 0 0 ∷ get_or l 1 0 ∷ get_or l 2 0 ∷ get_or l 3 0 ∷ r) rest
    ∙ sym
    (drop-cons l 0 0 (omega arith) ∙ ap (λ (r : List ℕ). get_or l 0 0 ∷ r) (drop-cons l 1 0 (omega arith)
    ∙ ap (λ (r : List ℕ). get_or l 1 0 ∷ r) (drop-cons l 2 0 (omega arith) ∙ ap (λ (r : List ℕ). get_or l 2 0 ∷ r) (drop-cons l 3 0 (omega arith)))))
  where
    rest : take 31 (drop 4 l) ++ drop 35 l ≡ drop 4 l
    rest = ap (λ (r : List ℕ). take 31 (drop 4 l) ++ r) (sym (drop-drop 31 4 l)) ∙ take-append-drop 31 (drop 4 l)

-- and the tally that a tally's numbers are: itself
pub tally_back : (t : Tally) (rest : List ℕ) → length t.refusals ≡ 31 → tally_from (numbers_of t ++ rest) ≡ t
tally_back t rest e =
    ap (λ (r : List ℕ). record { verdicts = t.verdicts; accepted = t.accepted; members = t.members; covers = t.covers; refusals = r }) (take_at t.refusals rest 31 e)

-- ---- a verdict taken in by a host's numbers

module _ (v : Verdict) (l : List ℕ) where
  pub too_few : length l < 35 → (Some TooFew ≡ untaken v l) × (l ≡ numbers_after v l)
  unfolding untaken numbers_after
  too_few h = rw (lt-ltb (length l) 35 h) (refl, refl)

  module _ (h : 35 ≤ length l) where
    pub numbers_enough : numbers_of (tally_after v (tally_from l)) ++ drop 35 l ≡ numbers_after v l
    unfolding numbers_after
    numbers_enough = rw (le-ltb (length l) 35 h) refl

    -- where the tally is full, all is left as it was
    pub full_told : take_in v (tally_from l) ≡ None → (Some Full ≡ untaken v l) × (l ≡ numbers_after v l)
    unfolding take_in untaken
    full_told e = (
      rw (le-ltb (length l) 35 h) (go (fits v (tally_from l)) e),
      sym (numbers_back l h) ∙ ap (λ (o : Option Tally). numbers_of (unwrap_or o (tally_from l)) ++ drop 35 l) (sym e) ∙ numbers_enough,
    )
      where
        go : (b : Bool) → cond b (Some (after v (tally_from l))) None ≡ None → Some Full ≡ cond b None (Some Full)
        go true e = cc
        go false e = refl

    -- where it is not, the tally after the verdict stands there
    pub taken_told : (t : Tally) → take_in v (tally_from l) ≡ Some t → (None ≡ untaken v l) × (numbers_of t ++ drop 35 l ≡ numbers_after v l)
    unfolding take_in untaken
    taken_told t e = (
      rw (le-ltb (length l) 35 h) (go (fits v (tally_from l)) e),
      ap (λ (o : Option Tally). numbers_of (unwrap_or o (tally_from l)) ++ drop 35 l) (sym e) ∙ numbers_enough,
    )
      where
        go : (b : Bool) → cond b (Some (after v (tally_from l))) None ≡ Some t → None ≡ cond b None (Some Full)
        go true e = refl
        go false e = cc

    size : length (tally_after v (tally_from l)).refusals ≡ 31
    size =
        by_fit v (tally_from l) (λ (t : Tally). length t.refusals ≡ length (take 31 (drop 4 l))) (after_size v (tally_from l)) refl
        ∙ length-take-le 31 (drop 4 l) (omega (arith, length-drop 4 l))
      where
        after_size : (v : Verdict) (t : Tally) → length (after v t).refusals ≡ length t.refusals
        after_size (accepted c) t = refl
        after_size (refused why place) t = length_more (reason_number why - 1) t.refusals

    from_after : tally_from (numbers_after v l) ≡ (tally_after v (tally_from l))
    from_after = ap tally_from (sym numbers_enough) ∙ tally_back (tally_after v (tally_from l)) (drop 35 l) size

    rest_after : drop 35 (numbers_after v l) ≡ drop 35 l
    rest_after = ap (drop 35) (sym numbers_enough) ∙ drop_at (numbers_of (tally_after v (tally_from l))) (drop 35 l) 35 (omega (arith, size))

    enough_after : 35 ≤ length (numbers_after v l)
    enough_after = omega (arith, size, ap length (sym numbers_enough) ∙ length-append (numbers_of (tally_after v (tally_from l))) (drop 35 l))

    -- where they are enough, nothing but a full tally refuses
    pub enough_full : {u : Untaken} → Some u ≡ untaken v l → Some Full ≡ untaken v l
    enough_full e = by_take (take_in v (tally_from l)) refl
      where
        by_take : (o : Option Tally) → take_in v (tally_from l) ≡ o → Some Full ≡ untaken v l
        by_take None is = (full_told is).0
        by_take (Some t) is = let z = e ∙ sym (taken_told t is).0 in cc

  -- a refusal leaves them as they are
  pub numbers_same : ¬ (untaken v l ≡ None) → numbers_after v l ≡ l
  numbers_same e = by_length (dec_lt (length l) 35)
    where
      by_take : (h : 35 ≤ length l) (o : Option Tally) → take_in v (tally_from l) ≡ o → numbers_after v l ≡ l
      by_take h None is = sym (full_told h is).1
      by_take h (Some t) is = absurd (e (sym (taken_told h t is).0))

      by_length : Dec (length l < 35) → numbers_after v l ≡ l
      by_length (yes few) = sym (too_few few).1
      by_length (no many) = by_take (omega arith) (take_in v (tally_from l)) refl

-- ---- array and struct agree over a list of verdicts

pub numbers_tallied : (l : List ℕ) (vs : List Verdict) → 35 ≤ length l → numbers_all l vs ≡ numbers_of (tallied (tally_from l) vs) ++ drop 35 l
unfolding tallied
numbers_tallied l [] h = sym (numbers_back l h)
numbers_tallied l (v ∷ vs) h =
    numbers_tallied (numbers_after v l) vs (enough_after v l h)
    ∙ ap₂ (λ (t : Tally) (r : List ℕ). numbers_of (tallied t vs) ++ r) (from_after v l h) (rest_after v l h)

-- 35 zeros are a tally that has begun
pub zeros_tallied : (vs : List Verdict) → numbers_all (replicate 35 0) vs ≡ numbers_of (tallied begun vs)
zeros_tallied vs = numbers_tallied (replicate 35 0) vs (omega arith) ∙ append-nil (numbers_of (tallied begun vs))
