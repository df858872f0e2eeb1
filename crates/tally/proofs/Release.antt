-- What a tally says: the counts and sums of the verdicts that were taken in.
use mathlib.Core.Bool.{Bool, true, false, cond}
use mathlib.Core.List.{List, [], ◌∷◌}
use mathlib.Core.Path.{◌≡◌, refl, sym, ap, ◌∙◌}
use Prim.Native.Nat.{ℕ, zero, suc, ◌+◌, ◌-◌, ◌<◌, ◌≤◌}
use native.Mathlib.Nat.{not-suc-le-zero}
use native.Mathlib.Omega.{arith}
use borrow.Author.Tests.{eqb-true, eqb-false}
use lib.Dec.{eqb}
use lib.ListN.{length, get_or, get_or-replicate}
use Rattle.format.specs.Parser.{reason_number}
use Rattle.format.specs.Verdict.{Verdict, accepted, refused}
use Rattle.lists.specs.List.{sum}
use Rattle.tally.specs.Release.{tallied, taken_in, turned_away, is_accepted, is_refusal, members_of, covers_of, count_in, sum_of, SaysOf, AllNumbered}
use Rattle.tally.specs.Tally.{begun, one_more, after, count_of, fits, take_in}
use Rattle.tally.specs.declared.Tally.{Tally}

abbrev made : ℕ → ℕ → ℕ → ℕ → List ℕ → Tally
made v a m c l = record { verdicts = v; accepted = a; members = m; covers = c; refusals = l }

-- tallies with the same numbers are the same
pub same_tally : {t u : Tally} → t.verdicts ≡ u.verdicts → t.accepted ≡ u.accepted → t.members ≡ u.members → t.covers ≡ u.covers → t.refusals ≡ u.refusals → t ≡ u
same_tally {t} {u} a b c d e =
    ap (λ (n : ℕ). made n t.accepted t.members t.covers t.refusals) a
    ∙ ap (λ (n : ℕ). made u.verdicts n t.members t.covers t.refusals) b
    ∙ ap (λ (n : ℕ). made u.verdicts u.accepted n t.covers t.refusals) c
    ∙ ap (λ (n : ℕ). made u.verdicts u.accepted u.members n t.refusals) d
    ∙ ap (λ (l : List ℕ). made u.verdicts u.accepted u.members u.covers l) e

-- the tally that holds the verdicts of a list beside what it held, whatever its numbers come to
abbrev pub holding : Tally → List Verdict → Tally
holding t [] = t
holding t (v ∷ vs) = after v (holding t vs)

-- ---- one more at a place

more_comm : (i j : ℕ) (l : List ℕ) → one_more i (one_more j l) ≡ one_more j (one_more i l)
more_comm i j [] = refl
more_comm zero zero (x ∷ xs) = refl
more_comm zero (suc j) (x ∷ xs) = refl
more_comm (suc i) zero (x ∷ xs) = refl
more_comm (suc i) (suc j) (x ∷ xs) = ap (λ (l : List ℕ). x ∷ l) (more_comm i j xs)

pub length_more : (i : ℕ) (l : List ℕ) → length (one_more i l) ≡ length l
length_more i [] = refl
length_more zero (x ∷ xs) = refl
length_more (suc i) (x ∷ xs) = ap suc (length_more i xs)

more_here : (i : ℕ) (l : List ℕ) → i < length l → get_or (one_more i l) i 0 ≡ get_or l i 0 + 1
more_here i [] h = absurd (not-suc-le-zero h)
more_here zero (x ∷ xs) h = refl
more_here (suc i) (x ∷ xs) h = more_here i xs (omega arith)

more_there : (i j : ℕ) (l : List ℕ) → ¬ (i ≡ j) → get_or (one_more i l) j 0 ≡ get_or l j 0
more_there i j [] d = refl
more_there zero zero (x ∷ xs) d = absurd (d refl)
more_there zero (suc j) (x ∷ xs) d = refl
more_there (suc i) zero (x ∷ xs) d = refl
more_there (suc i) (suc j) (x ∷ xs) d = more_there i j xs (λ e. d (ap suc e))

more_sum : (i : ℕ) (l : List ℕ) → i < length l → sum (one_more i l) ≡ sum l + 1
more_sum i [] h = absurd (not-suc-le-zero h)
more_sum zero (x ∷ xs) h = omega arith
more_sum (suc i) (x ∷ xs) h = omega (arith, more_sum i xs (omega arith))

-- ---- the order of two verdicts doesn't matter

pub after_comm : (v w : Verdict) (t : Tally) → after v (after w t) ≡ after w (after v t)
after_comm (accepted c) (accepted d) t = same_tally refl refl (omega arith) (omega arith) refl
after_comm (accepted c) (refused why place) t = refl
after_comm (refused why place) (accepted d) t = refl
after_comm (refused why place) (refused why' place') t = same_tally refl refl refl refl (more_comm (reason_number why - 1) (reason_number why' - 1) t.refusals)

pub after_inside : (v : Verdict) (t : Tally) (ws : List Verdict) → holding (after v t) ws ≡ after v (holding t ws)
after_inside v t [] = refl
after_inside v t (w ∷ ws) = ap (after w) (after_inside v t ws) ∙ after_comm w v (holding t ws)

-- ---- the first of a list, taken in or not

module _ (t : Tally) (v : Verdict) (vs : List Verdict) where
  module _ (e : fits v t ≡ true) where
    pub tallied_in : tallied t (v ∷ vs) ≡ tallied (after v t) vs
    unfolding tallied take_in
    tallied_in = rw e

    pub taken_in_lem : taken_in t (v ∷ vs) ≡ v ∷ taken_in (after v t) vs
    unfolding taken_in take_in
    taken_in_lem = rw e

    pub away_in : turned_away t (v ∷ vs) ≡ turned_away (after v t) vs
    unfolding turned_away take_in
    away_in = rw e

  module _ (e : fits v t ≡ false) where
    pub tallied_out : tallied t (v ∷ vs) ≡ tallied t vs
    unfolding tallied take_in
    tallied_out = rw e

    pub taken_out : taken_in t (v ∷ vs) ≡ taken_in t vs
    unfolding taken_in take_in
    taken_out = rw e

    pub away_out : turned_away t (v ∷ vs) ≡ suc (turned_away t vs)
    unfolding turned_away take_in
    away_out = rw e

-- a law of a tally and a list, by whether the first is taken in
pub by_taking : (P : Tally → List Verdict → Type 0) → ((t : Tally) → P t [])
    → ((t : Tally) (v : Verdict) (vs : List Verdict) → fits v t ≡ true → P (after v t) vs → P t (v ∷ vs))
    → ((t : Tally) (v : Verdict) (vs : List Verdict) → fits v t ≡ false → P t vs → P t (v ∷ vs)) → (t : Tally) (vs : List Verdict) → P t vs
by_taking P none inn out t [] = none t
by_taking P none inn out t (v ∷ vs) = go (fits v t) refl (by_taking P none inn out (after v t) vs) (by_taking P none inn out t vs)
  where
    go : (b : Bool) → fits v t ≡ b → P (after v t) vs → P t vs → P t (v ∷ vs)
    go true e p q = inn t v vs e p
    go false e p q = out t v vs e q

-- ---- the tally holds those that were taken in

pub tallied_holds : (t : Tally) (vs : List Verdict) → tallied t vs ≡ holding t (taken_in t vs)
unfolding tallied taken_in
tallied_holds =
    by_taking (λ t vs. tallied t vs ≡ holding t (taken_in t vs)) (λ t. refl)
    (λ t v vs e p. tallied_in t v vs e ∙ p ∙ after_inside v t (taken_in (after v t) vs) ∙ ap (holding t) (sym (taken_in_lem t v vs e)))
    (λ t v vs e p. tallied_out t v vs e ∙ p ∙ ap (holding t) (sym (taken_out t v vs e)))

-- each verdict was taken in or got 23
pub taken_or_not : (t : Tally) (vs : List Verdict) → length (taken_in t vs) + turned_away t vs ≡ length vs
unfolding taken_in turned_away
taken_or_not =
    by_taking (λ t vs. length (taken_in t vs) + turned_away t vs ≡ length vs) (λ t. refl)
    (λ t v vs e p. omega (arith, ap length (taken_in_lem t v vs e), away_in t v vs e))
    (λ t v vs e p. omega (arith, ap length (taken_out t v vs e), away_out t v vs e))

pub taken_numbered : (t : Tally) (vs : List Verdict) → AllNumbered vs → AllNumbered (taken_in t vs)
unfolding taken_in
taken_numbered =
    by_taking (λ t vs. AllNumbered vs → AllNumbered (taken_in t vs)) (λ t n. tt)
    (λ t v vs e p n. rw (taken_in_lem t v vs e) (n.0, p n.1))
    (λ t v vs e p n. rw (taken_out t v vs e) (p n.1))

-- ---- what it then holds

module _ (t : Tally) where
  pub held_verdicts : (vs : List Verdict) → (holding t vs).verdicts ≡ t.verdicts + length vs
  held_verdicts [] = omega arith
  held_verdicts (accepted c ∷ vs) = omega (arith, held_verdicts vs)
  held_verdicts (refused why place ∷ vs) = omega (arith, held_verdicts vs)

  pub held_accepted : (vs : List Verdict) → (holding t vs).accepted ≡ t.accepted + count_in is_accepted vs
  held_accepted [] = omega arith
  held_accepted (accepted c ∷ vs) = omega (arith, held_accepted vs)
  held_accepted (refused why place ∷ vs) = omega (arith, held_accepted vs)

  pub held_members : (vs : List Verdict) → (holding t vs).members ≡ t.members + sum_of members_of vs
  held_members [] = omega arith
  held_members (accepted c ∷ vs) = omega (arith, held_members vs)
  held_members (refused why place ∷ vs) = omega (arith, held_members vs)

  pub held_covers : (vs : List Verdict) → (holding t vs).covers ≡ t.covers + sum_of covers_of vs
  held_covers [] = omega arith
  held_covers (accepted c ∷ vs) = omega (arith, held_covers vs)
  held_covers (refused why place ∷ vs) = omega (arith, held_covers vs)

  held_length : (vs : List Verdict) → length (holding t vs).refusals ≡ length t.refusals
  held_length [] = refl
  held_length (accepted c ∷ vs) = held_length vs
  held_length (refused why place ∷ vs) = length_more (reason_number why - 1) (holding t vs).refusals ∙ held_length vs

  module _ (whole : length t.refusals ≡ 31) where
    pub held_refusals : (k : ℕ) → 1 ≤ k → k ≤ 31 → (vs : List Verdict) → AllNumbered vs → count_of k (holding t vs) ≡ count_of k t + count_in (is_refusal k) vs
    held_refusals k l h [] n = omega arith
    held_refusals k l h (accepted c ∷ vs) n = omega (arith, held_refusals k l h vs n.1)
    held_refusals k l h (refused why place ∷ vs) n = go (eqb (reason_number why) k) refl (held_refusals k l h vs n.1)
      where
        go : (b : Bool) → eqb (reason_number why) k ≡ b → count_of k (holding t vs) ≡ count_of k t + count_in (is_refusal k) vs
            → count_of k (holding t (refused why place ∷ vs)) ≡ count_of k t + (cond b 1 0 + count_in (is_refusal k) vs)
        go true e i =
            let here : reason_number why - 1 ≡ k - 1 = omega (arith, eqb-true (reason_number why) k e) in
            ap (λ (j : ℕ). get_or (one_more j (holding t vs).refusals) (k - 1) 0) here
            ∙ more_here (k - 1) (holding t vs).refusals (omega (arith, held_length vs, whole))
            ∙ omega (arith, i)
        go false e i =
            more_there (reason_number why - 1) (k - 1) (holding t vs).refusals (λ z. eqb-false (reason_number why) k e (omega (arith, z, n.0.0)))
            ∙ omega (arith, i)

    pub held_sum : (vs : List Verdict) → AllNumbered vs → (holding t vs).accepted + sum (holding t vs).refusals ≡ t.accepted + sum t.refusals + length vs
    held_sum [] n = omega arith
    held_sum (accepted c ∷ vs) n = omega (arith, held_sum vs n.1)
    held_sum (refused why place ∷ vs) n =
        omega (arith, held_sum vs n.1, more_sum (reason_number why - 1) (holding t vs).refusals (omega (arith, held_length vs, whole, n.0.0, n.0.1)))

-- ---- a tally that begins with zeros says of a list of verdicts what those that were taken in say

pub says : (vs : List Verdict) → AllNumbered vs → SaysOf (taken_in begun vs) (tallied begun vs)
says vs n =
    rw (tallied_holds begun vs) (
    record {
      verdicts_are = omega (arith, held_verdicts begun those);
      together = omega (arith, held_sum begun refl those numbered);
      accepted_are = omega (arith, held_accepted begun those);
      refusals_are = λ k l h. omega (arith, held_refusals begun refl k l h those numbered, get_or-replicate {A = ℕ} 31 (k - 1) 0 0 (omega arith));
      members_are = omega (arith, held_members begun those);
      covers_are = omega (arith, held_covers begun those);
    }
    )
  where
    those : List Verdict
    those = taken_in begun vs

    numbered : AllNumbered those
    numbered = taken_numbered begun vs n
