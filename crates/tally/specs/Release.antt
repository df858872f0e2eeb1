-- A release: a list of verdicts, each taken in as it falls.
use Rattle.std.specs.Prelude.{Bool, true, false, cond, List, [], ◌∷◌, ◌≡◌, ℕ, suc, ◌+◌, ◌≤◌, eqb, length, is_some}
use Rattle.format.specs.Parser.{reason_number}
use Rattle.format.specs.Verdict.{Verdict, accepted, refused, verdict}
use Rattle.lists.specs.List.{sum}
use Rattle.tally.specs.Tally.{count_of, fits, take_in, tally_after}
use Rattle.tally.specs.declared.Tally.{Tally}

-- what the tally then is
unfoldable pub tallied : Tally → List Verdict → Tally
tallied t [] = t
tallied t (v ∷ vs) = tallied (tally_after v t) vs

-- those that were taken in: "one that gets 23 isn't"
unfoldable pub taken_in : Tally → List Verdict → List Verdict
taken_in t [] = []
taken_in t (v ∷ vs) = let rest = taken_in (tally_after v t) vs in cond (fits v t) (v ∷ rest) rest

-- how many got 23
unfoldable pub turned_away : Tally → List Verdict → ℕ
turned_away t [] = 0
turned_away t (v ∷ vs) = let rest = turned_away (tally_after v t) vs in cond (is_some (take_in v t)) rest (suc rest)

-- ---- what a list of verdicts says

abbrev pub is_accepted : Verdict → Bool
is_accepted (accepted c) = true
is_accepted (refused why place) = false

-- the verdict is refusal k
abbrev pub is_refusal : ℕ → Verdict → Bool
is_refusal k (accepted c) = false
is_refusal k (refused why place) = eqb (reason_number why) k

-- "sums of members and covers over the accepted"
abbrev pub members_of : Verdict → ℕ
members_of (accepted c) = c.members
members_of (refused why place) = 0

abbrev pub covers_of : Verdict → ℕ
covers_of (accepted c) = c.covers
covers_of (refused why place) = 0

-- how many of a list pass a test
abbrev pub count_in : (Verdict → Bool) → List Verdict → ℕ
count_in test [] = 0
count_in test (v ∷ vs) = cond (test v) 1 0 + count_in test vs

-- a number of each, added up
abbrev pub sum_of : (Verdict → ℕ) → List Verdict → ℕ
sum_of f [] = 0
sum_of f (v ∷ vs) = f v + sum_of f vs

-- The tally says what a list of verdicts says. "Accepted and refused together make the length of the list of verdicts taken in since the tally began."
pub record SaysOf (vs : List Verdict) (t : Tally) : Type 0 where
  pub verdicts_are : t.verdicts ≡ length vs
  pub together : t.accepted + sum t.refusals ≡ length vs
  pub accepted_are : t.accepted ≡ count_in is_accepted vs
  pub refusals_are : (k : ℕ) → 1 ≤ k → k ≤ 31 → count_of k t ≡ count_in (is_refusal k) vs
  pub members_are : t.members ≡ sum_of members_of vs
  pub covers_are : t.covers ≡ sum_of covers_of vs

-- a refusal's number is one of 1 to 31
abbrev pub Numbered : Verdict → Type 0
Numbered (accepted c) = Unit {0}
Numbered (refused why place) = (1 ≤ reason_number why) × (reason_number why ≤ 31)

abbrev pub AllNumbered : List Verdict → Type 0
AllNumbered [] = Unit {0}
AllNumbered (v ∷ vs) = Numbered v × AllNumbered vs

-- the verdicts on pairs of a job's and a certificate's bytes
abbrev pub verdicts_on : List (List ℕ × List ℕ) → List Verdict
verdicts_on [] = []
verdicts_on ((job, certificate) ∷ pairs) = verdict job certificate ∷ verdicts_on pairs

-- the same verdicts in another order
pub data Reordered : List Verdict → List Verdict → Type 0 where
  same : {vs : List Verdict} → Reordered vs vs
  keep : {v : Verdict} {vs ws : List Verdict} → Reordered vs ws → Reordered (v ∷ vs) (v ∷ ws)
  swap : {v w : Verdict} {vs : List Verdict} → Reordered (v ∷ w ∷ vs) (w ∷ v ∷ vs)
  then : {us vs ws : List Verdict} → Reordered us vs → Reordered vs ws → Reordered us ws
