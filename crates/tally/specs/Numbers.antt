-- A tally as the numbers that a host lends: verdicts, accepted, the sums of members and of covers, and from the fifth on the counts of refusals 1 to 31.
use Rattle.std.specs.Prelude.{cond, List, [], ◌∷◌, ◌++◌, ℕ, ltb, length, get_or, take, drop, Option, None, Some}
use Rattle.format.specs.Verdict.{Verdict}
use Rattle.tally.specs.Tally.{fits, tally_after}
use Rattle.tally.specs.declared.Tally.{Tally}
use Rattle.tally.specs.declared.Untaken.{Untaken}
use Rattle.tally.specs.declared.Untaken.TheVariants.{TooFew, Full}

abbrev pub numbers_of : Tally → List ℕ
numbers_of t = t.verdicts ∷ t.accepted ∷ t.members ∷ t.covers ∷ t.refusals

-- the tally that a host's numbers are
abbrev pub tally_from : List ℕ → Tally
tally_from l = record { verdicts = get_or l 0 0; accepted = get_or l 1 0; members = get_or l 2 0; covers = get_or l 3 0; refusals = take 31 (drop 4 l) }

-- why a verdict is not taken in: there are fewer than 35 numbers, or a count or sum would pass the limit; none where it is
unfoldable pub untaken : Verdict → List ℕ → Option Untaken
untaken v l = cond (ltb (length l) 35) (Some TooFew) (cond (fits v (tally_from l)) None (Some Full))

-- the host's numbers after a verdict: none beyond the 35 is touched, and none at all where they are fewer
unfoldable pub numbers_after : Verdict → List ℕ → List ℕ
numbers_after v l = cond (ltb (length l) 35) l (numbers_of (tally_after v (tally_from l)) ++ drop 35 l)

-- and after a list of verdicts, each taken in as it falls
abbrev pub numbers_all : List ℕ → List Verdict → List ℕ
numbers_all l [] = l
numbers_all l (v ∷ vs) = numbers_all (numbers_after v l) vs
