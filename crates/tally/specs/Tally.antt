-- The running tally (document 02, wish 10): "one running tally takes in each verdict as it falls. It holds verdicts, accepted ones, a count for each refusal
-- number, and sums of members and covers over the accepted."
use Rattle.std.specs.Prelude.{Bool, ◌&&◌, cond, List, [], ◌∷◌, ℕ, zero, suc, ◌+◌, ◌-◌, leb, get_or, replicate, Option, None, Some, unwrap_or}
use Rattle.format.specs.Parser.{reason_number}
use Rattle.format.specs.Verdict.{Verdict, accepted, refused}
use Rattle.tally.specs.declared.Tally.{Tally}

-- "4,294,967,295"
abbrev pub limit : ℕ
limit = 4294967295

-- a tally that has begun: 31 refusals, none yet
abbrev pub begun : Tally
begun = record { verdicts = 0; accepted = 0; members = 0; covers = 0; refusals = replicate 31 0 }

-- one more at a place of a list
abbrev pub one_more : ℕ → List ℕ → List ℕ
one_more i [] = []
one_more zero (x ∷ xs) = (x + 1) ∷ xs
one_more (suc i) (x ∷ xs) = x ∷ one_more i xs

-- the tally after a verdict, whatever its numbers come to; the count of refusal k stands at k - 1
abbrev pub after : Verdict → Tally → Tally
after (accepted c) t =
    record { verdicts = t.verdicts + 1; accepted = t.accepted + 1; members = t.members + c.members; covers = t.covers + c.covers; refusals = t.refusals }
after (refused why place) t =
    record { verdicts = t.verdicts + 1; accepted = t.accepted; members = t.members; covers = t.covers; refusals = one_more (reason_number why - 1) t.refusals }

-- the count of refusal k
abbrev pub count_of : ℕ → Tally → ℕ
count_of k t = get_or t.refusals (k - 1) 0

-- no count or sum that the verdict changes would pass the limit
abbrev pub fits : Verdict → Tally → Bool
fits (accepted c) t = leb (t.verdicts + 1) limit && leb (t.accepted + 1) limit && leb (t.members + c.members) limit && leb (t.covers + c.covers) limit
fits (refused why place) t = leb (t.verdicts + 1) limit && leb (count_of (reason_number why) t + 1) limit

-- the tally that takes in a verdict; none where a count or sum would pass the limit
unfoldable pub take_in : Verdict → Tally → Option Tally
take_in v t = cond (fits v t) (Some (after v t)) None

-- "When a count or sum would pass 4,294,967,295 the tally is handed back unchanged with 23."
abbrev pub tally_after : Verdict → Tally → Tally
tally_after v t = unwrap_or (take_in v t) t
