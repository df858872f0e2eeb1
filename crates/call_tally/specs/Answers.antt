-- What the calls of the tally answer.
use Rattle.std.specs.Prelude.{cond, List, [], ◌∷◌, ℕ, ltb, length, Option, None, Some, Result, Ok, Err}
use Rattle.format.specs.Verdict.{Verdict}
use Rattle.number.specs.CallResult.{CallResult, lent}
use Rattle.sheet.specs.Sheet.{sheet_text, reported}
use Rattle.sheet.specs.declared.TooShort.{TooShort}
use Rattle.tally.specs.Numbers.{tally_from, untaken}
use Rattle.tally.specs.declared.Untaken.{Untaken}
use Rattle.tally.specs.declared.Untaken.TheVariants.{TooFew, Full}
use Rattle.verdict.specs.Verdict.{verdict_result}

-- The verdict v on the pair, and why a host's numbers do not take it in: 12 with 35 where they are fewer, 23 with the verdict's number where a count or sum would
-- pass the limit, else what is told of the verdict.
abbrev pub told_of : Verdict → Option Untaken → CallResult
told_of v None = verdict_result v
told_of v (Some TooFew) = record { code = 12; values = 35 ∷ 0 ∷ 0 ∷ 0 ∷ [] }
told_of v (Some Full) = record { code = 23; values = (verdict_result v).code ∷ 0 ∷ 0 ∷ 0 ∷ [] }

abbrev pub tally_result : Verdict → List ℕ → CallResult
tally_result v l = told_of v (untaken v l)

-- the sheet of a host's numbers
abbrev pub sheet_from : List ℕ → List ℕ
sheet_from l = sheet_text (tally_from l).verdicts (tally_from l).accepted (tally_from l).covers

-- 0 with the bytes filled; 12 with the length needed where the room is short
abbrev pub sheet_told : Result ℕ TooShort → CallResult
sheet_told (Ok length) = record { code = 0; values = length ∷ 0 ∷ [] }
sheet_told (Err short) = record { code = 12; values = short.needed ∷ 0 ∷ [] }

-- 12 with 35 and 1 where the tally is short, which is tried first
abbrev pub report_result : List ℕ → ℕ → CallResult
report_result l room = cond (ltb (length l) 35) (record { code = 12; values = 35 ∷ 1 ∷ [] }) (sheet_told (reported (sheet_from l) room))

-- the text after it: a refusal leaves it as it was
abbrev pub report_output : List ℕ → List ℕ → List ℕ
report_output l text = cond (ltb (length l) 35) text (lent (sheet_from l) text)
