-- The call's answers in the numbers of the rules.
use Rattle.std.specs.Prelude.{[], ◌∷◌, cond, ℕ, eqb}
use Rattle.std.specs.Prelude.{Result, Ok, Err}
use Rattle.number.specs.CallResult.{CallResult}
use Rattle.translating.specs.Work.{fault_number}
use Rattle.translating.specs.declared.TranslateRefusal.{TranslateRefusal}
use Rattle.translating.specs.declared.TranslateRefusal.TheVariants.{AtLine, TooShort}

-- 0 with the bytes filled; 17, 18 or 19 with the line; 12 with the length needed
abbrev pub answer_result : Result ℕ TranslateRefusal → CallResult
answer_result (Ok k) = record { code = 0; values = k ∷ [] }
answer_result (Err (AtLine r)) = record { code = fault_number r.fault; values = r.line ∷ [] }
answer_result (Err (TooShort k)) = record { code = 12; values = k ∷ [] }

-- "V is their number, or 1 if none"
abbrev pub variables_of : ℕ → ℕ
variables_of met = cond (eqb met 0) 1 met
