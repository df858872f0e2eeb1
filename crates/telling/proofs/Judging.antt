-- What `check` promises of its answer, as the number tells it: 0 exactly where the conditions hold, and then no run meets a forbidden shape.
use mathlib.Core.List.{List}
use mathlib.Core.Logic.{◌↔◌}
use mathlib.Core.Path.{◌≡◌, refl, sym, ap, ◌∙◌, subst}
use Prim.Native.Nat.{ℕ}
use native.Mathlib.Omega.{arith}
use Rattle.format.specs.Conditions.{Conditions, Acceptable}
use Rattle.format.specs.JobBytes.{SafeBytes}
use Rattle.format.specs.Parser.{Reason, reason_number}
use Rattle.format.specs.Verdict.{Verdict, Counts, accepted, refused, verdict}
use Rattle.verdict.specs.Verdict.{reason_of, counts_told, verdict_of, verdict_result}
use Rattle.verdict.specs.declared.Counts.{Counts as CountsAnswer}
use Rattle.verdict.specs.declared.Refused.{Refused}
use Rattle.std.specs.Prelude.{Result, Ok, Err}
use Rattle.verdict.proofs.Numbers.{numbered}

-- the number 0 says that the certificate is acceptable and the job safe
abbrev pub Told : List ℕ → List ℕ → ℕ → Type 0
Told job cert code = ((code ≡ 0) ↔ Acceptable job cert) × (code ≡ 0 → SafeBytes job)

-- what `check` promises of its answer r
module _
    (job cert : List ℕ)
    (r : Result CountsAnswer Refused)
    (is : verdict_of r ≡ verdict job cert)
    (exact : (c : Counts) → (verdict_of r ≡ accepted c) ↔ Conditions job cert c)
    (safe : (c : CountsAnswer) → r ≡ Ok c → SafeBytes job)
  where
    told_accepted : (c : CountsAnswer) → r ≡ Ok c → Told job cert 0
    told_accepted c r-is = ((λ z. (counts_told c, (exact (counts_told c)).0 (ap verdict_of r-is)), λ d. refl), λ z. safe c r-is)

    told_refused : (why : Refused) (code : ℕ) → r ≡ Err why → code ≡ reason_number (reason_of why.refusal) → Told job cert code
    told_refused why code r-is code_is =
        ((λ z. absurd (not_zero z), λ (c, d). absurd (not_accepted (sym ((exact c).1 d) ∙ ap verdict_of r-is))), λ z. absurd (not_zero z))
      where
        not_zero : ¬ (code ≡ 0)
        not_zero z = absurd (omega (arith, (numbered why.refusal).0, code_is))

        not_accepted : {c : Counts} {reason : Reason} {at : ℕ} → ¬ (◌≡◌ {A = Verdict} (accepted c) (refused reason at))
        not_accepted e = let z : ◌≡◌ {A = ℕ} 0 1 = cc in absurd (omega arith)

    -- so its number says it
    pub told : (code : ℕ) → code ≡ (verdict_result (verdict_of r)).code → Told job cert code
    told code e = go r refl
      where
        go : (a : Result CountsAnswer Refused) → r ≡ a → Told job cert code
        go (Ok c) r-is = subst (Told job cert) (sym (e ∙ ap (λ (a : Result CountsAnswer Refused). (verdict_result (verdict_of a)).code) r-is)) (told_accepted c r-is)
        go (Err why) r-is = told_refused why code r-is (e ∙ ap (λ (a : Result CountsAnswer Refused). (verdict_result (verdict_of a)).code) r-is)
