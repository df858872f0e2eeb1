-- The code's answers in the numbers of documents 01 and 02.
use Rattle.std.specs.Prelude.{[], ◌∷◌, ℕ, Result, Ok, Err}
use Rattle.format.specs.Parser.{Reason, refusal, broken_rule, reason_number, Parsed, parsed, fault}
use Rattle.format.specs.Verdict.{Counts, Verdict, accepted, refused}
use Rattle.number.specs.CallResult.{CallResult}
use Rattle.verdict.specs.declared.Counts.{Counts as CountsAnswer}
use Rattle.verdict.specs.declared.Refused.{Refused as RefusedAt}
use Rattle.verdict.specs.declared.Refusal.{Refusal}
use Rattle.verdict.specs.declared.Refusal.TheVariants.{JobLength, CertificateLength, JobUnreadable, JobRange, JobLeft, CertificateUnreadable, CertificateRange, StartSatisfied, CoverFails, CertificateLeft, VersionsDiffer}

-- document 01, "Refusals, in checking order"
abbrev pub reason_of : Refusal → Reason
reason_of JobLength = refusal 1
reason_of CertificateLength = refusal 2
reason_of JobUnreadable = refusal 3
reason_of JobRange = refusal 4
reason_of JobLeft = refusal 5
reason_of CertificateUnreadable = refusal 6
reason_of CertificateRange = refusal 7
reason_of StartSatisfied = refusal 8
reason_of (CoverFails broken) = broken_rule broken.rule broken.name
reason_of CertificateLeft = refusal 10
reason_of VersionsDiffer = refusal 20

-- the number of the rule that broke, and the name; 0 where none did
abbrev pub rule_told : Reason → ℕ
rule_told (refusal number) = 0
rule_told (broken_rule rule name) = rule

abbrev pub name_told : Reason → ℕ
name_told (refusal number) = 0
name_told (broken_rule rule name) = name

-- the counts of the definitions that the code's are
abbrev pub counts_told : CountsAnswer → Counts
counts_told c = record { bads = c.bads; members = c.members; covers = c.covers; links = c.links }

-- the verdict of the definitions that an answer of the code is
abbrev pub verdict_of : Result CountsAnswer RefusedAt → Verdict
verdict_of (Ok c) = accepted (counts_told c)
verdict_of (Err r) = refused (reason_of r.refusal) r.place

-- what a place reached, or a refusal, is as the answer of a parser
abbrev pub reached_of : Result ℕ RefusedAt → Parsed (Unit {0})
reached_of (Ok next) = parsed tt next
reached_of (Err r) = fault (reason_of r.refusal) r.place

-- what a host is told: 0 with the four counts, or document 01's number with the place, the rule that broke, the name and 0
abbrev pub verdict_result : Verdict → CallResult
verdict_result (accepted c) = record { code = 0; values = c.bads ∷ c.members ∷ c.covers ∷ c.links ∷ [] }
verdict_result (refused why place) = record { code = reason_number why; values = place ∷ rule_told why ∷ name_told why ∷ 0 ∷ [] }
