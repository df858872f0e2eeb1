-- Document 02: "After P1 and P2 it reads `share 1/2 covers 1/1`."
use mathlib.Core.List.{List, [], ◌∷◌}
use mathlib.Core.Path.{◌≡◌, refl}
use Prim.Native.Nat.{ℕ}
use Rattle.format.specs.Parser.{broken_rule}
use Rattle.format.specs.Verdict.{refused}
use Rattle.cases.specs.Rows.{J}
use Rattle.cases.proofs.All.{all_rows}
use Rattle.putting.specs.Digits.{digits_from}
use Rattle.sheet.specs.Lowest.{gcd_from}
use Rattle.sheet.specs.Sheet.{fraction_text, sheet_text}
use Rattle.tally.specs.Release.{tallied, verdicts_on}
use Rattle.tally.specs.Tally.{begun, take_in}
use Rattle.tally.specs.declared.Tally.{Tally}

-- the report of a tally
abbrev sheet_of : Tally → List ℕ
sheet_of t = sheet_text t.verdicts t.accepted t.covers

-- "share 1/2 covers 1/1"
abbrev reads : List ℕ
reads = 115 ∷ 104 ∷ 97 ∷ 114 ∷ 101 ∷ 32 ∷ 49 ∷ 47 ∷ 50 ∷ 32 ∷ 99 ∷ 111 ∷ 118 ∷ 101 ∷ 114 ∷ 115 ∷ 32 ∷ 49 ∷ 47 ∷ 49 ∷ []

abbrev P1 : List ℕ
P1 = 1 ∷ 1 ∷ 1 ∷ 0 ∷ 1 ∷ 0 ∷ []

abbrev P2 : List ℕ
P2 = 1 ∷ 1 ∷ 1 ∷ 0 ∷ 2 ∷ 0 ∷ []

pub after_both : sheet_of (tallied begun (verdicts_on ((J 6, P1) ∷ (J 6, P2) ∷ []))) ≡ reads
unfolding tallied take_in sheet_text fraction_text digits_from gcd_from
after_both = rw (all_rows.0, all_rows.1.0) refl

-- before the first verdict, `share none covers none`; where none was accepted, `share 0/1 covers none`
pub after_none : sheet_of begun ≡ 115 ∷ 104 ∷ 97 ∷ 114 ∷ 101 ∷ 32 ∷ 110 ∷ 111 ∷ 110 ∷ 101 ∷ 32 ∷ 99 ∷ 111 ∷ 118 ∷ 101 ∷ 114 ∷ 115 ∷ 32 ∷ 110 ∷ 111 ∷ 110 ∷ 101 ∷ []
unfolding sheet_text fraction_text
after_none = refl

pub after_refused : sheet_of (tallied begun (refused (broken_rule 3 1) 5 ∷ [])) ≡ 115 ∷ 104 ∷ 97 ∷ 114 ∷ 101 ∷ 32 ∷ 48 ∷ 47 ∷ 49 ∷ 32 ∷ 99 ∷ 111 ∷ 118 ∷ 101 ∷ 114 ∷ 115 ∷ 32 ∷ 110 ∷ 111 ∷ 110 ∷ 101 ∷ []
unfolding tallied take_in sheet_text fraction_text digits_from gcd_from
after_refused = refl
