-- A verdict as a line of text (document 01: "prints one line, here whole for P1: `accepted bads 1 members 1 covers 1`; a refusal prints as `refused 8 at 5` (number,
-- place)"; document 02, wish 2: "The printed line becomes `refused 9 at 5 rule 3 of 1` for P2", wish 8: "P1 prints `accepted bads 1 members 1 covers 1 links 0`").
use Rattle.std.specs.Prelude.{cond, List, [], ◌∷◌, ◌++◌, ℕ, eqb}
use Rattle.format.specs.Parser.{Reason, reason_number}
use Rattle.format.specs.Verdict.{Verdict, accepted, refused}
use Rattle.putting.specs.Digits.{digits}
use Rattle.verdict.specs.Verdict.{rule_told, name_told}

-- "accepted bads "
abbrev pub accepted_words : List ℕ
accepted_words = 97 ∷ 99 ∷ 99 ∷ 101 ∷ 112 ∷ 116 ∷ 101 ∷ 100 ∷ 32 ∷ 98 ∷ 97 ∷ 100 ∷ 115 ∷ 32 ∷ []

-- " members "
abbrev pub members_words : List ℕ
members_words = 32 ∷ 109 ∷ 101 ∷ 109 ∷ 98 ∷ 101 ∷ 114 ∷ 115 ∷ 32 ∷ []

-- " covers "
abbrev pub covers_words : List ℕ
covers_words = 32 ∷ 99 ∷ 111 ∷ 118 ∷ 101 ∷ 114 ∷ 115 ∷ 32 ∷ []

-- " links "
abbrev pub links_words : List ℕ
links_words = 32 ∷ 108 ∷ 105 ∷ 110 ∷ 107 ∷ 115 ∷ 32 ∷ []

-- "refused "
abbrev pub refused_words : List ℕ
refused_words = 114 ∷ 101 ∷ 102 ∷ 117 ∷ 115 ∷ 101 ∷ 100 ∷ 32 ∷ []

-- " at "
abbrev pub at_words : List ℕ
at_words = 32 ∷ 97 ∷ 116 ∷ 32 ∷ []

-- " rule "
abbrev pub rule_words : List ℕ
rule_words = 32 ∷ 114 ∷ 117 ∷ 108 ∷ 101 ∷ 32 ∷ []

-- " of "
abbrev pub of_words : List ℕ
of_words = 32 ∷ 111 ∷ 102 ∷ 32 ∷ []

-- the rule that broke and the name, where one did
abbrev pub rule_line : Reason → List ℕ
rule_line why = cond (eqb (rule_told why) 0) [] ((rule_words ++ digits (rule_told why)) ++ (of_words ++ digits (name_told why)))

unfoldable pub verdict_line : Verdict → List ℕ
verdict_line (accepted c) =
    (accepted_words ++ digits c.bads) ++ (members_words ++ digits c.members) ++ (covers_words ++ digits c.covers) ++ (links_words ++ digits c.links)
verdict_line (refused why place) = (refused_words ++ digits (reason_number why)) ++ (at_words ++ digits place) ++ rule_line why
