-- The release sheet (document 02, wish 10): "The report prints the accepted share and the mean covers for each accepted certificate as fractions in lowest
-- terms, 0/1 for zero and `none` where the divisor would be 0. After P1 and P2 it reads `share 1/2 covers 1/1`."
use Rattle.std.specs.Prelude.{cond, List, [], ◌∷◌, ◌++◌, ℕ, ◌/◌, eqb, leb, length, Result, Ok, Err}
use Rattle.putting.specs.Digits.{digits}
use Rattle.sheet.specs.Lowest.{gcd}
use Rattle.sheet.specs.declared.TooShort.{TooShort}

-- "none"
abbrev pub none_text : List ℕ
none_text = 110 ∷ 111 ∷ 110 ∷ 101 ∷ []

-- "share " and " covers "
abbrev pub share_text : List ℕ
share_text = 115 ∷ 104 ∷ 97 ∷ 114 ∷ 101 ∷ 32 ∷ []

abbrev pub covers_text : List ℕ
covers_text = 32 ∷ 99 ∷ 111 ∷ 118 ∷ 101 ∷ 114 ∷ 115 ∷ 32 ∷ []

-- n/d in lowest terms, or `none`; 47 is "/"
unfoldable pub fraction_text : ℕ → ℕ → List ℕ
fraction_text n d = cond (eqb d 0) none_text (digits (n / gcd n d) ++ (47 ∷ []) ++ digits (d / gcd n d))

-- the accepted share, and the mean covers for each accepted certificate
unfoldable pub sheet_text : ℕ → ℕ → ℕ → List ℕ
sheet_text verdicts accepted covers = share_text ++ fraction_text accepted verdicts ++ covers_text ++ fraction_text covers accepted

-- the text's length where the room is enough, else refused with it
unfoldable pub reported : List ℕ → ℕ → Result ℕ TooShort
reported text room = cond (leb (length text) room) (Ok (length text)) (Err (record { needed = length text }))
