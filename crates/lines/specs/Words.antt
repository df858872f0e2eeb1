-- The words of a listing, in ASCII, with the blanks beside them, and where they stand.
use Rattle.std.specs.Prelude.{Bool, true, false, ◌&&◌, List, [], ◌∷◌, ℕ, eqb, length}

-- null, any, end; "while ", "if ", "mark "
abbrev pub null : List ℕ
null = 110 ∷ 117 ∷ 108 ∷ 108 ∷ []

abbrev pub any : List ℕ
any = 97 ∷ 110 ∷ 121 ∷ []

abbrev pub end : List ℕ
end = 101 ∷ 110 ∷ 100 ∷ []

abbrev pub while : List ℕ
while = 119 ∷ 104 ∷ 105 ∷ 108 ∷ 101 ∷ 32 ∷ []

abbrev pub if : List ℕ
if = 105 ∷ 102 ∷ 32 ∷ []

abbrev pub mark : List ℕ
mark = 109 ∷ 97 ∷ 114 ∷ 107 ∷ 32 ∷ []

-- " = ", " != ", " := ", ".next", ".next := "
abbrev pub equals : List ℕ
equals = 32 ∷ 61 ∷ 32 ∷ []

abbrev pub differs : List ℕ
differs = 32 ∷ 33 ∷ 61 ∷ 32 ∷ []

abbrev pub gets : List ℕ
gets = 32 ∷ 58 ∷ 61 ∷ 32 ∷ []

abbrev pub next : List ℕ
next = 46 ∷ 110 ∷ 101 ∷ 120 ∷ 116 ∷ []

abbrev pub next_gets : List ℕ
next_gets = 46 ∷ 110 ∷ 101 ∷ 120 ∷ 116 ∷ 32 ∷ 58 ∷ 61 ∷ 32 ∷ []

-- "new(", "delete(", ")"
abbrev pub new : List ℕ
new = 110 ∷ 101 ∷ 119 ∷ 40 ∷ []

abbrev pub delete : List ℕ
delete = 100 ∷ 101 ∷ 108 ∷ 101 ∷ 116 ∷ 101 ∷ 40 ∷ []

abbrev pub close : List ℕ
close = 41 ∷ []

-- the bytes begin with a word; they are the word
unfoldable pub starts : List ℕ → List ℕ → Bool
starts bytes [] = true
starts [] (c ∷ word) = false
starts (b ∷ bytes) (c ∷ word) = eqb b c && starts bytes word

unfoldable pub is_word : List ℕ → List ℕ → Bool
is_word bytes word = eqb (length bytes) (length word) && starts bytes word
