-- Texts and what the call gives of them, by computation.
use mathlib.Core.List.{List, [], ◌∷◌, ◌++◌, map}
use mathlib.Core.Path.{◌≡◌, refl}
use Prim.Native.Nat.{ℕ}
use native.Mathlib.Decide.{ℕ_discrete}
use lib.ListN.{take, replicate}
use Rattle.lists.specs.List.{concat_map}
use Rattle.number.specs.Number.{bytes_of}
use Rattle.number.specs.NumberList.{encode}
use Rattle.kinds.specs.Kinds.{allowed}
use Rattle.lines.specs.Line.{line_of, operation_of, between_of, second_of, checked, enclosed_of, test_of, test_line, mark_of, operand_of, letter_of, mark_for, digit_of}
use Rattle.lines.specs.Words.{starts, is_word}
use Rattle.listing.specs.Reading.{first_fault, blocks}
use Rattle.listing.specs.Text.{lines_from}
use Rattle.listing.specs.Written.{Translated, translate, translated, untranslated}

-- lines: `new(x)`, `while x != null`, `x := x.next`, `end`, `mark 0`, `mark 7`, `z := null`, `a := z`, `while any`, `x = x`,
-- `a = b`, `c = d`, `e = f`, `g = h`, `i = a`, `x :=  x.next`
abbrev new_x : List ℕ
new_x = 110 ∷ 101 ∷ 119 ∷ 40 ∷ 120 ∷ 41 ∷ 10 ∷ []

abbrev while_x : List ℕ
while_x = 119 ∷ 104 ∷ 105 ∷ 108 ∷ 101 ∷ 32 ∷ 120 ∷ 32 ∷ 33 ∷ 61 ∷ 32 ∷ 110 ∷ 117 ∷ 108 ∷ 108 ∷ 10 ∷ []

abbrev step_x : List ℕ
step_x = 120 ∷ 32 ∷ 58 ∷ 61 ∷ 32 ∷ 120 ∷ 46 ∷ 110 ∷ 101 ∷ 120 ∷ 116 ∷ 10 ∷ []

abbrev close : List ℕ
close = 101 ∷ 110 ∷ 100 ∷ 10 ∷ []

abbrev mark_0 : List ℕ
mark_0 = 109 ∷ 97 ∷ 114 ∷ 107 ∷ 32 ∷ 48 ∷ 10 ∷ []

abbrev mark_7 : List ℕ
mark_7 = 109 ∷ 97 ∷ 114 ∷ 107 ∷ 32 ∷ 55 ∷ 10 ∷ []

abbrev clear_z : List ℕ
clear_z = 122 ∷ 32 ∷ 58 ∷ 61 ∷ 32 ∷ 110 ∷ 117 ∷ 108 ∷ 108 ∷ 10 ∷ []

abbrev copy_z : List ℕ
copy_z = 97 ∷ 32 ∷ 58 ∷ 61 ∷ 32 ∷ 122 ∷ 10 ∷ []

abbrev while_any : List ℕ
while_any = 119 ∷ 104 ∷ 105 ∷ 108 ∷ 101 ∷ 32 ∷ 97 ∷ 110 ∷ 121 ∷ 10 ∷ []

abbrev same_x : List ℕ
same_x = 120 ∷ 32 ∷ 61 ∷ 32 ∷ 120 ∷ 10 ∷ []

abbrev a_b : List ℕ
a_b = 97 ∷ 32 ∷ 61 ∷ 32 ∷ 98 ∷ 10 ∷ []

abbrev c_d : List ℕ
c_d = 99 ∷ 32 ∷ 61 ∷ 32 ∷ 100 ∷ 10 ∷ []

abbrev e_f : List ℕ
e_f = 101 ∷ 32 ∷ 61 ∷ 32 ∷ 102 ∷ 10 ∷ []

abbrev g_h : List ℕ
g_h = 103 ∷ 32 ∷ 61 ∷ 32 ∷ 104 ∷ 10 ∷ []

abbrev i_a : List ℕ
i_a = 105 ∷ 32 ∷ 61 ∷ 32 ∷ 97 ∷ 10 ∷ []

abbrev two_blanks : List ℕ
two_blanks = 120 ∷ 32 ∷ 58 ∷ 61 ∷ 32 ∷ 32 ∷ 120 ∷ 46 ∷ 110 ∷ 101 ∷ 120 ∷ 116 ∷ 10 ∷ []

-- a line so many times
abbrev times : ℕ → List ℕ → List ℕ
times n line = concat_map (λ l. l) (replicate n line)

-- the bytes of the walk, five for each transition
abbrev walk_bytes : List ℕ
walk_bytes =
    (1 ∷ 1 ∷ 6 ∷ 0 ∷ 6 ∷ [])
    ++ (0 ∷ 6 ∷ 1 ∷ 0 ∷ 1 ∷ [])
    ++ (1 ∷ 2 ∷ 1 ∷ 0 ∷ 2 ∷ [])
    ++ (2 ∷ 4 ∷ 1 ∷ 1 ∷ 3 ∷ [])
    ++ (3 ∷ 1 ∷ 0 ∷ 0 ∷ 1 ∷ [])
    ++ (1 ∷ 1 ∷ 1 ∷ 0 ∷ 4 ∷ [])
    ++ (4 ∷ 1 ∷ 0 ∷ 0 ∷ 5 ∷ [])

abbrev copy_bytes : List ℕ
copy_bytes = (1 ∷ 2 ∷ 3 ∷ 0 ∷ 2 ∷ []) ++ (0 ∷ 3 ∷ 1 ∷ 0 ∷ 1 ∷ []) ++ (1 ∷ 3 ∷ 2 ∷ 1 ∷ 2 ∷ [])

-- a text, room for so many bytes, and what is given
record Row : Type 0 where
  text : List ℕ
  room : ℕ
  given : Translated

abbrev rows : List Row
rows =
    -- an empty text: V is 1, and there is one state
    record { text = []; room = 5; given = translated (1 ∷ 1 ∷ 1 ∷ 0 ∷ 0 ∷ []) (replicate 64 64) }
    -- the same with room for one byte less
    ∷ record { text = []; room = 4; given = untranslated 12 5 }
    -- a walk to the end of a list, and a mark there
    ∷ record { text = new_x ++ while_x ++ step_x ++ close ++ mark_0; room = 35; given = translated walk_bytes (4 ∷ replicate 63 64) }
    -- names are numbered as they are met
    ∷ record { text = clear_z ++ copy_z; room = 15; given = translated copy_bytes (replicate 64 64) }
    -- an `end` is missing, at the line after the last
    ∷ record { text = while_any; room = 1000; given = untranslated 17 2 }
    -- an `end` with nothing open
    ∷ record { text = close; room = 1000; given = untranslated 17 1 }
    -- a mark twice
    ∷ record { text = mark_7 ++ mark_7; room = 1000; given = untranslated 17 2 }
    -- a last line without byte 10
    ∷ record { text = new_x ++ take 6 new_x; room = 1000; given = untranslated 17 2 }
    -- a blank too many
    ∷ record { text = new_x ++ two_blanks; room = 1000; given = untranslated 17 2 }
    -- 17 are open
    ∷ record { text = times 17 while_any; room = 1000; given = untranslated 18 17 }
    -- a ninth name
    ∷ record { text = a_b ++ c_d ++ e_f ++ g_h ++ i_a; room = 1000; given = untranslated 19 5 }
    -- a 65th state
    ∷ record { text = times 64 same_x; room = 1000; given = untranslated 19 64 }
    -- 17 and 19 at one line, 17 counts
    ∷ record { text = mark_7 ++ times 62 same_x ++ mark_7; room = 1000; given = untranslated 17 64 }
    ∷ []

-- what the call gives of each is what is given there
all_rows : map (λ r. translate r.text r.room) rows ≡ map (λ r. r.given) rows
unfolding translate first_fault blocks lines_from line_of operation_of between_of second_of checked enclosed_of test_of test_line mark_of operand_of letter_of mark_for digit_of starts is_word allowed encode bytes_of
    ℕ_discrete
all_rows = refl
