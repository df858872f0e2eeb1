-- One line of a listing, without its byte 10. Document 01, "Listings": "Each line ends with byte 10 and has the table's single blanks and no
-- others: an operation (`!=` for ≠, `null` for operand 0 where it may stand), `while T` or `if T` where T is an operation of kind 1 or 2 or the
-- word `any`, `end`, or `mark k`, k from 0 to 63 in shortest decimal". Operands are 0 for null and 1 to 26 for the letters a to z.
use Rattle.std.specs.Prelude.{Bool, true, false, ◌&&◌, cond, List, [], ◌∷◌, ◌++◌, ℕ, zero, suc, ◌+◌, ◌-◌, ◌*◌, ◌/◌, ◌%◌, eqb, leb, ltb, get_or, drop}
use Rattle.std.specs.Prelude.{Option, None, Some}
use Rattle.std.specs.Option.{option_map, option_and_then, option_map_or}
use Rattle.kinds.specs.Kinds.{allowed}
use Rattle.lines.specs.Words.{null, any, end, while, if, mark, equals, differs, gets, next, next_gets, new, delete, close, starts, is_word}
use Rattle.lines.specs.declared.Operation.{Operation}
use Rattle.lines.specs.declared.Line.{Line}
use Rattle.lines.specs.declared.Line.TheVariants.{Perform, While, If, End, Mark, Other}

-- ---- the text of a line

abbrev pub operand_text : ℕ → List ℕ
operand_text zero = null
operand_text (suc n) = (97 + n) ∷ []

-- the texts of the kinds 1 to 7 on operands with these texts, after that of `any`, which is kind 0 here
abbrev pub texts : List ℕ → List ℕ → List (List ℕ)
texts a b =
    any
    ∷ (a ++ (equals ++ b))
    ∷ (a ++ (differs ++ b))
    ∷ (a ++ (gets ++ b))
    ∷ (a ++ (gets ++ (b ++ next)))
    ∷ (a ++ (next_gets ++ b))
    ∷ (new ++ (a ++ close))
    ∷ (delete ++ (a ++ close))
    ∷ []

abbrev pub operation_text : Operation → List ℕ
operation_text o = get_or (texts (operand_text o.a) (operand_text o.b)) o.kind []

-- "in shortest decimal"
abbrev pub decimal : ℕ → List ℕ
decimal k = cond (ltb k 10) ((48 + k) ∷ []) ((48 + k / 10) ∷ (48 + k % 10) ∷ [])

abbrev pub line_text : Line → List ℕ
line_text (Perform o) = operation_text o
line_text (While t) = while ++ operation_text t
line_text (If t) = if ++ operation_text t
line_text End = end
line_text (Mark k) = mark ++ decimal k
line_text Other = []

-- ---- the lines of the grammar

-- a row of the table of kinds 1 to 7, with the letters as 26 variables: it says where null may stand
abbrev pub is_operation : Operation → Bool
is_operation o = leb o.kind 7 && allowed 26 o.kind o.a o.b

-- "an operation of kind 1 or 2 or the word `any`"
abbrev pub is_test : Operation → Bool
is_test o = cond (eqb o.kind 0) (eqb o.a 0 && eqb o.b 0) (leb o.kind 2 && is_operation o)

abbrev pub is_line : Line → Bool
is_line (Perform o) = is_operation o
is_line (While t) = is_test t
is_line (If t) = is_test t
is_line End = true
is_line (Mark k) = leb k 63
is_line Other = false

-- ---- which line bytes are, `Other` where they are none

-- a letter's number
unfoldable pub letter_of : ℕ → Option ℕ
letter_of x = cond (leb 97 x && leb x 122) (Some (x - 96)) None

-- the operand that bytes begin with, and the bytes behind it
abbrev pub letter_first : List ℕ → Option (ℕ × List ℕ)
letter_first [] = None
letter_first (x ∷ rest) = option_map (λ a. (a, rest)) (letter_of x)

unfoldable pub operand_of : List ℕ → Option (ℕ × List ℕ)
operand_of bytes = cond (starts bytes null) (Some (0, drop 4 bytes)) (letter_first bytes)

unfoldable pub checked : ℕ → ℕ → ℕ → Option Operation
checked kind a b = cond (allowed 26 kind a b) (Some (record { kind = kind; a = a; b = b })) None

-- after `new(` or `delete(`
abbrev pub before_close : ℕ → ℕ → List ℕ → Option Operation
before_close kind a rest = cond (is_word rest close) (checked kind a 0) None

unfoldable pub enclosed_of : ℕ → List ℕ → Option Operation
enclosed_of kind bytes = option_and_then (λ p. before_close kind p.0 p.1) (operand_of bytes)

-- after the first operand and what stands between: the kind so far, and a. A `.next` at the end makes kind 3 a kind 4.
abbrev pub before_end : ℕ → ℕ → ℕ → List ℕ → Option Operation
before_end kind a b rest = cond (is_word rest []) (checked kind a b) (cond (eqb kind 3 && is_word rest next) (checked 4 a b) None)

unfoldable pub second_of : ℕ → ℕ → List ℕ → Option Operation
second_of kind a bytes = option_and_then (λ p. before_end kind a p.0 p.1) (operand_of bytes)

-- after the first operand
unfoldable pub between_of : ℕ → List ℕ → Option Operation
between_of a bytes =
    cond (starts bytes equals) (second_of 1 a (drop 3 bytes))
    (cond (starts bytes differs) (second_of 2 a (drop 4 bytes))
    (cond (starts bytes gets) (second_of 3 a (drop 4 bytes)) (cond (starts bytes next_gets) (second_of 5 a (drop 9 bytes)) None)))

unfoldable pub operation_of : List ℕ → Option Operation
operation_of bytes =
    cond (starts bytes new) (enclosed_of 6 (drop 4 bytes))
    (cond (starts bytes delete) (enclosed_of 7 (drop 7 bytes)) (option_and_then (λ p. between_of p.0 p.1) (operand_of bytes)))

-- `while` or `if` with T
abbrev pub opens : Bool → Operation → Line
opens true t = While t
opens false t = If t

-- T, after `while ` or `if `
abbrev pub kept_test : Operation → Option Operation
kept_test o = cond (leb o.kind 2) (Some o) None

unfoldable pub test_of : List ℕ → Option Operation
test_of bytes = cond (is_word bytes any) (Some (record { kind = 0; a = 0; b = 0 })) (option_and_then kept_test (operation_of bytes))

unfoldable pub test_line : Bool → List ℕ → Line
test_line loops bytes = option_map_or (opens loops) (test_of bytes) Other

-- a digit's number
unfoldable pub digit_of : ℕ → Option ℕ
digit_of x = cond (leb 48 x && leb x 57) (Some (x - 48)) None

unfoldable pub mark_for : ℕ → Option ℕ
mark_for k = cond (leb k 63) (Some k) None

-- after `mark `: one digit, or two of which the first is not 0
abbrev pub mark_of_two : Option ℕ → Option ℕ → Option ℕ
mark_of_two x y = option_and_then (λ d. cond (leb 1 d) (option_and_then (λ e. mark_for (d * 10 + e)) y) None) x

unfoldable pub mark_of : List ℕ → Option ℕ
mark_of [] = None
mark_of (y ∷ []) = option_and_then mark_for (digit_of y)
mark_of (x ∷ y ∷ []) = mark_of_two (digit_of x) (digit_of y)
mark_of (x ∷ y ∷ z ∷ bytes) = None

unfoldable pub line_of : List ℕ → Line
line_of bytes =
    cond (is_word bytes end) End
    (cond (starts bytes mark) (option_map_or Mark (mark_of (drop 5 bytes)) Other)
    (cond (starts bytes while) (test_line true (drop 6 bytes))
    (cond (starts bytes if) (test_line false (drop 3 bytes)) (option_map_or Perform (operation_of bytes) Other))))
