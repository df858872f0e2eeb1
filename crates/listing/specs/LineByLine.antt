-- Reading and translating in one pass, line by line, as document 01 tells it; the form that a program meets. That it is the translation of what
-- is read is `one_pass` in proofs/OneCall.
use Rattle.std.specs.Prelude.{Bool, true, false, ◌||◌, cond, List, [], ◌∷◌, ◌++◌, ℕ, suc, eqb, leb, ltb, length, get_or, set, replicate}
use Rattle.lines.specs.declared.Line.{Line}
use Rattle.lines.specs.declared.Line.TheVariants.{Perform, While, If, End, Mark, Other}
use Rattle.lines.specs.declared.Operation.{Operation}
use Rattle.listing.specs.Names.{meet, number_in, variables_for}
use Rattle.listing.specs.Written.{Translated, untranslated, in_room}

-- a `while` (it loops) or an `if` that is open: T, with its operands numbered, and the state from which T leads
pub record Open : Type 0 where
  pub loops : Bool
  pub test : Operation
  pub state : ℕ

-- What is known once so many lines are passed, which is the number of the present state too: the letters as first met; what is open, the
-- innermost first; how many transitions there are, and their numbers, five each; for each mark its state, 64 for none.
pub record LinePosition : Type 0 where
  pub passed : ℕ
  pub names : List ℕ
  pub opens : List Open
  pub count : ℕ
  pub transitions : List ℕ
  pub marks : List ℕ

abbrev pub begin : LinePosition
begin = record { passed = 0; names = []; opens = []; count = 0; transitions = []; marks = replicate 64 64 }

-- where the last line leads, or the refusal's number and line
pub data Outcome : Type 0 where
  reached : LinePosition → Outcome
  refused : ℕ → ℕ → Outcome

-- the operands' numbers
abbrev pub numbered : List ℕ → Operation → Operation
numbered names o = record { kind = o.kind; a = number_in names o.a; b = number_in names o.b }

-- (from, kind, a, b, to)
abbrev pub arrow_numbers : ℕ → Operation → ℕ → List ℕ
arrow_numbers p o q = p ∷ o.kind ∷ o.a ∷ o.b ∷ q ∷ []

-- "For `any`, T and its opposite are null = null."
abbrev pub skip_numbers : Operation
skip_numbers = record { kind = 1; a = 0; b = 0 }

abbrev pub test_numbers : Operation → Operation
test_numbers t = cond (eqb t.kind 0) skip_numbers t

abbrev pub opposite_numbers : Operation → Operation
opposite_numbers t = cond (eqb t.kind 0) skip_numbers (record { kind = cond (eqb t.kind 1) 2 1; a = t.a; b = t.b })

-- "An operation leads to a new state."
abbrev pub operated : Operation → LinePosition → LinePosition
operated o s =
    let names = meet (meet s.names o.a) o.b in
    record {
      passed = suc s.passed;
      names = names;
      opens = s.opens;
      count = suc s.count;
      transitions = s.transitions ++ arrow_numbers s.passed (numbered names o) (suc s.passed);
      marks = s.marks;
    }

-- "A mark's state is the present one; null = null leads on to a new state."
abbrev pub marked : ℕ → LinePosition → LinePosition
marked k s =
    record {
      passed = suc s.passed;
      names = s.names;
      opens = s.opens;
      count = suc s.count;
      transitions = s.transitions ++ arrow_numbers s.passed skip_numbers (suc s.passed);
      marks = set s.marks k s.passed;
    }

-- "`while` and `if` lead by T to a new state."
abbrev pub opened : Bool → Operation → LinePosition → LinePosition
opened loops t s =
    let names = meet (meet s.names t.a) t.b in
    record {
      passed = suc s.passed;
      names = names;
      opens = record { loops = loops; test = numbered names t; state = s.passed } ∷ s.opens;
      count = suc s.count;
      transitions = s.transitions ++ arrow_numbers s.passed (test_numbers (numbered names t)) (suc s.passed);
      marks = s.marks;
    }

-- "`end` leads by null = null back to the `while`'s state, and then that state by the opposite of T to a new state; at the end of an `if` both
-- lead to one new state."
abbrev pub closed : Open → List Open → LinePosition → LinePosition
closed o os s =
    let new = suc s.passed in
    record {
      passed = new;
      names = s.names;
      opens = os;
      count = suc (suc s.count);
      transitions =
          s.transitions
          ++ (arrow_numbers s.passed skip_numbers (cond o.loops o.state new) ++ arrow_numbers o.state (opposite_numbers o.test) new);
      marks = s.marks;
    }

-- "more than 8 names or 64 states 19", at the line just passed
abbrev pub limited : LinePosition → Outcome
limited s = cond (ltb 8 (length s.names) || ltb 64 (suc s.passed)) (refused 19 s.passed) (reached s)

-- one line, 17 before 18 before 19
abbrev pub ended : List Open → LinePosition → Outcome
ended [] s = refused 17 (suc s.passed)
ended (o ∷ os) s = limited (closed o os s)

abbrev pub advance : Line → LinePosition → Outcome
advance (Perform o) s = limited (operated o s)
advance (While t) s = cond (leb 16 (length s.opens)) (refused 18 (suc s.passed)) (limited (opened true t s))
advance (If t) s = cond (leb 16 (length s.opens)) (refused 18 (suc s.passed)) (limited (opened false t s))
advance End s = ended s.opens s
advance (Mark k) s = cond (eqb (get_or s.marks k 64) 64) (limited (marked k s)) (refused 17 (suc s.passed))
advance Other s = refused 17 (suc s.passed)

abbrev pub onward : Outcome → (LinePosition → Outcome) → Outcome
onward (reached s) rest = rest s
onward (refused number line) rest = refused number line

-- "one missing (at the line after the last)"
abbrev pub lastly : List Open → LinePosition → Outcome
lastly [] s = reached s
lastly (o ∷ os) s = refused 17 (suc s.passed)

unfoldable pub go_on : List Line → LinePosition → Outcome
go_on [] s = lastly s.opens s
go_on (l ∷ ls) s = onward (advance l s) (go_on ls)

-- ---- the call, by this pass

-- the bytes ahead of B: all numbers are below 128, so that each is one byte
abbrev pub bytes_ahead : LinePosition → List ℕ
bytes_ahead s = 1 ∷ variables_for s.names ∷ suc s.passed ∷ 0 ∷ s.count ∷ s.transitions

abbrev pub translate_by : ℕ → Outcome → Translated
translate_by room (reached s) = in_room room (bytes_ahead s) s.marks
translate_by room (refused number line) = untranslated number line
