-- Bytes that read as a line are its text, and the line is one of the grammar. No byte of the text ends a line.
use mathlib.Core.Bool.{Bool, true, false, ◌&&◌, cond}
use mathlib.Core.List.{List, [], ◌∷◌, ◌++◌, append-nil, append_assoc}
use mathlib.Core.Path.{◌≡◌, refl, sym, ap, ap₂, ◌∙◌, subst}
use Prim.Native.Nat.{ℕ, zero, suc, ◌+◌, ◌-◌, ◌*◌, ◌/◌, ◌%◌, ◌≤◌, ◌<◌}
use native.Mathlib.Omega.{arith}
use borrow.Author.Tests.{leb-true, eqb-true, ne_eqb, lt-ltb, le-ltb, le-leb}
use lib.Dec.{eqb, leb, ltb}
use lib.ListN.{length, drop, drop_of_length-le}
use Rattle.std.specs.Prelude.{Option, None, Some, IfSome}
use Rattle.std.specs.Option.{option_map, option_and_then, option_map_or}
use Rattle.lists.specs.List.{absent}
use Rattle.lists.proofs.Test.{and_left, and_right}
use Rattle.kinds.specs.Kinds.{allowed}
use Rattle.lists.proofs.List.{end as no_row, ◌&◌}
use Rattle.heap.proofs.Rows.{by_kind}
use Rattle.lines.specs.Words.{null, any, end, while, if, mark, equals, differs, gets, next, next_gets, new, delete, close, starts, is_word}
use Rattle.lines.specs.Line.{operand_text, operation_text, decimal, line_text, is_operation, is_test, is_line, letter_of, letter_first, operand_of, checked, before_close, enclosed_of, before_end, second_of, between_of, operation_of, opens, kept_test, test_of, test_line, digit_of, mark_for, mark_of_two, mark_of, line_of}
use Rattle.lines.specs.declared.Operation.{Operation}
use Rattle.lines.specs.declared.Line.{Line}
use Rattle.lines.specs.declared.Line.TheVariants.{Perform, While, If, End, Mark, Other}
use Rattle.lines.proofs.TextReads.{operation_operands}

-- an operation that is read has this text, and is of the grammar
abbrev Reads : (Operation → Bool) → List ℕ → Option Operation → Type 0
Reads ok s None = Unit {0}
Reads ok s (Some o) = (operation_text o ≡ s) × (ok o ≡ true)

-- the line, unless it is outside the grammar, is of the grammar and has this text
abbrev Told : List ℕ → Line → Type 0
Told s l = (l ≡ Other → ⊥) → (line_text l ≡ s) × (is_line l ≡ true)

told_other : (s : List ℕ) → Told s Other
told_other s n = absurd (n refl)

by_test : {A : Type 0} (P : A → Type 0) (b : Bool) {x y : A} → (b ≡ true → P x) → (b ≡ false → P y) → P (cond b x y)
by_test P true f g = f refl
by_test P false f g = g refl

-- bytes that begin with a word are the word and the rest; bytes that are a word
front : (s w : List ℕ) → starts s w ≡ true → w ++ drop (length w) s ≡ s
unfolding starts
front s [] e = refl
front [] (c ∷ w) e = let z : false ≡ true = e in cc
front (x ∷ s) (c ∷ w) e =
    ap₂ ◌∷◌ (sym (eqb-true x c (and_left (eqb x c) (starts s w) e))) (front s w (and_right (eqb x c) (starts s w) e))

whole : (s w : List ℕ) → is_word s w ≡ true → w ≡ s
unfolding is_word
whole s w e =
    let same = eqb-true (length s) (length w) (and_left (eqb (length s) (length w)) (starts s w) e) in
    let all = front s w (and_right (eqb (length s) (length w)) (starts s w) e) in
    let short : length s ≤ length w = omega arith in
    sym (append-nil w) ∙ ap (λ r. w ++ r) (sym (drop_of_length-le s short)) ∙ all

-- ---- operands

letter_text : (x : ℕ) → 97 ≤ x → operand_text (x - 96) ≡ x ∷ []
letter_text x h =
    let n : x - 96 ≡ suc (x - 97) = omega arith in
    let m : 97 + (x - 97) ≡ x = omega arith in
    ap operand_text n ∙ ap (λ y. y ∷ []) m

letter_told : (x : ℕ) → IfSome (letter_of x) (λ a. operand_text a ≡ x ∷ [])
unfolding letter_of
letter_told x =
    by_test (λ r. IfSome r (λ a. operand_text a ≡ x ∷ [])) (leb 97 x && leb x 122)
    (λ e. letter_text x (leb-true 97 x (and_left (leb 97 x) (leb x 122) e))) (λ e. tt)

-- an operand that is read stands at the front
abbrev Stands : List ℕ → Option (ℕ × List ℕ) → Type 0
Stands s None = Unit {0}
Stands s (Some p) = operand_text p.0 ++ p.1 ≡ s

letter_first_told : (s : List ℕ) → Stands s (letter_first s)
letter_first_told [] = tt
letter_first_told (x ∷ s) = go (letter_of x) (letter_told x)
  where
    go : (r : Option ℕ) → IfSome r (λ a. operand_text a ≡ x ∷ []) → Stands (x ∷ s) (option_map (λ a. (a, s)) r)
    go None t = tt
    go (Some a) t = ap (λ l. l ++ s) t

operand_told : (s : List ℕ) → Stands s (operand_of s)
unfolding operand_of
operand_told s = by_test (Stands s) (starts s null) (front s null) (λ e. letter_first_told s)

-- what is read after an operand
after_operand : (t s : List ℕ) (f : ℕ → List ℕ → Option Operation)
    → ((a : ℕ) (rest : List ℕ) → operand_text a ++ rest ≡ s → Reads is_operation t (f a rest))
    → Reads is_operation t (option_and_then (λ p. f p.0 p.1) (operand_of s))
after_operand t s f g = go (operand_of s) (operand_told s)
  where
    go : (r : Option (ℕ × List ℕ)) → Stands s r → Reads is_operation t (option_and_then (λ p. f p.0 p.1) r)
    go None e = tt
    go (Some p) e = g p.0 p.1 e

-- ---- operations

checked_told : (s : List ℕ) (kind a b : ℕ) → kind ≤ 7 → operation_text (record { kind = kind; a = a; b = b }) ≡ s
    → Reads is_operation s (checked kind a b)
unfolding checked
checked_told s kind a b early text = by_test (Reads is_operation s) (allowed 26 kind a b) (λ ok. (text, ap₂ ◌&&◌ (le-leb kind 7 early) ok)) (λ e. tt)

enclosed_told : (kind : ℕ) (before s : List ℕ) → kind ≤ 7
    → ((a : ℕ) → operation_text (record { kind = kind; a = a; b = 0 }) ≡ before ++ (operand_text a ++ close))
    → Reads is_operation (before ++ s) (enclosed_of kind s)
unfolding enclosed_of
enclosed_told kind before s early form =
    after_operand (before ++ s) s (before_close kind)
    (λ a rest is. by_test (Reads is_operation (before ++ s)) (is_word rest close)
    (λ e. checked_told (before ++ s) kind a 0 early
    (form a ∙ ap (λ r. before ++ (operand_text a ++ r)) (whole rest close e) ∙ ap (λ r. before ++ r) is)) (λ e. tt))

-- after the first operand and what stands between, `before`, in a text t
second_told : (kind a : ℕ) (before s t : List ℕ) → kind ≤ 7 → before ++ s ≡ t
    → ((b : ℕ) → operation_text (record { kind = kind; a = a; b = b }) ≡ before ++ operand_text b)
    → (kind ≡ 3 → (b : ℕ) → operation_text (record { kind = 4; a = a; b = b }) ≡ before ++ (operand_text b ++ next))
    → Reads is_operation t (second_of kind a s)
unfolding second_of
second_told kind a before s t early same form form-next =
    after_operand t s (before_end kind a)
    (λ b rest is. by_test (Reads is_operation t) (is_word rest [])
    (λ e. checked_told t kind a b early
    (form b ∙ ap (λ r. before ++ r) (sym (append-nil (operand_text b)) ∙ ap (λ r. operand_text b ++ r) (whole rest [] e) ∙ is) ∙ same))
    (λ e. by_test (Reads is_operation t) (eqb kind 3 && is_word rest next)
    (λ f. checked_told t 4 a b (omega arith)
    (form-next (eqb-true kind 3 (and_left (eqb kind 3) (is_word rest next) f)) b
    ∙ ap (λ r. before ++ r) (ap (λ r. operand_text b ++ r) (whole rest next (and_right (eqb kind 3) (is_word rest next) f)) ∙ is) ∙ same)) (λ f. tt)))

-- one of the words that may stand between
module _ (a : ℕ) (s t : List ℕ) (same : operand_text a ++ s ≡ t) where
  one_between : (kind : ℕ) (w : List ℕ) → kind ≤ 7 → starts s w ≡ true
      → ((b : ℕ) → operation_text (record { kind = kind; a = a; b = b }) ≡ operand_text a ++ (w ++ operand_text b))
      → (kind ≡ 3 → (b : ℕ) → operation_text (record { kind = 4; a = a; b = b }) ≡ operand_text a ++ (w ++ (operand_text b ++ next)))
      → Reads is_operation t (second_of kind a (drop (length w) s))
  one_between kind w early e form form-next =
      second_told kind a (operand_text a ++ w) (drop (length w) s) t early
      (append_assoc (operand_text a) w (drop (length w) s) ∙ ap (λ r. operand_text a ++ r) (front s w e) ∙ same)
      (λ b. form b ∙ sym (append_assoc (operand_text a) w (operand_text b)))
      (λ z b. form-next z b ∙ sym (append_assoc (operand_text a) w (operand_text b ++ next)))

  between_told : Reads is_operation t (between_of a s)
  unfolding between_of
  between_told =
      by_test (Reads is_operation t) (starts s equals) (λ e. one_between 1 equals (omega arith) e (λ b. refl) (λ z. absurd (omega arith)))
      (λ e₁. by_test (Reads is_operation t) (starts s differs) (λ e. one_between 2 differs (omega arith) e (λ b. refl) (λ z. absurd (omega arith)))
      (λ e₂. by_test (Reads is_operation t) (starts s gets) (λ e. one_between 3 gets (omega arith) e (λ b. refl) (λ z b. refl))
      (λ e₃. by_test (Reads is_operation t) (starts s next_gets) (λ e. one_between 5 next_gets (omega arith) e (λ b. refl) (λ z. absurd (omega arith)))
      (λ e₄. tt))))

operation_told : (s : List ℕ) → Reads is_operation s (operation_of s)
unfolding operation_of
operation_told s =
    by_test (Reads is_operation s) (starts s new)
    (λ e. subst (λ t. Reads is_operation t (enclosed_of 6 (drop 4 s))) (front s new e) (enclosed_told 6 new (drop 4 s) (omega arith) (λ a. refl)))
    (λ e₁. by_test (Reads is_operation s) (starts s delete)
    (λ e. subst (λ t. Reads is_operation t (enclosed_of 7 (drop 7 s))) (front s delete e) (enclosed_told 7 delete (drop 7 s) (omega arith) (λ a. refl)))
    (λ e₂. after_operand s s between_of (λ a rest is. between_told a rest s is)))

-- ---- T, marks and lines

test_told : (s : List ℕ) → Reads is_test s (test_of s)
unfolding test_of
test_told s = by_test (Reads is_test s) (is_word s any) (λ e. (whole s any e, refl)) (λ e. kept (operation_of s) (operation_told s))
  where
    kept : (r : Option Operation) → Reads is_operation s r → Reads is_test s (option_and_then kept_test r)
    kept None t = tt
    kept (Some o) (text, ok) =
        by_test (Reads is_test s) (leb o.kind 2)
        (λ e. let some = (operation_operands o ok).kind_some in (text, rw (ne_eqb o.kind 0 (λ z. omega arith), e, ok) refl)) (λ e. tt)

-- `while T` and `if T`, whose text is a word before that of T
opens_told : (loops : Bool) (word s : List ℕ) → ((o : Operation) → line_text (opens loops o) ≡ word ++ operation_text o)
    → ((o : Operation) → is_line (opens loops o) ≡ is_test o) → Told (word ++ s) (test_line loops s)
unfolding test_line
opens_told loops word s text line = go (test_of s) (test_told s)
  where
    go : (r : Option Operation) → Reads is_test s r → Told (word ++ s) (option_map_or (opens loops) r Other)
    go None t = told_other (word ++ s)
    go (Some o) (is, ok) = λ n. (text o ∙ ap (λ r. word ++ r) is, line o ∙ ok)

digit_told : (x : ℕ) → IfSome (digit_of x) (λ d. (48 + d ≡ x) × (d < 10))
unfolding digit_of
digit_told x =
    by_test (λ r. IfSome r (λ d. (48 + d ≡ x) × (d < 10))) (leb 48 x && leb x 57)
    (λ e.
    let l = leb-true 48 x (and_left (leb 48 x) (leb x 57) e) in
    let m = leb-true x 57 (and_right (leb 48 x) (leb x 57) e) in
    (omega arith, omega arith)) (λ e. tt)

-- the number of a mark that is read is written so
abbrev ReadsMark : List ℕ → Option ℕ → Type 0
ReadsMark s None = Unit {0}
ReadsMark s (Some k) = (decimal k ≡ s) × (leb k 63 ≡ true)

mark_for_told : (s : List ℕ) (k : ℕ) → decimal k ≡ s → ReadsMark s (mark_for k)
unfolding mark_for
mark_for_told s k text = by_test (ReadsMark s) (leb k 63) (λ e. (text, e)) (λ e. tt)

decimal_two : (d e x y : ℕ) → 48 + d ≡ x → d < 10 → 48 + e ≡ y → e < 10 → 1 ≤ d → decimal (d * 10 + e) ≡ x ∷ y ∷ []
decimal_two d e x y is_x small-x is_y small-y some =
    let k = d * 10 + e in
    let high : k / 10 ≡ d = omega arith in
    let low : k % 10 ≡ e = omega arith in
    rw (le-ltb k 10 (omega arith), high, low, is_x, is_y) refl

mark_told : (s : List ℕ) → ReadsMark s (mark_of s)
unfolding mark_of
mark_told [] = tt
mark_told (y ∷ []) = one (digit_of y) (digit_told y)
  where
    one : (r : Option ℕ) → IfSome r (λ d. (48 + d ≡ y) × (d < 10)) → ReadsMark (y ∷ []) (option_and_then mark_for r)
    one None t = tt
    one (Some d) (is, small) = mark_for_told (y ∷ []) d (rw (lt-ltb d 10 small, is) refl)
mark_told (x ∷ y ∷ []) = two (digit_of x) (digit_told x) (digit_of y) (digit_told y)
  where
    two : (r : Option ℕ) → IfSome r (λ d. (48 + d ≡ x) × (d < 10)) → (q : Option ℕ) → IfSome q (λ d. (48 + d ≡ y) × (d < 10))
        → ReadsMark (x ∷ y ∷ []) (mark_of_two r q)
    two None t q u = tt
    two (Some d) t None u = by_test (ReadsMark (x ∷ y ∷ [])) (leb 1 d) (λ e. tt) (λ e. tt)
    two (Some d) (is_x, small-x) (Some f) (is_y, small-y) =
        by_test (ReadsMark (x ∷ y ∷ [])) (leb 1 d)
        (λ e. mark_for_told (x ∷ y ∷ []) (d * 10 + f) (decimal_two d f x y is_x small-x is_y small-y (leb-true 1 d e))) (λ e. tt)
mark_told (x ∷ y ∷ z ∷ s) = tt

marks_told : (s : List ℕ) → Told (mark ++ s) (option_map_or Mark (mark_of s) Other)
marks_told s = go (mark_of s) (mark_told s)
  where
    go : (r : Option ℕ) → ReadsMark s r → Told (mark ++ s) (option_map_or Mark r Other)
    go None t = told_other (mark ++ s)
    go (Some k) (text, ok) = λ n. (ap (λ r. mark ++ r) text, ok)

performs_told : (s : List ℕ) → Told s (option_map_or Perform (operation_of s) Other)
performs_told s = go (operation_of s) (operation_told s)
  where
    go : (r : Option Operation) → Reads is_operation s r → Told s (option_map_or Perform r Other)
    go None t = told_other s
    go (Some o) t = λ n. t

line_told : (s : List ℕ) → Told s (line_of s)
unfolding line_of
line_told s =
    by_test (Told s) (is_word s end) (λ e n. (whole s end e, refl))
    (λ e₁. by_test (Told s) (starts s mark)
    (λ e. subst (λ t. Told t (option_map_or Mark (mark_of (drop 5 s)) Other)) (front s mark e) (marks_told (drop 5 s)))
    (λ e₂. by_test (Told s) (starts s while)
    (λ e. subst (λ t. Told t (test_line true (drop 6 s))) (front s while e) (opens_told true while (drop 6 s) (λ o. refl) (λ o. refl)))
    (λ e₃. by_test (Told s) (starts s if)
    (λ e. subst (λ t. Told t (test_line false (drop 3 s))) (front s if e) (opens_told false if (drop 3 s) (λ o. refl) (λ o. refl)))
    (λ e₄. performs_told s))))

-- bytes that read as a line are its text, and it is a line of the grammar
pub reads_text : (s : List ℕ) (l : Line) → line_of s ≡ l → (l ≡ Other → ⊥) → (line_text l ≡ s) × (is_line l ≡ true)
reads_text s l e = subst (Told s) e (line_told s)

-- ---- no byte 10

abbrev Clear : List ℕ → Type 0
Clear s = absent 10 s ≡ true

operand_clear : (x : ℕ) (t : List ℕ) → Clear t → Clear (operand_text x ++ t)
operand_clear zero t h = h
operand_clear (suc n) t h = rw (ne_eqb (97 + n) 10 (λ e. omega arith)) h

operand_only : (x : ℕ) → Clear (operand_text x)
operand_only x = subst Clear (append-nil (operand_text x)) (operand_clear x [] refl)

operation_clear : (o : Operation) → o.kind ≤ 7 → Clear (operation_text o)
operation_clear o h = by_zero o.kind h
  where
    by_zero : (k : ℕ) → k ≤ 7 → Clear (operation_text (record { kind = k; a = o.a; b = o.b }))
    by_zero zero h = refl
    by_zero (suc k) h =
        by_kind 7 (λ k. Clear (operation_text (record { kind = k; a = o.a; b = o.b })))
        (operand_clear o.a (equals ++ operand_text o.b) (operand_only o.b)
        & operand_clear o.a (differs ++ operand_text o.b) (operand_only o.b)
        & operand_clear o.a (gets ++ operand_text o.b) (operand_only o.b)
        & operand_clear o.a (gets ++ (operand_text o.b ++ next)) (operand_clear o.b next refl)
        & operand_clear o.a (next_gets ++ operand_text o.b) (operand_only o.b)
        & operand_clear o.a close refl
        & operand_clear o.a close refl
        & no_row)
        (suc k) (omega arith) h

test_kind : (t : Operation) → is_test t ≡ true → t.kind ≤ 7
test_kind t ok = by_zero (eqb t.kind 0) refl ok
  where
    by_zero : (b : Bool) → eqb t.kind 0 ≡ b → cond b (eqb t.a 0 && eqb t.b 0) (leb t.kind 2 && is_operation t) ≡ true → t.kind ≤ 7
    by_zero true e ok = omega (arith, eqb-true t.kind 0 e)
    by_zero false e ok = omega (arith, leb-true t.kind 2 (and_left (leb t.kind 2) (is_operation t) ok))

decimal_clear : (k : ℕ) → Clear (decimal k)
decimal_clear k =
    by_test Clear (ltb k 10) (λ e. rw (ne_eqb (48 + k) 10 (λ z. omega arith)) refl)
    (λ e. rw (ne_eqb (48 + k / 10) 10 (λ z. omega arith), ne_eqb (48 + k % 10) 10 (λ z. omega arith)) refl)

-- no byte of a line's text ends the line
pub text_clear : (l : Line) → is_line l ≡ true → absent 10 (line_text l) ≡ true
text_clear (Perform o) ok = operation_clear o (operation_operands o ok).kind_most
text_clear (While t) ok = operation_clear t (test_kind t ok)
text_clear (If t) ok = operation_clear t (test_kind t ok)
text_clear End ok = refl
text_clear (Mark k) ok = decimal_clear k
text_clear Other ok = refl
