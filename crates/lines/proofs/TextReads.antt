-- The text of a line of the grammar reads as that line.
use mathlib.Core.Bool.{Bool, true, false, ◌&&◌}
use mathlib.Core.List.{List, [], ◌∷◌, ◌++◌, append-nil}
use mathlib.Core.Path.{◌≡◌, refl, sym, ap, ap₂, ◌∙◌}
use Prim.Native.Nat.{ℕ, zero, suc, ◌+◌, ◌-◌, ◌/◌, ◌%◌, ◌≤◌, ◌<◌}
use native.Mathlib.Decide.{dec_lt}
use native.Mathlib.Nat.{mod-lt, div-add-mod'}
use native.Mathlib.Omega.{arith}
use borrow.Author.Tests.{leb-true, eqb-true, ne_eqb, lt-ltb, le-ltb, le-leb}
use lib.Dec.{eqb, leb}
use lib.ListN.{length, drop}
use Rattle.std.specs.Prelude.{Some}
use Rattle.std.specs.Option.{option_map_or}
use Rattle.lists.proofs.Test.{and_left, and_right}
use Rattle.kinds.specs.Kinds.{least_a_of, least_b_of, most_b_of, allowed}
use Rattle.lists.proofs.List.{end as no_row, ◌&◌}
use Rattle.heap.proofs.Rows.{by_kind}
use Rattle.kinds.proofs.Rows.{known, allowed_row, most_bound}
use Rattle.lines.specs.Words.{null, any, end, while, if, mark, equals, differs, gets, next, next_gets, new, delete, close, starts, is_word}
use Rattle.lines.specs.Line.{operand_text, operation_text, decimal, line_text, is_operation, is_test, is_line, letter_of, operand_of, checked, enclosed_of, before_end, second_of, between_of, operation_of, opens, test_of, test_line, digit_of, mark_for, mark_of, line_of}
use Rattle.lines.specs.declared.Operation.{Operation}
use Rattle.lines.specs.declared.Line.{Line}
use Rattle.lines.specs.declared.Line.TheVariants.{Perform, While, If, End, Mark, Other}

and_false : (b : Bool) → b && false ≡ false
and_false true = refl
and_false false = refl

-- what follows an operand does not go on as one of the words that begin with a letter
pub record Apart (t : List ℕ) : Type 0 where
  pub null_not : starts t (117 ∷ 108 ∷ 108 ∷ []) ≡ false
  pub new_not : starts t (101 ∷ 119 ∷ 40 ∷ []) ≡ false
  pub delete_not : starts t (101 ∷ 108 ∷ 101 ∷ 116 ∷ 101 ∷ 40 ∷ []) ≡ false
  pub end_not : starts t (110 ∷ 100 ∷ []) ≡ false
  pub mark_not : starts t (97 ∷ 114 ∷ 107 ∷ 32 ∷ []) ≡ false
  pub while_not : starts t (104 ∷ 105 ∷ 108 ∷ 101 ∷ 32 ∷ []) ≡ false
  pub if_not : starts t (102 ∷ 32 ∷ []) ≡ false

-- a blank, a point or a bracket follows, or nothing
blank_apart : (t : List ℕ) → Apart (32 ∷ t)
unfolding starts
blank_apart t = record { null_not = refl; new_not = refl; delete_not = refl; end_not = refl; mark_not = refl; while_not = refl; if_not = refl }

point_apart : (t : List ℕ) → Apart (46 ∷ t)
unfolding starts
point_apart t = record { null_not = refl; new_not = refl; delete_not = refl; end_not = refl; mark_not = refl; while_not = refl; if_not = refl }

close_apart : Apart close
unfolding starts
close_apart = record { null_not = refl; new_not = refl; delete_not = refl; end_not = refl; mark_not = refl; while_not = refl; if_not = refl }

none_apart : Apart []
unfolding starts
none_apart = record { null_not = refl; new_not = refl; delete_not = refl; end_not = refl; mark_not = refl; while_not = refl; if_not = refl }

-- an operand at the front is no word of letters
no_word : (x : ℕ) (t : List ℕ) (c : ℕ) (w : List ℕ) → starts (null ++ t) (c ∷ w) ≡ false → starts t w ≡ false
    → starts (operand_text x ++ t) (c ∷ w) ≡ false
unfolding starts
no_word zero t c w p q = p
no_word (suc n) t c w p q = rw q (and_false (eqb (97 + n) c))

-- an operand reads as itself
operand_reads : (x : ℕ) (t : List ℕ) → x ≤ 26 → Apart t → operand_of (operand_text x ++ t) ≡ Some (x, t)
unfolding operand_of letter_of starts
operand_reads zero t h apart = refl
operand_reads (suc n) t h apart =
    let is : 97 + n - 96 ≡ suc n = omega arith in
    rw (apart.null_not, and_false (eqb (97 + n) 110))
    (simp (le-leb 97 (97 + n) (omega arith), le-leb (97 + n) 122 (omega arith)) (ap (λ v. Some (v, t)) is))

-- ---- operations

checked_reads : (kind a b : ℕ) → allowed 26 kind a b ≡ true → checked kind a b ≡ Some (record { kind = kind; a = a; b = b })
unfolding checked
checked_reads kind a b ok = rw ok refl

-- an allowed operation has letters and null for operands, and no b if it takes none
pub record Operands (kind a b : ℕ) : Type 0 where
  pub kind_some : 1 ≤ kind
  pub kind_most : kind ≤ 7
  pub a_most : a ≤ 26
  pub b_most : b ≤ most_b_of kind 26
  pub b_letter : b ≤ 26

pub operands : (kind a b : ℕ) → kind ≤ 7 → allowed 26 kind a b ≡ true → Operands kind a b
operands kind a b early ok =
    let (l, m) = known 26 kind a b ok in
    let both = allowed_row kind 26 a b l m ∙ ok in
    let in-a = and_left (leb (least_a_of kind) a && leb a 26) (leb (least_b_of kind) b && leb b (most_b_of kind 26)) both in
    let in_b = and_right (leb (least_a_of kind) a && leb a 26) (leb (least_b_of kind) b && leb b (most_b_of kind 26)) both in
    let most = leb-true b (most_b_of kind 26) (and_right (leb (least_b_of kind) b) (leb b (most_b_of kind 26)) in_b) in
    record {
      kind_some = l;
      kind_most = early;
      a_most = leb-true a 26 (and_right (leb (least_a_of kind) a) (leb a 26) in-a);
      b_most = most;
      b_letter = omega (arith, most_bound kind 26);
    }

-- those of a line
pub operation_operands : (o : Operation) → is_operation o ≡ true → Operands o.kind o.a o.b
operation_operands o ok =
    let row = allowed 26 o.kind o.a o.b in
    operands o.kind o.a o.b (leb-true o.kind 7 (and_left (leb o.kind 7) row ok)) (and_right (leb o.kind 7) row ok)

-- the second operand, and what comes after it
second_reads : (kind a b : ℕ) (t : List ℕ) → b ≤ 26 → Apart t
    → second_of kind a (operand_text b ++ t) ≡ before_end kind a b t
unfolding second_of
second_reads kind a b t h apart = rw (operand_reads b t h apart) refl

second_last : (kind a b : ℕ) → b ≤ 26 → second_of kind a (operand_text b) ≡ checked kind a b
unfolding is_word starts
second_last kind a b h = sym (ap (second_of kind a) (append-nil (operand_text b))) ∙ second_reads kind a b [] h none_apart

second_next : (a b : ℕ) → b ≤ 26 → second_of 3 a (operand_text b ++ next) ≡ checked 4 a b
unfolding is_word starts
second_next a b h = second_reads 3 a b next h (point_apart _)

enclosed_reads : (kind a : ℕ) → a ≤ 26 → enclosed_of kind (operand_text a ++ close) ≡ checked kind a 0
unfolding enclosed_of is_word starts
enclosed_reads kind a h = rw (operand_reads a close h close_apart) refl

-- an operand first
null_new : (t : List ℕ) → starts (null ++ t) new ≡ false
unfolding starts
null_new t = refl

null_delete : (t : List ℕ) → starts (null ++ t) delete ≡ false
unfolding starts
null_delete t = refl

first_reads : (a : ℕ) (t : List ℕ) → a ≤ 26 → Apart t → operation_of (operand_text a ++ t) ≡ between_of a t
unfolding operation_of
first_reads a t h apart =
    rw (
      no_word a t 110 (drop 1 new) (null_new t) apart.new_not,
      no_word a t 100 (drop 1 delete) (null_delete t) apart.delete_not,
      operand_reads a t h apart,
    ) refl

-- what stands between decides the kind
module _ (a : ℕ) (t : List ℕ) where
  between_equals : between_of a (equals ++ t) ≡ second_of 1 a t
  unfolding between_of starts
  between_equals = refl

  between_differs : between_of a (differs ++ t) ≡ second_of 2 a t
  unfolding between_of starts
  between_differs = refl

  between_gets : between_of a (gets ++ t) ≡ second_of 3 a t
  unfolding between_of starts
  between_gets = refl

  between_next : between_of a (next_gets ++ t) ≡ second_of 5 a t
  unfolding between_of starts
  between_next = refl

operation_new : (t : List ℕ) → operation_of (new ++ t) ≡ enclosed_of 6 t
unfolding operation_of starts
operation_new t = refl

operation_delete : (t : List ℕ) → operation_of (delete ++ t) ≡ enclosed_of 7 t
unfolding operation_of starts
operation_delete t = refl

-- The text of an operation reads as it.
abbrev Reading : ℕ → ℕ → ℕ → Type 0
Reading a b k = Operands k a b → allowed 26 k a b ≡ true
    → operation_of (operation_text (record { kind = k; a = a; b = b })) ≡ Some (record { kind = k; a = a; b = b })

no_b : (kind a b : ℕ) → most_b_of kind 26 ≡ 0 → Operands kind a b → b ≡ 0
no_b kind a b e h = omega (arith, h.b_most)

pub operation_reads : (o : Operation) → is_operation o ≡ true → operation_of (operation_text o) ≡ Some o
unfolding most_b_of
operation_reads o ok =
    let a = o.a in
    let b = o.b in
    let all = operation_operands o ok in
    by_kind 7 (Reading a b)
    ((λ h ok. first_reads a (equals ++ operand_text b) h.a_most (blank_apart _) ∙ between_equals a (operand_text b) ∙ second_last 1 a b h.b_letter ∙ checked_reads 1 a b ok)
    & (λ h ok. first_reads a (differs ++ operand_text b) h.a_most (blank_apart _) ∙ between_differs a (operand_text b) ∙ second_last 2 a b h.b_letter ∙ checked_reads 2 a b ok)
    & (λ h ok. first_reads a (gets ++ operand_text b) h.a_most (blank_apart _) ∙ between_gets a (operand_text b) ∙ second_last 3 a b h.b_letter ∙ checked_reads 3 a b ok)
    & (λ h ok. first_reads a (gets ++ (operand_text b ++ next)) h.a_most (blank_apart _) ∙ between_gets a (operand_text b ++ next) ∙ second_next a b h.b_letter ∙ checked_reads 4 a b ok)
    & (λ h ok. first_reads a (next_gets ++ operand_text b) h.a_most (point_apart _) ∙ between_next a (operand_text b) ∙ second_last 5 a b h.b_letter ∙ checked_reads 5 a b ok)
    & (λ h ok. let z = no_b 6 a b refl h in operation_new (operand_text a ++ close) ∙ enclosed_reads 6 a h.a_most ∙ ap (checked 6 a) (sym z) ∙ checked_reads 6 a b ok)
    & (λ h ok. let z = no_b 7 a b refl h in operation_delete (operand_text a ++ close) ∙ enclosed_reads 7 a h.a_most ∙ ap (checked 7 a) (sym z) ∙ checked_reads 7 a b ok)
    & no_row)
    o.kind all.kind_some all.kind_most all (and_right (leb o.kind 7) (allowed 26 o.kind a b) ok)

-- ---- lines

no_line_word : (s w : List ℕ) → starts s w ≡ false → is_word s w ≡ false
unfolding is_word
no_line_word s w e = rw e (and_false (eqb (length s) (length w)))

abbrev performed : List ℕ → Line
performed s = option_map_or Perform (operation_of s) Other

-- what begins with none of the other lines' words is read as an operation
line_operation : (s : List ℕ) → starts s end ≡ false → starts s mark ≡ false → starts s while ≡ false → starts s if ≡ false → line_of s ≡ performed s
unfolding line_of
line_operation s e m w i = rw (no_line_word s end e, m, w, i) refl

plain_line : (a : ℕ) (t : List ℕ) → Apart t → line_of (operand_text a ++ t) ≡ performed (operand_text a ++ t)
unfolding starts
plain_line a t apart =
    line_operation (operand_text a ++ t) (no_word a t 101 (drop 1 end) refl apart.end_not) (no_word a t 109 (drop 1 mark) refl apart.mark_not)
    (no_word a t 119 (drop 1 while) refl apart.while_not) (no_word a t 105 (drop 1 if) refl apart.if_not)

new_line : (t : List ℕ) → line_of (new ++ t) ≡ performed (new ++ t)
unfolding starts
new_line t = line_operation (new ++ t) refl refl refl refl

delete_line : (t : List ℕ) → line_of (delete ++ t) ≡ performed (delete ++ t)
unfolding starts
delete_line t = line_operation (delete ++ t) refl refl refl refl

operation_line : (o : Operation) → is_operation o ≡ true → line_of (operation_text o) ≡ Perform o
operation_line o ok =
    let a = o.a in
    let b = o.b in
    let all = operation_operands o ok in
    by_kind 7 (λ k. line_of (operation_text (record { kind = k; a = a; b = b })) ≡ performed (operation_text (record { kind = k; a = a; b = b })))
    (plain_line a (equals ++ operand_text b) (blank_apart _)
    & plain_line a (differs ++ operand_text b) (blank_apart _)
    & plain_line a (gets ++ operand_text b) (blank_apart _)
    & plain_line a (gets ++ (operand_text b ++ next)) (blank_apart _)
    & plain_line a (next_gets ++ operand_text b) (point_apart _)
    & new_line (operand_text a ++ close)
    & delete_line (operand_text a ++ close)
    & no_row)
    o.kind all.kind_some all.kind_most
    ∙ ap (λ r. option_map_or Perform r Other) (operation_reads o ok)

-- ---- T

any_reads : (loops : Bool) → test_line loops any ≡ opens loops (record { kind = 0; a = 0; b = 0 })
unfolding test_line test_of is_word starts
any_reads loops = refl

-- no operation is the word `any`
any_not : (a : ℕ) (t : List ℕ) → starts t (drop 1 any) ≡ false → starts (operand_text a ++ t) any ≡ false
unfolding starts
any_not a t e = no_word a t 97 (drop 1 any) refl e

test_operation : (loops : Bool) (o : Operation) → is_operation o ≡ true → o.kind ≤ 2 → starts (operation_text o) any ≡ false
    → test_line loops (operation_text o) ≡ opens loops o
unfolding test_line test_of
test_operation loops o ok h e = rw (no_line_word (operation_text o) any e, operation_reads o ok, le-leb o.kind 2 h) refl

test_any : (a b : ℕ) (k : ℕ) → 1 ≤ k → k ≤ 2 → starts (operation_text (record { kind = k; a = a; b = b })) any ≡ false
unfolding starts
test_any a b zero l h = absurd (omega arith)
test_any a b (suc zero) l h = any_not a (equals ++ operand_text b) refl
test_any a b (suc (suc zero)) l h = any_not a (differs ++ operand_text b) refl
test_any a b (suc (suc (suc k))) l h = absurd (omega arith)

test_reads : (loops : Bool) (kind a b : ℕ) → is_test (record { kind = kind; a = a; b = b }) ≡ true
    → test_line loops (operation_text (record { kind = kind; a = a; b = b })) ≡ opens loops (record { kind = kind; a = a; b = b })
test_reads loops zero a b ok =
    let p = eqb-true a 0 (and_left (eqb a 0) (eqb b 0) ok) in
    let q = eqb-true b 0 (and_right (eqb a 0) (eqb b 0) ok) in
    any_reads loops ∙ ap₂ (λ x y. opens loops (record { kind = 0; a = x; b = y })) (sym p) (sym q)
test_reads loops (suc k) a b ok =
    let o : Operation = record { kind = suc k; a = a; b = b } in
    let both : leb (suc k) 2 && is_operation o ≡ true = rw (ne_eqb (suc k) 0 (λ e. omega arith)) at ok in
    let h = leb-true (suc k) 2 (and_left (leb (suc k) 2) (is_operation o) both) in
    test_operation loops o (and_right (leb (suc k) 2) (is_operation o) both) h (test_any a b (suc k) (omega arith) h)

-- ---- marks

digit_reads : (k : ℕ) → k < 10 → digit_of (48 + k) ≡ Some k
unfolding digit_of
digit_reads k h = let is : 48 + k - 48 ≡ k = omega arith in simp (le-leb 48 (48 + k) (omega arith), le-leb (48 + k) 57 (omega arith)) (ap Some is)

mark_one : (k : ℕ) → k < 10 → mark_of (decimal k) ≡ Some k
unfolding mark_of mark_for
mark_one k h = rw (lt-ltb k 10 h, digit_reads k h, le-leb k 63 (omega arith)) refl

mark_two : (k : ℕ) → 10 ≤ k → k ≤ 63 → mark_of (decimal k) ≡ Some k
unfolding mark_of mark_for
mark_two k l h =
    let parts = div-add-mod' k 10 in
    let small : k % 10 < 10 = mod-lt k (omega arith) in
    let some : 1 ≤ k / 10 = omega arith in
    let few : k / 10 < 10 = omega arith in
    rw (le-ltb k 10 l, digit_reads (k / 10) few, digit_reads (k % 10) small, le-leb 1 (k / 10) some, parts, le-leb k 63 h) refl

mark_reads : (k : ℕ) → k ≤ 63 → mark_of (decimal k) ≡ Some k
mark_reads k h = by_size (dec_lt k 10)
  where
    by_size : Dec (k < 10) → mark_of (decimal k) ≡ Some k
    by_size (yes s) = mark_one k s
    by_size (no s) = mark_two k (omega arith) h

-- ---- all lines

end_line : line_of end ≡ End
unfolding line_of is_word starts
end_line = refl

mark_line : (t : List ℕ) → line_of (mark ++ t) ≡ option_map_or Mark (mark_of t) Other
unfolding line_of starts
mark_line t = rw (no_line_word (mark ++ t) end refl) refl

while_line : (t : List ℕ) → line_of (while ++ t) ≡ test_line true t
unfolding line_of starts
while_line t = rw (no_line_word (while ++ t) end refl) refl

if_line : (t : List ℕ) → line_of (if ++ t) ≡ test_line false t
unfolding line_of starts
if_line t = rw (no_line_word (if ++ t) end refl) refl

-- the text of a line reads as the line
pub text_reads : (l : Line) → is_line l ≡ true → line_of (line_text l) ≡ l
text_reads (Perform o) ok = operation_line o ok
text_reads (While t) ok = while_line (operation_text t) ∙ test_reads true t.kind t.a t.b ok
text_reads (If t) ok = if_line (operation_text t) ∙ test_reads false t.kind t.a t.b ok
text_reads End ok = end_line
text_reads (Mark k) ok = mark_line (decimal k) ∙ ap (λ r. option_map_or Mark r Other) (mark_reads k (leb-true k 63 ok))
text_reads Other ok = let z : false ≡ true = ok in cc
