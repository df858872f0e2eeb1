-- What the lines of a block, with operands numbered already, add to the transitions and marks: those of its translation.
use mathlib.Core.Bool.{Bool, true, false, cond}
use mathlib.Core.List.{List, [], ◌∷◌, ◌++◌, append_assoc, append-nil}
use mathlib.Core.Path.{◌≡◌, refl, sym, ap, ap₂, ◌∙◌}
use Prim.Native.Nat.{ℕ, suc, ◌+◌}
use native.Mathlib.Omega.{arith}
use lib.ListN.{length, length-append, set}
use Rattle.lists.specs.List.{concat_map}
use Rattle.lists.proofs.List.{concat_map_append}
use Rattle.heap.specs.Operation.{Op}
use Rattle.run.specs.Run.{Transition}
use Rattle.format.specs.JobNumbers.{transition_numbers}
use Rattle.lines.specs.declared.Line.{Line}
use Rattle.lines.specs.declared.Line.TheVariants.{Perform, While, If, End, Mark, Other}
use Rattle.lines.specs.declared.Operation.{Operation}
use Rattle.listing.specs.LineByLine.{Open, arrow_numbers, skip_numbers, test_numbers, opposite_numbers}
use Rattle.listing.specs.Listing.{Test, same, other, any, Statement, perform, mark, while, if, Block, done, ◌⨾◌}
use Rattle.listing.specs.Text.{operation_for, operation_for_test, lines_for, lines_in}
use Rattle.listing.specs.Translation.{skip, test, opposite, arrow, exit, next, end, steps, lines, MarkState, marked, marks}

-- a position without its names
pub record Emitted : Type 0 where
  pub passed : ℕ
  pub opens : List Open
  pub count : ℕ
  pub transitions : List ℕ
  pub marks : List ℕ

-- one line more, and all
abbrev pub closed_by : List Open → Emitted → Emitted
closed_by [] e = e
closed_by (o ∷ os) e =
    record {
      passed = suc e.passed;
      opens = os;
      count = suc (suc e.count);
      transitions =
          e.transitions
          ++ (arrow_numbers e.passed skip_numbers (cond o.loops o.state (suc e.passed))
          ++ arrow_numbers o.state (opposite_numbers o.test) (suc e.passed));
      marks = e.marks;
    }

abbrev pub led : List Open → Operation → List ℕ → Emitted → Emitted
led os o ms e =
    record {
      passed = suc e.passed;
      opens = os;
      count = suc e.count;
      transitions = e.transitions ++ arrow_numbers e.passed o (suc e.passed);
      marks = ms;
    }

abbrev pub emit : Line → Emitted → Emitted
emit (Perform o) e = led e.opens o e.marks e
emit (While t) e = led (record { loops = true; test = t; state = e.passed } ∷ e.opens) (test_numbers t) e.marks e
emit (If t) e = led (record { loops = false; test = t; state = e.passed } ∷ e.opens) (test_numbers t) e.marks e
emit End e = closed_by e.opens e
emit (Mark k) e = led e.opens skip_numbers (set e.marks k e.passed) e
emit Other e = e

abbrev pub emit_all : List Line → Emitted → Emitted
emit_all [] e = e
emit_all (l ∷ ls) e = emit_all ls (emit l e)

-- ---- transitions and marks added

abbrev pub set_all : List MarkState → List ℕ → List ℕ
set_all [] l = l
set_all (m ∷ ms) l = set_all ms (set l m.number m.state)

set_append : (a b : List MarkState) (l : List ℕ) → set_all (a ++ b) l ≡ set_all b (set_all a l)
set_append [] b l = refl
set_append (m ∷ a) b l = set_append a b (set l m.number m.state)

abbrev pub adding : List Open → ℕ → List Transition → List MarkState → Emitted → Emitted
adding os p ts ms e =
    record {
      passed = p;
      opens = os;
      count = length ts + e.count;
      transitions = e.transitions ++ concat_map transition_numbers ts;
      marks = set_all ms e.marks;
    }

-- the parts of two equal ones
emitted_path : {p : ℕ} {os : List Open} {c d : ℕ} {ts us ms ns : List ℕ} → c ≡ d → ts ≡ us → ms ≡ ns
    → ◌≡◌ {A = Emitted} (record { passed = p; opens = os; count = c; transitions = ts; marks = ms })
    (record { passed = p; opens = os; count = d; transitions = us; marks = ns })
emitted_path {p} {os} x y z i = record { passed = p; opens = os; count = x i; transitions = y i; marks = z i }

adding_none : (e : Emitted) → adding e.opens e.passed [] [] e ≡ e
adding_none e = emitted_path (omega arith) (append-nil e.transitions) refl

adding_twice : (os ps : List Open) (p q : ℕ) (ts us : List Transition) (ms ns : List MarkState) (e : Emitted)
    → adding ps q us ns (adding os p ts ms e) ≡ adding ps q (ts ++ us) (ms ++ ns) e
adding_twice os ps p q ts us ms ns e =
    emitted_path (omega (arith, length-append ts us))
    (append_assoc e.transitions (concat_map transition_numbers ts) (concat_map transition_numbers us)
    ∙ ap (λ l. e.transitions ++ l) (sym (concat_map_append transition_numbers ts us)))
    (sym (set_append ms ns e.marks))

-- ---- one line

test_numbers_lem : (t : Test) (p q : ℕ) → arrow_numbers p (test_numbers (operation_for_test t)) q ≡ transition_numbers (arrow p (test t) q)
test_numbers_lem (same a b) p q = refl
test_numbers_lem (other a b) p q = refl
test_numbers_lem any p q = refl

opposite_numbers_lem : (t : Test) (p q : ℕ) → arrow_numbers p (opposite_numbers (operation_for_test t)) q ≡ transition_numbers (arrow p (opposite t) q)
opposite_numbers_lem (same a b) p q = refl
opposite_numbers_lem (other a b) p q = refl
opposite_numbers_lem any p q = refl

led_adds : (os : List Open) (n : Operation) (o : Op) (ms : List MarkState) (e : Emitted)
    → arrow_numbers e.passed n (suc e.passed) ≡ transition_numbers (arrow e.passed o (suc e.passed))
    → led os n (set_all ms e.marks) e ≡ adding os (suc e.passed) (arrow e.passed o (suc e.passed) ∷ []) ms e
led_adds os n o ms e w =
    emitted_path (omega arith) (ap (λ l. e.transitions ++ l) (w ∙ sym (append-nil (transition_numbers (arrow e.passed o (suc e.passed)))))) refl

closed_adds : (loops : Bool) (t : Test) (q : ℕ) (os : List Open) (e : Emitted)
    → e.opens ≡ record { loops = loops; test = operation_for_test t; state = q } ∷ os
    → emit End e
    ≡ adding os (suc e.passed) (arrow e.passed skip (cond loops q (suc e.passed)) ∷ arrow q (opposite t) (suc e.passed) ∷ []) [] e
closed_adds loops t q os e w =
    ap (λ l. closed_by l e) w
    ∙ emitted_path (omega arith) (ap (λ l. e.transitions ++ (arrow_numbers e.passed skip_numbers (cond loops q (suc e.passed)) ++ l))
    (opposite_numbers_lem t q (suc e.passed) ∙ sym (append-nil (transition_numbers (arrow q (opposite t) (suc e.passed))))))
    refl

-- the state in which a block ends is the last new one
pub end_next : (b : Block) (p : ℕ) → suc (end b p (suc p)) ≡ next b (suc p)
end_next done p = refl
end_next (s ⨾ b) p = end_next b (exit s (suc p))

-- ---- statements and blocks

-- a `while` or an `if`, from what its block does
module _ (loops : Bool) (t : Test) (b : Block) (rest : List Line) (e : Emitted) where
  abbrev p : ℕ
  p = e.passed

  abbrev n : ℕ
  n = suc p

  abbrev q : ℕ
  q = end b n (suc n)

  abbrev frame : Open
  frame = record { loops = loops; test = operation_for_test t; state = p }

  abbrev first : List Transition
  first = arrow p (test t) n ∷ []

  -- where the `end` leads to state m
  abbrev last : ℕ → List Transition
  last m = arrow q skip (cond loops p m) ∷ arrow p (opposite t) m ∷ []

  abbrev whole : ℕ → Emitted
  whole m = adding e.opens m (first ++ (lines b n (suc n) ++ last m)) (marks b n (suc n)) e

  abbrev inner : Emitted
  inner = adding (frame ∷ e.opens) n first [] e

  -- where the block is done
  abbrev closing : Emitted
  closing = adding (frame ∷ e.opens) q (lines b n (suc n)) (marks b n (suc n)) inner

  enclosing : (l : Line) → emit l e ≡ inner → emit_all (lines_in b ++ (End ∷ rest)) inner ≡ emit_all (End ∷ rest) closing
      → emit_all (l ∷ ((lines_in b ++ (End ∷ [])) ++ rest)) e ≡ emit_all rest (whole (next b (suc n)))
  enclosing l w inside =
      ap₂ emit_all (append_assoc (lines_in b) (End ∷ []) rest) w
      ∙ inside
      ∙ ap (emit_all rest)
      (closed_adds loops t p e.opens closing refl
      ∙ adding_twice (frame ∷ e.opens) e.opens q (suc q) (lines b n (suc n)) (last (suc q)) (marks b n (suc n)) [] inner
      ∙ adding_twice (frame ∷ e.opens) e.opens n (suc q) first (lines b n (suc n) ++ last (suc q)) [] (marks b n (suc n) ++ []) e
      ∙ ap (λ ms. adding e.opens (suc q) (first ++ (lines b n (suc n) ++ last (suc q))) ms e) (append-nil (marks b n (suc n)))
      ∙ ap whole (end_next b n))

mutual
  emit_statement : (s : Statement) (rest : List Line) (e : Emitted)
      → emit_all (lines_for s ++ rest) e
      ≡ emit_all rest (adding e.opens (exit s (suc e.passed)) (steps s e.passed (suc e.passed)) (marked s e.passed (suc e.passed)) e)
  emit_statement (perform o) rest e =
      ap (emit_all rest) (led_adds e.opens (operation_for o) o [] e refl)
  emit_statement (mark k) rest e =
      ap (emit_all rest) (led_adds e.opens skip_numbers skip (record { number = k; state = e.passed } ∷ []) e refl)
  emit_statement (while t b) rest e =
      enclosing true t b rest e (While (operation_for_test t))
      (led_adds (frame true t b rest e ∷ e.opens) (test_numbers (operation_for_test t)) (test t) [] e (test_numbers_lem t e.passed (suc e.passed)))
      (emit_block b (End ∷ rest) (inner true t b rest e))
  emit_statement (if t b) rest e =
      enclosing false t b rest e (If (operation_for_test t))
      (led_adds (frame false t b rest e ∷ e.opens) (test_numbers (operation_for_test t)) (test t) [] e (test_numbers_lem t e.passed (suc e.passed)))
      (emit_block b (End ∷ rest) (inner false t b rest e))

  pub emit_block : (b : Block) (rest : List Line) (e : Emitted)
      → emit_all (lines_in b ++ rest) e
      ≡ emit_all rest
      (adding e.opens (end b e.passed (suc e.passed)) (lines b e.passed (suc e.passed)) (marks b e.passed (suc e.passed)) e)
  emit_block done rest e = ap (emit_all rest) (sym (adding_none e))
  emit_block (s ⨾ b) rest e =
      let p = e.passed in
      let x = exit s (suc p) in
      let after = adding e.opens x (steps s p (suc p)) (marked s p (suc p)) e in
      ap (λ ls. emit_all ls e) (append_assoc (lines_for s) (lines_in b) rest)
      ∙ emit_statement s (lines_in b ++ rest) e
      ∙ emit_block b rest after
      ∙ ap (emit_all rest)
      (adding_twice e.opens e.opens x (end b x (suc x)) (steps s p (suc p)) (lines b x (suc x)) (marked s p (suc p)) (marks b x (suc x)) e)
