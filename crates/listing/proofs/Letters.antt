-- Letters: those of a listing are 1 to 26, each once, so that letters for numbers and numbers for letters undo each other.
use mathlib.Core.Bool.{Bool, true, false, cond}
use mathlib.Core.List.Memᴰ
use mathlib.Core.List.{List, [], ◌∷◌, ◌++◌}
use mathlib.Core.Logic.{◌≢◌}
use mathlib.Core.Path.{◌≡◌, refl, sym, ap, ap₂, subst, ◌∙◌}
use Prim.Native.Nat.{ℕ, zero, suc, ◌≤◌, ◌<◌}
use native.Mathlib.Omega.{arith}
use lib.Dec.{eqb, T}
use lib.ListN.{length, get_or}
use Rattle.lists.specs.List.{◌∈◌, Every, Distinct, absent}
use Rattle.lists.proofs.List.{every_none, every_cons, every_one, every_append, every_snoc, every_head, every_tail, every_left, every_right, distinct_snoc, get_or_mem}
use Rattle.lists.proofs.Reflect.{r_eq, r_absent, is_true, is_false}
use Rattle.heap.specs.Operation.{Op, equal, different, assign, load, store, new, delete, equal_value, below_value, copy, larger, smaller, read, Allowed}
use Rattle.format.specs.JobBytes.{Between}
use Rattle.lines.specs.declared.Line.{Line}
use Rattle.lines.specs.declared.Line.TheVariants.{Perform, While, If, End, Mark, Other}
use Rattle.lines.specs.declared.Operation.{Operation}
use Rattle.listing.specs.Limits.{Fits, FitsOne}
use Rattle.listing.specs.Listing.{Test, same, other, any, Statement, perform, mark, while, if, Block, done, ◌⨾◌, mark_of, marks_in}
use Rattle.listing.specs.Names.{meet, meet_line, index_of, number_in, letter_in, op_by, test_by, statement_by, block_by}
use Rattle.listing.specs.Reading.{meet_lines}
use Rattle.listing.specs.Text.{operation_for, operation_for_test, lines_for, lines_in}
use Rattle.listing.specs.Translation.{test}
use Rattle.listing.proofs.Lines.{Proper, Inside}
use Rattle.listing.proofs.Operations.{kind_by, small_op, small_test, is_operation_lem, is_test_lem}
use Rattle.listing.proofs.Names.{Met, MetIn, MetLine}

at_index : (x : ℕ) (names : List ℕ) → x ∈ names → get_or names (index_of x names) 0 ≡ x
at_index x [] m = absurd (Memᴰ.not-nil m)
at_index x (y ∷ names) m = go (eqb y x) (r_eq y x).holds (r_eq y x).tests m (at_index x names)
  where
    go : (b : Bool) → (T b → y ≡ x) → (y ≡ x → T b) → x ∈ (y ∷ names) → (x ∈ names → get_or names (index_of x names) 0 ≡ x)
        → get_or (y ∷ names) (cond b 0 (suc (index_of x names))) 0 ≡ x
    go true h t i r = h tt
    go false h t (Memᴰ.head e) r = absurd (t (sym e))
    go false h t (Memᴰ.tail i) r = r i

module _ (names : List ℕ) where
  abbrev back : ℕ → ℕ
  back x = letter_in names (number_in names x)

  letter_back : (x : ℕ) → Met names x → back x ≡ x
  letter_back zero m = refl
  letter_back (suc c) m = at_index (suc c) names m

  op_back : (o : Op) → MetIn names (operation_for o) → op_by (letter_in names) (op_by (number_in names) o) ≡ o
  op_back (equal a b) (x, y) = ap₂ equal (letter_back a x) (letter_back b y)
  op_back (different a b) (x, y) = ap₂ different (letter_back a x) (letter_back b y)
  op_back (assign a b) (x, y) = ap₂ assign (letter_back a x) (letter_back b y)
  op_back (load a b) (x, y) = ap₂ load (letter_back a x) (letter_back b y)
  op_back (store a b) (x, y) = ap₂ store (letter_back a x) (letter_back b y)
  op_back (new a) (x, y) = ap new (letter_back a x)
  op_back (delete a) (x, y) = ap delete (letter_back a x)
  op_back (equal_value a b) (x, y) = ap₂ equal_value (letter_back a x) (letter_back b y)
  op_back (below_value a b) (x, y) = ap₂ below_value (letter_back a x) (letter_back b y)
  op_back (copy a b) (x, y) = ap₂ copy (letter_back a x) (letter_back b y)
  op_back (larger a b) (x, y) = ap₂ larger (letter_back a x) (letter_back b y)
  op_back (smaller a b) (x, y) = ap₂ smaller (letter_back a x) (letter_back b y)
  op_back (read a) (x, y) = ap read (letter_back a x)

  test_back : (t : Test) → MetIn names (operation_for_test t) → test_by (letter_in names) (test_by (number_in names) t) ≡ t
  test_back (same a b) (x, y) = ap₂ same (letter_back a x) (letter_back b y)
  test_back (other a b) (x, y) = ap₂ other (letter_back a x) (letter_back b y)
  test_back any m = refl

  mutual
    statement_back : (s : Statement) → Every (MetLine names) (lines_for s) → statement_by (letter_in names) (statement_by (number_in names) s) ≡ s
    statement_back (perform o) m = ap perform (op_back o (every_head m))
    statement_back (mark k) m = refl
    statement_back (while t b) m = ap₂ while (test_back t (every_head m)) (block_back b (every_left (lines_in b) (End ∷ []) (every_tail m)))
    statement_back (if t b) m = ap₂ if (test_back t (every_head m)) (block_back b (every_left (lines_in b) (End ∷ []) (every_tail m)))

    -- numbers for letters, and letters for numbers again
    pub block_back : (b : Block) → Every (MetLine names) (lines_in b) → block_by (letter_in names) (block_by (number_in names) b) ≡ b
    block_back done m = refl
    block_back (s ⨾ b) m =
        ap₂ ◌⨾◌ (statement_back s (every_left (lines_for s) (lines_in b) m)) (block_back b (every_right (lines_for s) (lines_in b) m))

-- ---- the letters of a listing: each once, 1 to 26

meet_distinct : (names : List ℕ) (x : ℕ) → Distinct names → Distinct (meet names x)
meet_distinct names zero d = d
meet_distinct names (suc c) d = go (absent (suc c) names) (r_absent (suc c) names).holds
  where
    go : (b : Bool) → (T b → ¬ (suc c ∈ names)) → Distinct (cond b (names ++ (suc c ∷ [])) names)
    go true h = distinct_snoc names (suc c) d (h tt)
    go false h = d

line_distinct : (names : List ℕ) (l : Line) → Distinct names → Distinct (meet_line names l)
line_distinct names (Perform o) d = meet_distinct (meet names o.a) o.b (meet_distinct names o.a d)
line_distinct names (While t) d = meet_distinct (meet names t.a) t.b (meet_distinct names t.a d)
line_distinct names (If t) d = meet_distinct (meet names t.a) t.b (meet_distinct names t.a d)
line_distinct names End d = d
line_distinct names (Mark k) d = d
line_distinct names Other d = d

pub lines_distinct : (names : List ℕ) (ls : List Line) → Distinct names → Distinct (meet_lines names ls)
lines_distinct names [] d = d
lines_distinct names (l ∷ ls) d = lines_distinct (meet_line names l) ls (line_distinct names l d)

abbrev pub Letters : List ℕ → Type 0
Letters = Every (Between 1 26)

meet_letters : (names : List ℕ) (x : ℕ) → x ≤ 26 → Letters names → Letters (meet names x)
meet_letters names zero h a = a
meet_letters names (suc c) h a = go (absent (suc c) names)
  where
    go : (b : Bool) → Letters (cond b (names ++ (suc c ∷ [])) names)
    go true = every_snoc (Between 1 26) names a (omega arith, h)
    go false = a

both_letters : (names : List ℕ) (o : Operation) → (o.a ≤ 26) × (o.b ≤ 26) → Letters names → Letters (meet (meet names o.a) o.b)
both_letters names o (f, g) a = meet_letters (meet names o.a) o.b g (meet_letters names o.a f a)

line_letters : (names : List ℕ) (l : Line) → Proper l → Letters names → Letters (meet_line names l)
line_letters names (Perform o) p a = both_letters names o (small_op o p) a
line_letters names (While t) p a = both_letters names t (small_test t p) a
line_letters names (If t) p a = both_letters names t (small_test t p) a
line_letters names End p a = a
line_letters names (Mark k) p a = a
line_letters names Other p a = a

pub lines_letters : (names : List ℕ) (ls : List Line) → Every Proper ls → Letters names → Letters (meet_lines names ls)
lines_letters names [] p a = a
lines_letters names (l ∷ ls) p a = lines_letters (meet_line names l) ls (every_tail p) (line_letters names l (every_head p) a)

-- ---- numbers for letters, where each letter is there once

index_at : (names : List ℕ) (j : ℕ) → Distinct names → j < length names → index_of (get_or names j 0) names ≡ j
index_at [] j d h = absurd (omega arith)
index_at (y ∷ names) zero d h = ap (λ b. cond b 0 (suc (index_of y names))) (is_true (eqb y y) ((r_eq y y).tests refl))
index_at (y ∷ names) (suc j) d h =
    let x = get_or names j 0 in
    let there : x ∈ names = get_or_mem names j (omega arith) in
    let n : eqb y x ≡ false = is_false (eqb y x) (λ t. d.0 (subst (λ z. z ∈ names) (sym ((r_eq y x).holds t)) there)) in
    ap (λ b. cond b 0 (suc (index_of x names))) n ∙ ap suc (index_at names j d.1 (omega arith))

module _ (names : List ℕ) (d : Distinct names) (a : Letters names) where
  number_letter : (i : ℕ) → i ≤ length names → number_in names (letter_in names i) ≡ i
  number_letter zero h = refl
  number_letter (suc j) h = go (get_or names j 0) (a (get_or names j 0) (get_or_mem names j (omega arith))).0 (index_at names j d (omega arith))
    where
      go : (x : ℕ) → 1 ≤ x → index_of x names ≡ j → number_in names x ≡ suc j
      go zero l e = absurd (omega arith)
      go (suc c) l e = ap suc e

  op_number_letter : (o : Op) → Allowed (length names) o → op_by (number_in names) (op_by (letter_in names) o) ≡ o
  op_number_letter (equal x y) l = ap₂ equal (number_letter x l.0) (number_letter y l.1)
  op_number_letter (different x y) l = ap₂ different (number_letter x l.0) (number_letter y l.1)
  op_number_letter (assign x y) l = ap₂ assign (number_letter x l.1) (number_letter y l.2)
  op_number_letter (load x y) l = ap₂ load (number_letter x l.2) (number_letter y l.3)
  op_number_letter (store x y) l = ap₂ store (number_letter x l.1) (number_letter y l.2)
  op_number_letter (new x) l = ap new (number_letter x l.1)
  op_number_letter (delete x) l = ap delete (number_letter x l.1)
  op_number_letter (equal_value x y) l = ap₂ equal_value (number_letter x l.2) (number_letter y l.3)
  op_number_letter (below_value x y) l = ap₂ below_value (number_letter x l.2) (number_letter y l.3)
  op_number_letter (copy x y) l = ap₂ copy (number_letter x l.2) (number_letter y l.3)
  op_number_letter (larger x y) l = ap₂ larger (number_letter x l.2) (number_letter y l.3)
  op_number_letter (smaller x y) l = ap₂ smaller (number_letter x l.2) (number_letter y l.3)
  op_number_letter (read x) l = ap read (number_letter x l.1)

  test_number_letter : (t : Test) → Allowed (length names) (test t) → test_by (number_in names) (test_by (letter_in names) t) ≡ t
  test_number_letter (same x y) l = ap₂ same (number_letter x l.0) (number_letter y l.1)
  test_number_letter (other x y) l = ap₂ other (number_letter x l.0) (number_letter y l.1)
  test_number_letter any l = refl

  mutual
    statement_number_letter : (s : Statement) → FitsOne s (length names) → statement_by (number_in names) (statement_by (letter_in names) s) ≡ s
    statement_number_letter (perform o) f = ap perform (op_number_letter o f.0)
    statement_number_letter (mark k) f = refl
    statement_number_letter (while t b) f = ap₂ while (test_number_letter t f.0) (block_number_letter b f.1)
    statement_number_letter (if t b) f = ap₂ if (test_number_letter t f.0) (block_number_letter b f.1)

    pub block_number_letter : (b : Block) → Fits b (length names) → block_by (number_in names) (block_by (letter_in names) b) ≡ b
    block_number_letter done f = refl
    block_number_letter (s ⨾ b) f = ap₂ ◌⨾◌ (statement_number_letter s f.0) (block_number_letter b f.1)

  -- the lines of such a block, spelled with its letters, are lines of the grammar
  small : (i : ℕ) → i ≤ length names → letter_in names i ≤ 26
  small zero h = omega arith
  small (suc j) h = (a (get_or names j 0) (get_or_mem names j (omega arith))).1

  not_zero : (i : ℕ) → i ≢ 0 → i ≤ length names → letter_in names i ≢ 0
  not_zero zero n h = n
  not_zero (suc j) n h = λ e. let w = (a (get_or names j 0) (get_or_mem names j (omega arith))).0 in omega arith

  spelled_op : (o : Op) → Allowed (length names) o → Allowed 26 (op_by (letter_in names) o)
  spelled_op (equal x y) l = (small x l.0, small y l.1)
  spelled_op (different x y) l = (small x l.0, small y l.1)
  spelled_op (assign x y) l = (not_zero x l.0 l.1, small x l.1, small y l.2)
  spelled_op (load x y) l = (not_zero x l.0 l.2, not_zero y l.1 l.3, small x l.2, small y l.3)
  spelled_op (store x y) l = (not_zero x l.0 l.1, small x l.1, small y l.2)
  spelled_op (new x) l = (not_zero x l.0 l.1, small x l.1)
  spelled_op (delete x) l = (not_zero x l.0 l.1, small x l.1)
  spelled_op (equal_value x y) l = (not_zero x l.0 l.2, not_zero y l.1 l.3, small x l.2, small y l.3)
  spelled_op (below_value x y) l = (not_zero x l.0 l.2, not_zero y l.1 l.3, small x l.2, small y l.3)
  spelled_op (copy x y) l = (not_zero x l.0 l.2, not_zero y l.1 l.3, small x l.2, small y l.3)
  spelled_op (larger x y) l = (not_zero x l.0 l.2, not_zero y l.1 l.3, small x l.2, small y l.3)
  spelled_op (smaller x y) l = (not_zero x l.0 l.2, not_zero y l.1 l.3, small x l.2, small y l.3)
  spelled_op (read x) l = (not_zero x l.0 l.1, small x l.1)

  spelled_test : (t : Test) → Allowed (length names) (test t) → Allowed 26 (test (test_by (letter_in names) t))
  spelled_test (same x y) l = (small x l.0, small y l.1)
  spelled_test (other x y) l = (small x l.0, small y l.1)
  spelled_test any l = (omega arith, omega arith)

  -- so are such lines with one ahead and an `end` behind
  enclosed_lines : (l : Line) (ls : List Line) → Inside l → Proper l → Every Inside ls × Every Proper ls
      → Every Inside (l ∷ (ls ++ (End ∷ []))) × Every Proper (l ∷ (ls ++ (End ∷ [])))
  enclosed_lines l ls i p (x, y) = (
    every_cons Inside i (every_snoc Inside ls x (λ e. let q : ◌≡◌ {A = ℕ} 0 1 = cc in omega arith)),
    every_cons Proper p (every_snoc Proper ls y tt),
  )

  mutual
    spelled_statement : (s : Statement) → FitsOne s (length names) → Every (λ k. k ≤ 63) (mark_of s)
        → Every Inside (lines_for (statement_by (letter_in names) s)) × Every Proper (lines_for (statement_by (letter_in names) s))
    spelled_statement (perform o) f m = (
      every_one Inside (λ e. let q : ◌≡◌ {A = ℕ} 0 1 = cc in omega arith),
      every_one Proper (is_operation_lem (op_by (letter_in names) o) (spelled_op o f.0, omega (arith, f.1, kind_by (letter_in names) o))),
    )
    spelled_statement (mark k) f m = (every_one Inside (λ e. let q : ◌≡◌ {A = ℕ} 0 1 = cc in omega arith), every_one Proper (every_head m))
    spelled_statement (while t b) f m =
        enclosed_lines (While (operation_for_test (test_by (letter_in names) t))) (lines_in (block_by (letter_in names) b))
        (λ e. let q : ◌≡◌ {A = ℕ} 0 1 = cc in omega arith) (is_test_lem (test_by (letter_in names) t) (spelled_test t f.0)) (spelled_block b f.1 m)
    spelled_statement (if t b) f m =
        enclosed_lines (If (operation_for_test (test_by (letter_in names) t))) (lines_in (block_by (letter_in names) b))
        (λ e. let q : ◌≡◌ {A = ℕ} 0 1 = cc in omega arith) (is_test_lem (test_by (letter_in names) t) (spelled_test t f.0)) (spelled_block b f.1 m)

    pub spelled_block : (b : Block) → Fits b (length names) → Every (λ k. k ≤ 63) (marks_in b)
        → Every Inside (lines_in (block_by (letter_in names) b)) × Every Proper (lines_in (block_by (letter_in names) b))
    spelled_block done f m = (every_none Inside, every_none Proper)
    spelled_block (s ⨾ b) f m =
        let (x, y) = spelled_statement s f.0 (every_left (mark_of s) (marks_in b) m) in
        let (z, w) = spelled_block b f.1 (every_right (mark_of s) (marks_in b) m) in
        let first = lines_for (statement_by (letter_in names) s) in
        (every_append Inside first x z, every_append Proper first y w)
