-- Names: letters keep their numbers as more are met, and a listing's operands are numbers of its names.
use mathlib.Core.Bool.{Bool, true, false, cond}
use mathlib.Core.List.Memᴰ
use mathlib.Core.List.{List, [], ◌∷◌, ◌++◌, map, append_assoc, append-nil, map-append}
use mathlib.Core.Logic.{◌≢◌}
use mathlib.Core.Path.{◌≡◌, refl, sym, ap, ap₂, subst, ◌∙◌}
use Prim.Native.Nat.{ℕ, zero, suc, ◌≤◌, ◌<◌}
use native.Mathlib.Omega.{arith}
use lib.Dec.{eqb, T}
use lib.ListN.{length}
use Rattle.lists.specs.List.{◌∈◌, Every, absent}
use Rattle.lists.proofs.List.{mem?, every_none, every_cons, every_head, every_tail, every_left, every_right}
use Rattle.lists.proofs.Reflect.{r_eq, r_absent, is_true}
use Rattle.heap.specs.Operation.{Op, equal, different, assign, load, store, new, delete, equal_value, below_value, copy, larger, smaller, read, Allowed}
use Rattle.lines.specs.declared.Line.{Line}
use Rattle.lines.specs.declared.Line.TheVariants.{Perform, While, If, End, Mark, Other}
use Rattle.lines.specs.declared.Operation.{Operation}
use Rattle.listing.specs.Limits.{Fits, FitsOne}
use Rattle.listing.specs.LineByLine.{numbered}
use Rattle.listing.specs.Listing.{Test, same, other, any, Statement, perform, mark, while, if, Block, done, ◌⨾◌}
use Rattle.listing.specs.Names.{meet, meet_line, index_of, number_in, variables_for, op_by, test_by, statement_by, block_by}
use Rattle.listing.specs.Reading.{meet_lines}
use Rattle.listing.specs.Text.{operation_for, operation_for_test, lines_for, lines_in}
use Rattle.listing.specs.Translation.{test}
use Rattle.listing.proofs.Lines.{Proper}
use Rattle.listing.proofs.OnePass.{numbered_line, numbered_all}
use Rattle.listing.proofs.Operations.{op_of_for, good_op, kind_by}

-- null, or a letter that is met
abbrev pub Met : List ℕ → ℕ → Type 0
Met names zero = Unit {0}
Met names (suc c) = suc c ∈ names

abbrev pub Extends : List ℕ → List ℕ → Type 0
Extends names more = (l : List ℕ) × (more ≡ names ++ l)

extends_none : (names : List ℕ) → Extends names names
extends_none names = ([], sym (append-nil names))

extends_twice : (a b c : List ℕ) → Extends a b → Extends b c → Extends a c
extends_twice a b c (x, e) (y, f) = (x ++ y, f ∙ ap (λ l. l ++ y) e ∙ append_assoc a x y)

met_more : (names more : List ℕ) (x : ℕ) → Extends names more → Met names x → Met more x
met_more names more zero e m = tt
met_more names more (suc c) (l, e) m = subst (λ k. suc c ∈ k) (sym e) (Memᴰ.append_left l m)

meet_extends : (names : List ℕ) (x : ℕ) → Extends names (meet names x)
meet_extends names zero = extends_none names
meet_extends names (suc c) = go (absent (suc c) names)
  where
    go : (b : Bool) → Extends names (cond b (names ++ (suc c ∷ [])) names)
    go true = (suc c ∷ [], refl)
    go false = extends_none names

meet_met : (names : List ℕ) (x : ℕ) → Met (meet names x) x
meet_met names zero = tt
meet_met names (suc c) = go (absent (suc c) names) (r_absent (suc c) names).tests
  where
    go : (b : Bool) → (¬ (suc c ∈ names) → T b) → suc c ∈ cond b (names ++ (suc c ∷ [])) names
    go true t = Memᴰ.append_right names (Memᴰ.head refl)
    go false t = by (mem? (suc c) names)
      where
        by : Dec (suc c ∈ names) → suc c ∈ names
        by (yes m) = m
        by (no n) = absurd (t n)

-- the operands of a line
abbrev pub MetIn : List ℕ → Operation → Type 0
MetIn names o = Met names o.a × Met names o.b

abbrev pub MetLine : List ℕ → Line → Type 0
MetLine names (Perform o) = MetIn names o
MetLine names (While t) = MetIn names t
MetLine names (If t) = MetIn names t
MetLine names End = Unit {0}
MetLine names (Mark k) = Unit {0}
MetLine names Other = Unit {0}

both_extend : (names : List ℕ) (a b : ℕ) → Extends names (meet (meet names a) b)
both_extend names a b = extends_twice names (meet names a) (meet (meet names a) b) (meet_extends names a) (meet_extends (meet names a) b)

both_met : (names : List ℕ) (o : Operation) → MetIn (meet (meet names o.a) o.b) o
both_met names o =
    let more = meet names o.a in
    (met_more more (meet more o.b) o.a (meet_extends more o.b) (meet_met names o.a), meet_met more o.b)

line_extends : (names : List ℕ) (l : Line) → Extends names (meet_line names l)
line_extends names (Perform o) = both_extend names o.a o.b
line_extends names (While t) = both_extend names t.a t.b
line_extends names (If t) = both_extend names t.a t.b
line_extends names End = extends_none names
line_extends names (Mark k) = extends_none names
line_extends names Other = extends_none names

line_met : (names : List ℕ) (l : Line) → MetLine (meet_line names l) l
line_met names (Perform o) = both_met names o
line_met names (While t) = both_met names t
line_met names (If t) = both_met names t
line_met names End = tt
line_met names (Mark k) = tt
line_met names Other = tt

met_line_more : (names more : List ℕ) (l : Line) → Extends names more → MetLine names l → MetLine more l
met_line_more names more (Perform o) e (x, y) = (met_more names more o.a e x, met_more names more o.b e y)
met_line_more names more (While t) e (x, y) = (met_more names more t.a e x, met_more names more t.b e y)
met_line_more names more (If t) e (x, y) = (met_more names more t.a e x, met_more names more t.b e y)
met_line_more names more End e m = tt
met_line_more names more (Mark k) e m = tt
met_line_more names more Other e m = tt

pub lines_extend : (names : List ℕ) (ls : List Line) → Extends names (meet_lines names ls)
lines_extend names [] = extends_none names
lines_extend names (l ∷ ls) =
    extends_twice names (meet_line names l) (meet_lines (meet_line names l) ls) (line_extends names l) (lines_extend (meet_line names l) ls)

pub lines_met : (names : List ℕ) (ls : List Line) → Every (MetLine (meet_lines names ls)) ls
lines_met names [] = every_none (MetLine names)
lines_met names (l ∷ ls) =
    let more = meet_line names l in
    every_cons (MetLine (meet_lines more ls)) (met_line_more more (meet_lines more ls) l (lines_extend more ls) (line_met names l)) (lines_met more ls)

-- ---- numbers

index_more : (x : ℕ) (names l : List ℕ) → x ∈ names → index_of x (names ++ l) ≡ index_of x names
index_more x [] l m = absurd (Memᴰ.not-nil m)
index_more x (y ∷ names) l (Memᴰ.head e) =
    let t : eqb y x ≡ true = is_true (eqb y x) ((r_eq y x).tests (sym e)) in
    ap (λ b. cond b 0 (suc (index_of x (names ++ l)))) t ∙ sym (ap (λ b. cond b 0 (suc (index_of x names))) t)
index_more x (y ∷ names) l (Memᴰ.tail m) = ap (λ n. cond (eqb y x) 0 (suc n)) (index_more x names l m)

number_more : (names more : List ℕ) (x : ℕ) → Extends names more → Met names x → number_in more x ≡ number_in names x
number_more names more zero e m = refl
number_more names more (suc c) (l, e) m = ap (λ k. suc (index_of (suc c) k)) e ∙ ap suc (index_more (suc c) names l m)

numbered_more : (names more : List ℕ) (o : Operation) → Extends names more → MetIn names o → numbered names o ≡ numbered more o
numbered_more names more o e (x, y) =
    λ i. record { kind = o.kind; a = sym (number_more names more o.a e x) i; b = sym (number_more names more o.b e y) i }

line_numbered_more : (names more : List ℕ) (l : Line) → Extends names more → MetLine names l → numbered_line names l ≡ numbered_line more l
line_numbered_more names more (Perform o) e m = ap Perform (numbered_more names more o e m)
line_numbered_more names more (While t) e m = ap While (numbered_more names more t e m)
line_numbered_more names more (If t) e m = ap If (numbered_more names more t e m)
line_numbered_more names more End e m = refl
line_numbered_more names more (Mark k) e m = refl
line_numbered_more names more Other e m = refl

-- numbering as the names are met is numbering by all of them
pub numbered_all_lem : (names : List ℕ) (ls : List Line) → numbered_all names ls ≡ map (numbered_line (meet_lines names ls)) ls
numbered_all_lem names [] = refl
numbered_all_lem names (l ∷ ls) =
    let more = meet_line names l in
    ap₂ (λ x y. x ∷ y) (line_numbered_more more (meet_lines more ls) l (lines_extend more ls) (line_met names l)) (numbered_all_lem more ls)

-- numbering the lines of a block is numbering the block
module _ (names : List ℕ) where
  number_op : (o : Op) → numbered names (operation_for o) ≡ operation_for (op_by (number_in names) o)
  number_op (equal a b) = refl
  number_op (different a b) = refl
  number_op (assign a b) = refl
  number_op (load a b) = refl
  number_op (store a b) = refl
  number_op (new a) = refl
  number_op (delete a) = refl
  number_op (equal_value a b) = refl
  number_op (below_value a b) = refl
  number_op (copy a b) = refl
  number_op (larger a b) = refl
  number_op (smaller a b) = refl
  number_op (read a) = refl

  number_test : (t : Test) → numbered names (operation_for_test t) ≡ operation_for_test (test_by (number_in names) t)
  number_test (same a b) = refl
  number_test (other a b) = refl
  number_test any = refl

  mutual
    number_statement : (s : Statement) → map (numbered_line names) (lines_for s) ≡ lines_for (statement_by (number_in names) s)
    number_statement (perform o) = ap (λ x. Perform x ∷ []) (number_op o)
    number_statement (mark k) = refl
    number_statement (while t b) =
        ap₂ (λ x y. While x ∷ y) (number_test t) (map-append (numbered_line names) (lines_in b) (End ∷ []) ∙ ap (λ x. x ++ (End ∷ [])) (number_block b))
    number_statement (if t b) =
        ap₂ (λ x y. If x ∷ y) (number_test t) (map-append (numbered_line names) (lines_in b) (End ∷ []) ∙ ap (λ x. x ++ (End ∷ [])) (number_block b))

    pub number_block : (b : Block) → map (numbered_line names) (lines_in b) ≡ lines_in (block_by (number_in names) b)
    number_block done = refl
    number_block (s ⨾ b) = map-append (numbered_line names) (lines_for s) (lines_in b) ∙ ap₂ (λ x y. x ++ y) (number_statement s) (number_block b)

-- ---- the numbers are those of variables

index_below : (x : ℕ) (names : List ℕ) → x ∈ names → index_of x names < length names
index_below x [] m = absurd (Memᴰ.not-nil m)
index_below x (y ∷ names) (Memᴰ.head e) =
    let t : eqb y x ≡ true = is_true (eqb y x) ((r_eq y x).tests (sym e)) in
    subst (λ (n : ℕ). n < suc (length names)) (sym (ap (λ b. cond b 0 (suc (index_of x names))) t)) (omega arith)
index_below x (y ∷ names) (Memᴰ.tail m) = go (eqb y x) (index_below x names m)
  where
    go : (b : Bool) → index_of x names < length names → cond b 0 (suc (index_of x names)) < suc (length names)
    go true w = omega arith
    go false w = omega arith

module _ (names : List ℕ) where
  below : (x : ℕ) → Met names x → number_in names x ≤ length names
  below zero m = omega arith
  below (suc c) m = let w = index_below (suc c) names m in omega arith

  not_null : (x : ℕ) → x ≢ 0 → number_in names x ≢ 0
  not_null zero n = n
  not_null (suc c) n = λ e. omega arith

  op_fits : (o : Op) → Allowed 26 o → MetIn names (operation_for o) → Allowed (length names) (op_by (number_in names) o)
  op_fits (equal a b) l (x, y) = (below a x, below b y)
  op_fits (different a b) l (x, y) = (below a x, below b y)
  op_fits (assign a b) l (x, y) = (not_null a l.0, below a x, below b y)
  op_fits (load a b) l (x, y) = (not_null a l.0, not_null b l.1, below a x, below b y)
  op_fits (store a b) l (x, y) = (not_null a l.0, below a x, below b y)
  op_fits (new a) l (x, y) = (not_null a l.0, below a x)
  op_fits (delete a) l (x, y) = (not_null a l.0, below a x)
  op_fits (equal_value a b) l (x, y) = (not_null a l.0, not_null b l.1, below a x, below b y)
  op_fits (below_value a b) l (x, y) = (not_null a l.0, not_null b l.1, below a x, below b y)
  op_fits (copy a b) l (x, y) = (not_null a l.0, not_null b l.1, below a x, below b y)
  op_fits (larger a b) l (x, y) = (not_null a l.0, not_null b l.1, below a x, below b y)
  op_fits (smaller a b) l (x, y) = (not_null a l.0, not_null b l.1, below a x, below b y)
  op_fits (read a) l (x, y) = (not_null a l.0, below a x)

  test_fits : (t : Test) → MetIn names (operation_for_test t) → Allowed (length names) (test (test_by (number_in names) t))
  test_fits (same a b) (x, y) = (below a x, below b y)
  test_fits (other a b) (x, y) = (below a x, below b y)
  test_fits any m = (omega arith, omega arith)

  mutual
    statement_fits : (s : Statement) → Every Proper (lines_for s) → Every (MetLine names) (lines_for s)
        → FitsOne (statement_by (number_in names) s) (length names)
    statement_fits (perform o) p m =
        let good = good_op (operation_for o) (every_head p) in
        (op_fits o (subst (Allowed 26) (op_of_for o) good.letters) (every_head m), omega (arith, good.early, kind_by (number_in names) o))
    statement_fits (mark k) p m = tt
    statement_fits (while t b) p m =
        (test_fits t (every_head m), block_fits b (every_left (lines_in b) (End ∷ []) (every_tail p)) (every_left (lines_in b) (End ∷ []) (every_tail m)))
    statement_fits (if t b) p m =
        (test_fits t (every_head m), block_fits b (every_left (lines_in b) (End ∷ []) (every_tail p)) (every_left (lines_in b) (End ∷ []) (every_tail m)))

    pub block_fits : (b : Block) → Every Proper (lines_in b) → Every (MetLine names) (lines_in b) → Fits (block_by (number_in names) b) (length names)
    block_fits done p m = tt
    block_fits (s ⨾ b) p m = (
      statement_fits s (every_left (lines_for s) (lines_in b) p) (every_left (lines_for s) (lines_in b) m),
      block_fits b (every_right (lines_for s) (lines_in b) p) (every_right (lines_for s) (lines_in b) m),
    )

pub variables_enough : (names : List ℕ) → length names ≤ variables_for names
variables_enough [] = omega arith
variables_enough (x ∷ names) = omega arith

pub variables_range : (names : List ℕ) → length names ≤ 8 → (1 ≤ variables_for names) × (variables_for names ≤ 8)
variables_range [] h = (omega arith, omega arith)
variables_range (x ∷ names) h = (omega arith, omega arith)
