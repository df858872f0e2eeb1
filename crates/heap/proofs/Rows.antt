-- The table of kinds, row by row: what is so of each row is so of each kind, and what a kind and two operands that name an operation are in the
-- table. A kind more is a row more.
use mathlib.Core.Bool.{Bool, true, false, ◌&&◌, cond}
use mathlib.Core.List.{List, [], ◌∷◌}
use mathlib.Core.Option.{Option, none, some}
use mathlib.Core.Path.{◌≡◌, refl, sym, ap, subst, ◌∙◌}
use Prim.Native.Nat.{ℕ, zero, suc, ◌+◌, ◌≤◌, ◌<◌}
use native.Mathlib.Omega.{arith}
use lib.Dec.{T, eqb}
use lib.ListN.{length, take}
use Rattle.lists.proofs.List.{Each, end, ◌&◌, each_at, element_some, element_none}
use Rattle.lists.proofs.Reflect.{r_le, r_and, is_true, passes}
use Rattle.heap.specs.Operation.{Op, Kind, kinds, kind_of, allows_a, allows_b, from_row, operation, numbers_of}

-- ---- kinds with a row

-- the kinds are the numbers from 1 to this
abbrev pub last_kind : ℕ
last_kind = length kinds

pub is_kind : (kind : ℕ) → 1 ≤ kind → kind ≤ last_kind → (row : Kind) × (kind_of kind ≡ some row)
is_kind zero l h = absurd (omega arith)
is_kind (suc k) l h = element_some kinds k (omega arith)

pub no_kind : (kind : ℕ) → (1 ≤ kind → kind ≤ last_kind → ⊥) → kind_of kind ≡ none
no_kind zero h = refl
no_kind (suc k) h = element_none kinds k (omega (arith, past))
  where
    past : ¬ (k < last_kind)
    past l = h (omega arith) (omega arith)

-- ---- what is so of each row

pub by_row : (P : ℕ → Kind → Type 0) → Each P 1 kinds → (kind : ℕ) (row : Kind) → kind_of kind ≡ some row → P kind row
by_row P rows zero row e = let z : ◌≡◌ {A = ℕ} 0 1 = cc in absurd (omega arith)
by_row P rows (suc k) row e = let k_is : 1 + k ≡ suc k = omega arith in subst (λ (n : ℕ). P n row) k_is (each_at P rows k row e)

-- the same of the first rows alone, for what is said of a kind by its number
pub by_kind : (m : ℕ) (P : ℕ → Type 0) → Each (λ kind row. P kind) 1 (take m kinds) → (kind : ℕ) → 1 ≤ kind → kind ≤ length (take m kinds) → P kind
by_kind m P rows zero l h = absurd (omega arith)
by_kind m P rows (suc k) l h =
    let (row, e) = element_some (take m kinds) k (omega arith) in
    let k_is : 1 + k ≡ suc k = omega arith in
    subst P k_is (each_at (λ kind row. P kind) rows k row e)

-- a column of the table: a value for each kind and its row
abbrev pub column_from : {A : Type 0} → (ℕ → Kind → A) → ℕ → List Kind → List A
column_from f i [] = []
column_from f i (k ∷ ks) = f i k ∷ column_from f (suc i) ks

-- two columns that agree as lists, by computation, agree at each row
pub column : {A : Type 0} (f g : ℕ → Kind → A) → column_from f 1 kinds ≡ column_from g 1 kinds → (kind : ℕ) (row : Kind) → kind_of kind ≡ some row
    → f kind row ≡ g kind row
column f g same = by_row (λ kind row. f kind row ≡ g kind row) (agree 1 kinds same)
  where
    agree : (i : ℕ) (ks : List Kind) → column_from f i ks ≡ column_from g i ks → Each (λ kind row. f kind row ≡ g kind row) i ks
    agree i [] e = end
    agree i (k ∷ ks) e =
        let here : f i k ≡ g i k = cc in
        let later : column_from f (suc i) ks ≡ column_from g (suc i) ks = cc in
        here & agree (suc i) ks later

-- a test that every row passes, by computation
pub tested : (test : ℕ → Kind → Bool) → column_from test 1 kinds ≡ column_from (λ kind row. true) 1 kinds → (kind : ℕ) (row : Kind) → kind_of kind ≡ some row
    → T (test kind row)
tested test all kind row f = passes (test kind row) (column test (λ kind row. true) all kind row f)

-- b has no other number than 0, or every operand's
pub most_b_is : (n kind : ℕ) (row : Kind) → kind_of kind ≡ some row → row.most_b n ≡ cond (eqb (row.most_b 1) 0) 0 n
most_b_is n = column (λ kind row. row.most_b n) (λ kind row. cond (eqb (row.most_b 1) 0) 0 n) refl

-- ---- what a kind and two operands that name an operation are in the table

-- the operands are in the row's ranges
pub record Keeps (n : ℕ) (row : Kind) (a b : ℕ) : Type 0 where
  pub least_a : row.least_a ≤ a
  pub most_a : a ≤ n
  pub least_b : row.least_b ≤ b
  pub most_b : b ≤ row.most_b n

pub record InTable (n kind a b : ℕ) (o : Op) : Type 0 where
  pub row : Kind
  pub found : kind_of kind ≡ some row
  pub first : T (allows_a n row a)
  pub second : T (allows_b n row b)
  pub kept : Keeps n row a b
  pub named : row.op a b ≡ o

pub in_table : (n kind a b : ℕ) (o : Op) → operation n kind a b ≡ some o → InTable n kind a b o
in_table n kind a b o = by_found (kind_of kind) refl
  where
    both : (row : Kind) → T (allows_a n row a) → T (allows_b n row b) → Keeps n row a b
    both row p q =
        let (a-least, a_most) = (r_and (r_le row.least_a a) (r_le a n)).holds p in
        let (b-least, b_most) = (r_and (r_le row.least_b b) (r_le b (row.most_b n))).holds q in
        record { least_a = a-least; most_a = a_most; least_b = b-least; most_b = b_most }

    by_tests : (row : Kind) → kind_of kind ≡ some row → (p q : Bool) → allows_a n row a ≡ p → allows_b n row b ≡ q
        → cond (p && q) (some (row.op a b)) none ≡ some o → InTable n kind a b o
    by_tests row f true true p q e =
        let first = passes (allows_a n row a) p in
        let second = passes (allows_b n row b) q in
        record { row = row; found = f; first = first; second = second; kept = both row first second; named = cc }
    by_tests row f true false p q e = let z : ◌≡◌ {A = ℕ} 0 1 = cc in absurd (omega arith)
    by_tests row f false q p r e = let z : ◌≡◌ {A = ℕ} 0 1 = cc in absurd (omega arith)

    by_found : (r : Option Kind) → kind_of kind ≡ r → from_row n r a b ≡ some o → InTable n kind a b o
    by_found none f e = let z : ◌≡◌ {A = ℕ} 0 1 = cc in absurd (omega arith)
    by_found (some row) f e = by_tests row f (allows_a n row a) (allows_b n row b) refl refl e

pub table_named : (n kind a b : ℕ) (row : Kind) → kind_of kind ≡ some row → T (allows_a n row a) → T (allows_b n row b)
    → operation n kind a b ≡ some (row.op a b)
table_named n kind a b row f p q = ap (λ r. from_row n r a b) f ∙ simp (is_true (allows_a n row a) p, is_true (allows_b n row b) q)

-- the numbers of an operation are those that name it
pub op_numbers : (n kind a b : ℕ) (o : Op) → operation n kind a b ≡ some o → numbers_of o ≡ (kind, a, b)
op_numbers n kind a b o e =
    let t = in_table n kind a b o e in
    ap numbers_of (sym t.named)
    ∙ column (λ kind row. numbers_of (row.op a b)) (λ kind row. (kind, a, cond (eqb (row.most_b 1) 0) 0 b)) refl kind t.row t.found
    ∙ ap (λ (x : ℕ). (kind, a, x)) (second_is t.row t.kept (eqb (t.row.most_b 1) 0) (most_b_is n kind t.row t.found))
  where
    -- the second number is b, or 0 where the table has no other
    second_is : (row : Kind) → Keeps n row a b → (none? : Bool) → row.most_b n ≡ cond none? 0 n → cond none? 0 b ≡ b
    second_is row k true m = let h = k.most_b in omega arith
    second_is row k false m = refl
