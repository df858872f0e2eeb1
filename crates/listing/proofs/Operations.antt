-- Operations by kind and operands, as a line has them, and operations as statements have them: one is the other.
use mathlib.Core.Bool.{Bool, true, false, ◌&&◌, cond}
use mathlib.Core.Option.{none, some}
use mathlib.Core.Path.{◌≡◌, refl, sym, ap, subst}
use Prim.Native.Nat.{ℕ, zero, suc, ◌≤◌}
use native.Mathlib.Omega.{arith}
use lib.Dec.{eqb, leb, T}
use lib.ListN.{get_or}
use Rattle.lists.proofs.Reflect.{Reflect, r_eq, r_le, r_and, r_itself, passes, is_true, is_false}
use Rattle.heap.specs.Operation.{Op, equal, different, assign, load, store, new, delete, equal_value, below_value, copy, larger, smaller, read, Kind, kinds, allows_a, allows_b, from_row, operation, Allowed}
use Rattle.kinds.specs.Kinds.{is_some, allowed}
use Rattle.lines.specs.Line.{is_operation, is_test}
use Rattle.lines.specs.declared.Operation.{Operation}
use Rattle.lines.proofs.TextReads.{operation_operands}
use Rattle.listing.specs.Limits.{Listable}
use Rattle.listing.specs.Listing.{Test, same, other, any}
use Rattle.listing.specs.Names.{op_by}
use Rattle.listing.specs.Reading.{op_of, test_of}
use Rattle.listing.specs.Text.{operation_for, operation_for_test}
use Rattle.listing.specs.Translation.{test}

-- statements to lines and back
pub op_of_for : (o : Op) → op_of (operation_for o) ≡ o
op_of_for (equal a b) = refl
op_of_for (different a b) = refl
op_of_for (assign a b) = refl
op_of_for (load a b) = refl
op_of_for (store a b) = refl
op_of_for (new a) = refl
op_of_for (delete a) = refl
op_of_for (equal_value a b) = refl
op_of_for (below_value a b) = refl
op_of_for (copy a b) = refl
op_of_for (larger a b) = refl
op_of_for (smaller a b) = refl
op_of_for (read a) = refl

pub test_of_for : (t : Test) → test_of (operation_for_test t) ≡ t
test_of_for (same a b) = refl
test_of_for (other a b) = refl
test_of_for any = refl

-- the row of kind i + 1
abbrev row : ℕ → Kind
row i = get_or kinds i (record { least_a = 0; least_b = 0; most_b = λ n. n; op = equal })

-- what a row of the table allows, of 26 letters
abbrev Row : Kind → ℕ → ℕ → Type 0
Row k a b = ((k.least_a ≤ a) × (a ≤ 26)) × ((k.least_b ≤ b) × (b ≤ k.most_b 26))

r_row : (k : Kind) (a b : ℕ) → Reflect (Row k a b) (is_some (from_row 26 (some k) a b))
r_row k a b =
    subst (Reflect (Row k a b)) (sym (is_some_lem (allows_a 26 k a && allows_b 26 k b)))
    (r_and (r_and (r_le k.least_a a) (r_le a 26)) (r_and (r_le k.least_b b) (r_le b (k.most_b 26))))
  where
    is_some_lem : (c : Bool) → is_some (cond c (some (k.op a b)) none) ≡ c
    is_some_lem true = refl
    is_some_lem false = refl

in_table : (k : Kind) (v a b : ℕ) → (k.least_a ≤ a) × (a ≤ v) → (k.least_b ≤ b) × (b ≤ k.most_b v) → from_row v (some k) a b ≡ some (k.op a b)
in_table k v a b x y =
    ap (λ c. cond c (some (k.op a b)) none)
    (is_true (allows_a v k a && allows_b v k b)
    ((r_and (r_and (r_le k.least_a a) (r_le a v)) (r_and (r_le k.least_b b) (r_le b (k.most_b v)))).tests (x, y)))

-- lines to statements and back
pub record GoodOp (o : Operation) : Type 0 where
  pub back : operation_for (op_of o) ≡ o
  pub letters : Allowed 26 (op_of o)
  pub early : o.kind ≤ 7

pub good_op : (o : Operation) → T (is_operation o) → GoodOp o
unfolding allowed
good_op o t =
    let (early, row) = (r_and (r_le o.kind 7) (r_itself (allowed 26 o.kind o.a o.b))).holds t in
    by_kind o.kind o.a o.b early (passes _ row)
  where
    by_kind : (k a b : ℕ) → k ≤ 7 → T (allowed 26 k a b) → GoodOp (record { kind = k; a = a; b = b })
    by_kind zero a b h t = absurd t
    by_kind (suc zero) a b h t = let r = (r_row (row 0) a b).holds t in record { back = refl; letters = (r.0.1, r.1.1); early = h }
    by_kind (suc (suc zero)) a b h t = let r = (r_row (row 1) a b).holds t in record { back = refl; letters = (r.0.1, r.1.1); early = h }
    by_kind (suc (suc (suc zero))) a b h t =
        let r = (r_row (row 2) a b).holds t in
        let l = r.0.0 in
        record { back = refl; letters = (omega arith, r.0.1, r.1.1); early = h }
    by_kind (suc (suc (suc (suc zero)))) a b h t =
        let r = (r_row (row 3) a b).holds t in
        let l = r.0.0 in
        let m = r.1.0 in
        record { back = refl; letters = (omega arith, omega arith, r.0.1, r.1.1); early = h }
    by_kind (suc (suc (suc (suc (suc zero))))) a b h t =
        let r = (r_row (row 4) a b).holds t in
        let l = r.0.0 in
        record { back = refl; letters = (omega arith, r.0.1, r.1.1); early = h }
    by_kind (suc (suc (suc (suc (suc (suc zero)))))) a b h t =
        let r = (r_row (row 5) a b).holds t in
        let l = r.0.0 in
        let m : b ≡ 0 = let z = r.1.1 in omega arith in
        record { back = ap (λ (y : ℕ). record { kind = 6; a = a; b = y }) (sym m); letters = (omega arith, r.0.1); early = h }
    by_kind (suc (suc (suc (suc (suc (suc (suc zero))))))) a b h t =
        let r = (r_row (row 6) a b).holds t in
        let l = r.0.0 in
        let m : b ≡ 0 = let z = r.1.1 in omega arith in
        record { back = ap (λ (y : ℕ). record { kind = 7; a = a; b = y }) (sym m); letters = (omega arith, r.0.1); early = h }
    by_kind (suc (suc (suc (suc (suc (suc (suc (suc k)))))))) a b h t = absurd (omega arith)

pub record GoodTest (t : Operation) : Type 0 where
  pub back : operation_for_test (test_of t) ≡ t
  pub letters : Allowed 26 (test (test_of t))

pub good_test : (o : Operation) → T (is_test o) → GoodTest o
unfolding allowed
good_test o t = by_kind o.kind o.a o.b t
  where
    zeros : (a b : ℕ) → T (eqb a 0 && eqb b 0) → GoodTest (record { kind = 0; a = a; b = b })
    zeros a b t =
        let (x, y) = (r_and (r_eq a 0) (r_eq b 0)).holds t in
        record { back = λ i. record { kind = 0; a = sym x i; b = sym y i }; letters = (omega arith, omega arith) }

    by_kind : (k a b : ℕ) → T (is_test (record { kind = k; a = a; b = b })) → GoodTest (record { kind = k; a = a; b = b })
    by_kind zero a b t = zeros a b t
    by_kind (suc zero) a b t = let r = (r_row (row 0) a b).holds t in record { back = refl; letters = (r.0.1, r.1.1) }
    by_kind (suc (suc zero)) a b t = let r = (r_row (row 1) a b).holds t in record { back = refl; letters = (r.0.1, r.1.1) }
    by_kind (suc (suc (suc k))) a b t =
        let m = suc (suc (suc k)) in
        let not_zero : eqb m 0 ≡ false = is_false (eqb m 0) (λ z. let w = (r_eq m 0).holds z in omega arith) in
        let above : leb m 2 ≡ false = is_false (leb m 2) (λ z. let w = (r_le m 2).holds z in omega arith) in
        let fine = is_operation (record { kind = m; a = a; b = b }) in
        absurd (subst (λ c. T (c && fine)) above (subst (λ c. T (cond c (eqb a 0 && eqb b 0) (leb m 2 && fine))) not_zero t))

-- what the table allows is a line
pub is_operation_lem : (o : Op) → Listable 26 o → T (is_operation (operation_for o))
unfolding allowed
is_operation_lem (equal a b) ((f, g), _) = (r_row (row 0) a b).tests ((omega arith, f), (omega arith, g))
is_operation_lem (different a b) ((f, g), _) = (r_row (row 1) a b).tests ((omega arith, f), (omega arith, g))
is_operation_lem (assign a b) ((e, f, g), _) = (r_row (row 2) a b).tests ((omega arith, f), (omega arith, g))
is_operation_lem (load a b) ((e, d, f, g), _) = (r_row (row 3) a b).tests ((omega arith, f), (omega arith, g))
is_operation_lem (store a b) ((e, f, g), _) = (r_row (row 4) a b).tests ((omega arith, f), (omega arith, g))
is_operation_lem (new a) ((e, f), _) = (r_row (row 5) a 0).tests ((omega arith, f), (omega arith, omega arith))
is_operation_lem (delete a) ((e, f), _) = (r_row (row 6) a 0).tests ((omega arith, f), (omega arith, omega arith))
is_operation_lem (equal_value a b) (_, h) = absurd (omega arith)
is_operation_lem (below_value a b) (_, h) = absurd (omega arith)
is_operation_lem (copy a b) (_, h) = absurd (omega arith)
is_operation_lem (larger a b) (_, h) = absurd (omega arith)
is_operation_lem (smaller a b) (_, h) = absurd (omega arith)
is_operation_lem (read a) (_, h) = absurd (omega arith)

pub is_test_lem : (t : Test) → Allowed 26 (test t) → T (is_test (operation_for_test t))
unfolding allowed
is_test_lem (same a b) (f, g) = (r_row (row 0) a b).tests ((omega arith, f), (omega arith, g))
is_test_lem (other a b) (f, g) = (r_row (row 1) a b).tests ((omega arith, f), (omega arith, g))
is_test_lem any l = tt

-- an operation of a listing is one that the table of kinds 1 to 7 names
pub named : (v : ℕ) (o : Op) → Listable v o → (kind : ℕ) × (a : ℕ) × (b : ℕ) × ((kind ≤ 7) × (operation v kind a b ≡ some o))
named v (equal a b) ((f, g), _) = (1, a, b, (omega arith, in_table (row 0) v a b (omega arith, f) (omega arith, g)))
named v (different a b) ((f, g), _) = (2, a, b, (omega arith, in_table (row 1) v a b (omega arith, f) (omega arith, g)))
named v (assign a b) ((e, f, g), _) = (3, a, b, (omega arith, in_table (row 2) v a b (omega arith, f) (omega arith, g)))
named v (load a b) ((e, d, f, g), _) = (4, a, b, (omega arith, in_table (row 3) v a b (omega arith, f) (omega arith, g)))
named v (store a b) ((e, f, g), _) = (5, a, b, (omega arith, in_table (row 4) v a b (omega arith, f) (omega arith, g)))
named v (new a) ((e, f), _) = (6, a, 0, (omega arith, in_table (row 5) v a 0 (omega arith, f) (omega arith, omega arith)))
named v (delete a) ((e, f), _) = (7, a, 0, (omega arith, in_table (row 6) v a 0 (omega arith, f) (omega arith, omega arith)))
named v (equal_value a b) (_, h) = absurd (omega arith)
named v (below_value a b) (_, h) = absurd (omega arith)
named v (copy a b) (_, h) = absurd (omega arith)
named v (larger a b) (_, h) = absurd (omega arith)
named v (smaller a b) (_, h) = absurd (omega arith)
named v (read a) (_, h) = absurd (omega arith)

-- other operands change no kind
pub kind_by : (f : ℕ → ℕ) (o : Op) → (operation_for (op_by f o)).kind ≡ (operation_for o).kind
kind_by f (equal a b) = refl
kind_by f (different a b) = refl
kind_by f (assign a b) = refl
kind_by f (load a b) = refl
kind_by f (store a b) = refl
kind_by f (new a) = refl
kind_by f (delete a) = refl
kind_by f (equal_value a b) = refl
kind_by f (below_value a b) = refl
kind_by f (copy a b) = refl
kind_by f (larger a b) = refl
kind_by f (smaller a b) = refl
kind_by f (read a) = refl

-- the operands of a line are null or letters
pub small_op : (o : Operation) → T (is_operation o) → (o.a ≤ 26) × (o.b ≤ 26)
small_op o t = let r = operation_operands o (is_true (is_operation o) t) in (r.a_most, r.b_letter)

pub small_test : (o : Operation) → T (is_test o) → (o.a ≤ 26) × (o.b ≤ 26)
small_test o t = go (eqb o.kind 0) (leb o.kind 2) t
  where
    go : (c d : Bool) → T (cond c (eqb o.a 0 && eqb o.b 0) (d && is_operation o)) → (o.a ≤ 26) × (o.b ≤ 26)
    go true d w = let (x, y) = (r_and (r_eq o.a 0) (r_eq o.b 0)).holds w in (omega arith, omega arith)
    go false true w = small_op o w
    go false false w = absurd w
