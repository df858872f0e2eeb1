-- The table of kinds, column by column: the columns of the code, and what an allowed operation keeps to.
use mathlib.Core.Bool.{Bool, true, false, ◌&&◌, ◌||◌, cond, and-false}
use mathlib.Core.Option.{Option, none, some}
use mathlib.Core.Path.{◌≡◌, refl, sym, ap, subst, ◌∙◌}
use Prim.Native.Nat.{ℕ, suc, ◌≤◌}
use native.Mathlib.Decide.{dec_le}
use native.Mathlib.Omega.{arith}
use borrow.Author.Tests.{le-leb, lt-leb, ne_eqb}
use lib.Dec.{leb, eqb}
use Rattle.lists.proofs.Range.{same_table}
use Rattle.heap.specs.Operation.{Op, Kind, kind_of, operation}
use Rattle.heap.proofs.Rows.{last_kind, is_kind, no_kind, Keeps, in_table}
use Rattle.std.specs.Prelude as std
use Rattle.std.specs.Prelude.{Some, None, MatchOption}
use Rattle.kinds.specs.declared.Kind as number
use Rattle.kinds.specs.Kinds.{number_of, least_a_of, least_b_of, most_b_of, is_some, allowed}

-- ---- the columns, by the kinds that they name

least_a_table : ℕ → ℕ
least_a_table k = cond (leb 3 k && leb k 13) 1 0

least_b_table : ℕ → ℕ
least_b_table k = cond (eqb k 4 || (leb 8 k && leb k 12)) 1 0

most_b_table : ℕ → ℕ → ℕ
most_b_table n k = cond ((leb 1 k && leb k 5) || (leb 8 k && leb k 12)) n 0

pub least_a_is : (k : ℕ) → least_a_of k ≡ cond (leb 3 k && leb k 13) 1 0
unfolding least_a_of least_a_table
least_a_is k = go (dec_le k last_kind)
  where
    go : Dec (k ≤ last_kind) → least_a_of k ≡ least_a_table k
    go (yes h) = same_table least_a_of least_a_table (suc last_kind) refl k (omega arith)
    go (no h) = rw (no_kind k (λ l m. h m), lt-leb k 13 (omega arith), and-false (leb 3 k))

pub least_b_is : (k : ℕ) → least_b_of k ≡ cond (eqb k 4 || (leb 8 k && leb k 12)) 1 0
unfolding least_b_of least_b_table
least_b_is k = go (dec_le k last_kind)
  where
    go : Dec (k ≤ last_kind) → least_b_of k ≡ least_b_table k
    go (yes h) = same_table least_b_of least_b_table (suc last_kind) refl k (omega arith)
    go (no h) = rw (no_kind k (λ l m. h m), ne_eqb k 4 (λ e. omega arith), lt-leb k 12 (omega arith), and-false (leb 8 k))

pub most_b_is : (k n : ℕ) → most_b_of k n ≡ cond ((leb 1 k && leb k 5) || (leb 8 k && leb k 12)) n 0
unfolding most_b_of most_b_table
most_b_is k n = go (dec_le k last_kind)
  where
    go : Dec (k ≤ last_kind) → most_b_of k n ≡ most_b_table n k
    go (yes h) = same_table (λ k. most_b_of k n) (most_b_table n) (suc last_kind) refl k (omega arith)
    go (no h) = rw (no_kind k (λ l m. h m), lt-leb k 5 (omega arith), and-false (leb 1 k), lt-leb k 12 (omega arith), and-false (leb 8 k))

-- no b is above V
pub most_bound : (k n : ℕ) → most_b_of k n ≤ n
most_bound k n = rw (most_b_is k n) (none_or_all ((leb 1 k && leb k 5) || (leb 8 k && leb k 12)))
  where
    none_or_all : (s : Bool) → cond s n 0 ≤ n
    none_or_all true = omega arith
    none_or_all false = omega arith

-- ---- the test of a kind and two operands

-- a kind of the table allows the operands that its columns say
pub allowed_row : (k n a b : ℕ) → 1 ≤ k → k ≤ last_kind → (leb (least_a_of k) a && leb a n) && (leb (least_b_of k) b && leb b (most_b_of k n)) ≡ allowed n k a b
unfolding least_a_of least_b_of most_b_of allowed
allowed_row k n a b l h = let (row, is) = is_kind k l h in rw is (some_if _ _)
  where
    some_if : (b : Bool) (o : Op) → b ≡ is_some (cond b (some o) none)
    some_if true o = refl
    some_if false o = refl

pub allowed_none : (k n a b : ℕ) → (1 ≤ k → k ≤ last_kind → ⊥) → false ≡ allowed n k a b
unfolding allowed
allowed_none k n a b h = rw (no_kind k h) refl

pub known : (n kind a b : ℕ) → allowed n kind a b ≡ true → (1 ≤ kind) × (kind ≤ last_kind)
known n kind a b h = go (dec_le 1 kind) (dec_le kind last_kind)
  where
    none_allowed : (1 ≤ kind → kind ≤ last_kind → ⊥) → ⊥
    none_allowed d = let z : false ≡ true = allowed_none kind n a b d ∙ h in let q : ◌≡◌ {A = ℕ} 0 1 = cc in omega arith

    go : Dec (1 ≤ kind) → Dec (kind ≤ last_kind) → (1 ≤ kind) × (kind ≤ last_kind)
    go (yes l) (yes m) = (l, m)
    go (no l) d = absurd (none_allowed (λ p q. l p))
    go (yes l) (no m) = absurd (none_allowed (λ p q. m q))

pub allowed_is : (n k a b : ℕ) → allowed n k a b ≡ cond (leb 1 k && leb k 13) ((leb (least_a_of k) a && leb a n) && (leb (least_b_of k) b && leb b (most_b_of k n))) false
allowed_is n k a b = go (dec_le 1 k) (dec_le k last_kind)
  where
    row : ℕ → Bool
    row k = (leb (least_a_of k) a && leb a n) && (leb (least_b_of k) b && leb b (most_b_of k n))

    go : Dec (1 ≤ k) → Dec (k ≤ last_kind) → allowed n k a b ≡ cond (leb 1 k && leb k 13) (row k) false
    go (yes l) (yes h) = rw (le-leb 1 k l, le-leb k 13 h) (sym (allowed_row k n a b l h))
    go (yes l) (no h) = rw (lt-leb k 13 (omega arith), and-false (leb 1 k)) (sym (allowed_none k n a b (λ p q. h q)))
    go (no l) d = rw (lt-leb 1 k (omega arith)) (sym (allowed_none k n a b (λ p q. l p)))

-- an allowed operation keeps to the row of its kind, and is the one that the row names
pub row_of : (n kind a b : ℕ) (k : Kind) → kind_of kind ≡ some k → allowed n kind a b ≡ true → Keeps n k a b × (operation n kind a b ≡ some (k.op a b))
unfolding allowed
row_of n kind a b k f h = go (operation n kind a b) refl h
  where
    go : (r : Option Op) → operation n kind a b ≡ r → is_some r ≡ true → Keeps n k a b × (operation n kind a b ≡ some (k.op a b))
    go none e z = let q : ◌≡◌ {A = ℕ} 0 1 = cc in absurd (omega arith)
    go (some o) e z =
        let t = in_table n kind a b o e in
        let both : some t.row ≡ some k = sym t.found ∙ f in
        let row_is : t.row ≡ k = cc in
        (subst (λ (r : Kind). Keeps n r a b) row_is t.kept, e ∙ ap some (sym t.named) ∙ ap (λ (r : Kind). some (r.op a b)) row_is)

-- ---- the kind that a number names

pub named_kind : (n kind a b : ℕ) (r : std.Option number.Kind) → allowed n kind a b ≡ true → MatchOption r (¬ ((1 ≤ kind) × (kind ≤ 13))) (λ k. number_of k ≡ kind)
    → MatchOption r (allowed n kind a b ≡ false) (λ k. (number_of k ≡ kind) × (allowed n kind a b ≡ true))
named_kind n kind a b None e h = absurd (h (known n kind a b e))
named_kind n kind a b (Some k) e h = (h, e)
