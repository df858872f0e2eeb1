-- What the table of kinds says of an operation's operands.
use mathlib.Core.Logic.{◌≢◌}
use mathlib.Core.Option.{some}
use mathlib.Core.Path.{◌≡◌, subst}
use Prim.Native.Nat.{ℕ, ◌≤◌}
use native.Mathlib.Omega.{arith}
use Rattle.lists.proofs.List.{end, ◌&◌}
use Rattle.heap.specs.Operation.{Op, equal, different, assign, load, store, new, delete, Kind, operation, Allowed}
use Rattle.heap.proofs.Rows.{by_row, Keeps, in_table}

pub named_allowed : (n kind a b : ℕ) (o : Op) → operation n kind a b ≡ some o → Allowed n o
named_allowed n kind a b o e =
    let t = in_table n kind a b o e in
    subst (Allowed n) t.named
    (by_row (λ kind row. Keeps n row a b → Allowed n (row.op a b))
    ((λ k. (k.most_a, k.most_b))
    & (λ k. (k.most_a, k.most_b))
    & (λ k. (some_a k (omega arith), k.most_a, k.most_b))
    & (λ k. both k (omega arith) (omega arith) k.most_b)
    & (λ k. (some_a k (omega arith), k.most_a, k.most_b))
    & (λ k. (some_a k (omega arith), k.most_a))
    & (λ k. (some_a k (omega arith), k.most_a))
    & (λ k. both k (omega arith) (omega arith) k.most_b)
    & (λ k. both k (omega arith) (omega arith) k.most_b)
    & (λ k. both k (omega arith) (omega arith) k.most_b)
    & (λ k. both k (omega arith) (omega arith) k.most_b)
    & (λ k. both k (omega arith) (omega arith) k.most_b)
    & (λ k. (some_a k (omega arith), k.most_a))
    & end)
    kind t.row t.found t.kept)
  where
    some_a : {row : Kind} → Keeps n row a b → 1 ≤ row.least_a → a ≢ 0
    some_a k h = let l = k.least_a in omega arith

    both : {row : Kind} → Keeps n row a b → 1 ≤ row.least_a → 1 ≤ row.least_b → b ≤ n → (a ≢ 0) × (b ≢ 0) × (a ≤ n) × (b ≤ n)
    both k h i m = (some_a k h, let l = k.least_b in omega arith, k.most_a, m)
