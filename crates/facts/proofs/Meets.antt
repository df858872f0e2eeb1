-- What a heap meets has the laws, so a heap that meets given facts meets all that follows from them.
use mathlib.Core.List.{List}
use mathlib.Core.Option.{Option, some}
use mathlib.Core.Path.{◌≡◌, refl, sym, ◌∙◌}
use Prim.Native.Nat.{ℕ}
use native.Mathlib.Omega.{arith}
use Rattle.lists.specs.List.{Every}
use Rattle.heap.specs.Value.{below, Compare, Meets}
use Rattle.graph.specs.Graph.{Facts}
use Rattle.facts.specs.Facts.{Fact, Follows}
use Rattle.facts.specs.Laws.{Laws}
use Rattle.facts.proofs.Closing.{lawful}

-- a cell has one value
one_value : (o : Option ℕ) (m n : ℕ) → o ≡ some m → o ≡ some n → m ≡ n
one_value o m n i j = cc

pub meets_laws : (value : ℕ → Option ℕ) (f : ℕ → ℕ) → Laws (λ k p q. Meets value k (f p) (f q))
meets_laws value f =
    record {
      self_left = λ k p q (m, i, _). (m, i, (m, i, refl));
      self_right = λ k p q (m, i, (n, j, _)). (n, j, (n, j, refl));
      flip = λ p q (m, i, (n, j, c)). (n, j, (m, i, sym c));
      same = λ k p q r (m, i, (n, j, c)) (n', j', (o, u, d)). (m, i, (o, u, at k m n' o (c ∙ one_value (value (f q)) n n' j j') d));
      less = λ p q r (m, i, (n, j, c)) (n', j', (o, k, d)). (m, i, (o, k, let z = one_value (value (f q)) n n' j j' in omega arith));
      less_same = λ p q r (m, i, (n, j, c)) (n', j', (o, k, d)). (m, i, (o, k, let z = one_value (value (f q)) n n' j j' in omega arith));
    }
  where
    at : (k m n o : ℕ) → m ≡ n → Compare k n o → Compare k m o
    at k m n o z c = rw z c

-- for a heap it is enough to look at the facts of the list
pub heap_facts : (l : List Fact) (value : ℕ → Option ℕ) (f : ℕ → ℕ) → Every (λ t. Meets value t.kind (f t.left) (f t.right)) l → Facts (Follows l) (Meets value) f
heap_facts l value f h k p q i = lawful l (λ k p q. Meets value k (f p) (f q)) (meets_laws value f) h i

-- no cell is below itself
pub not_below_self : (value : ℕ → Option ℕ) (p : ℕ) → ¬ Meets value below p p
not_below_self value p (m, i, (n, j, c)) = let z = one_value (value p) m n i j in omega arith

-- values that are there before, or are the same, meet what those after meet
pub meets_kept : (value value' : ℕ → Option ℕ) (k p q : ℕ) → ((m : ℕ) → value' p ≡ some m → value p ≡ some m)
    → ((m : ℕ) → value' q ≡ some m → value q ≡ some m) → Meets value' k p q → Meets value k p q
meets_kept value value' k p q a b (m, i, (n, j, c)) = (m, a m i, (n, b n j, c))
