-- A variable is placed by a choice.
use mathlib.Core.Logic.{◌≢◌}
use mathlib.Core.Path.{◌≡◌, refl, ap, ◌∙◌}
use Prim.Native.Nat.{ℕ, ◌≤◌}
use native.Mathlib.Decide.{ℕ_discrete}
use borrow.Author.Tests.{eq-eqb, ne_eqb}
use lib.ListN.{length}
use Rattle.heap.specs.Place.{nowhere}
use Rattle.shape.specs.Shape.{Shape, var_at, size}
use Rattle.placing.specs.Choice.{chosen, made, put}
use Rattle.placing.proofs.Chosen.{not_null, made_same, made_other}

pub put_nothing : (v : ℕ) (s : Shape) (k : ℕ) → var_at s v ≢ nowhere → put v s k ≡ s
unfolding put
put_nothing v s k n = simp (ne_eqb (var_at s v) nowhere n)

pub put_made : (v : ℕ) (s : Shape) (k : ℕ) → var_at s v ≡ nowhere → put v s k ≡ made v s k
unfolding put
put_made v s k e = simp (eq-eqb (var_at s v) nowhere e)

-- ---- where variables stand after that

pub put_keeps : (v : ℕ) (s : Shape) (k u : ℕ) → var_at s u ≢ nowhere → var_at (put v s k) u ≡ var_at s u
put_keeps v s k u n = go (ℕ_discrete (var_at s v) nowhere)
  where
    go : Dec (var_at s v ≡ nowhere) → var_at (put v s k) u ≡ var_at s u
    go (yes e) = rw (put_made v s k e) (made_other v s k u (λ z. n (ap (var_at s) z ∙ e)))
    go (no e) = rw (put_nothing v s k e) refl

pub put_other : (v : ℕ) (s : Shape) (k u : ℕ) → u ≢ v → var_at (put v s k) u ≡ var_at s u
put_other v s k u n = go (ℕ_discrete (var_at s v) nowhere)
  where
    go : Dec (var_at s v ≡ nowhere) → var_at (put v s k) u ≡ var_at s u
    go (yes e) = rw (put_made v s k e) (made_other v s k u n)
    go (no e) = rw (put_nothing v s k e) refl

pub put_same : (v : ℕ) (s : Shape) (k : ℕ) → var_at s v ≡ nowhere → v ≤ length s.vars → var_at (put v s k) v ≡ chosen (size s) k
put_same v s k e h = rw (put_made v s k e) (made_same v s k (not_null s v e) h)
