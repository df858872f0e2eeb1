-- Shapes in which one variable alone has a place.
use mathlib.Core.Logic.{◌≢◌}
use mathlib.Core.Path.{◌≡◌, refl, sym, ap, ◌∙◌}
use Prim.Native.Nat.{ℕ, zero, suc, ◌≤◌, ◌<◌}
use native.Mathlib.Decide.{ℕ_discrete}
use native.Mathlib.Omega.{arith}
use lib.ListN.{length, get_or, replicate, length-replicate}
use Rattle.lists.proofs.List.{mem_get_or}
use Rattle.heap.specs.Codes.{var_in}
use Rattle.heap.specs.Place.{nowhere, null}
use Rattle.graph.specs.Graph.{Graph, Vars}
use Rattle.graph.proofs.Proper.{IsPlace}
use Rattle.shape.specs.Shape.{AllBelow}
use Rattle.shape.proofs.Laws.{var_set_same, var_set_other, vars_set_length}
use Rattle.forbidden.specs.Sets.{only}

all_nowhere : (n i : ℕ) → get_or (replicate n nowhere) i nowhere ≡ nowhere
all_nowhere zero i = refl
all_nowhere (suc n) zero = refl
all_nowhere (suc n) (suc i) = all_nowhere n i

pub only_length : (n x p : ℕ) → length (only n x p) ≡ n
only_length n x p = vars_set_length x p (replicate n nowhere) ∙ length-replicate n nowhere

module _ (n x p : ℕ) (x≢0 : x ≢ 0) (x≤n : x ≤ n) where
  pub only_at : var_in (only n x p) x ≡ p
  only_at = var_set_same x p (replicate n nowhere) x≢0 (omega (arith, length-replicate n nowhere))

  -- an operand is the variable, or null, or stands nowhere
  data Which (v : ℕ) : Type 0 where
    the_one : v ≡ x → var_in (only n x p) v ≡ p → Which v
    the_null : v ≡ 0 → var_in (only n x p) v ≡ null → Which v
    another : var_in (only n x p) v ≡ nowhere → Which v

  which : (v : ℕ) → Which v
  which v = go (ℕ_discrete v x)
    where
      others : (v : ℕ) → v ≢ x → Which v
      others zero o = the_null refl (var_set_other x p (replicate n nowhere) 0 o)
      others (suc v) o = another (var_set_other x p (replicate n nowhere) (suc v) o ∙ all_nowhere n v)

      go : Dec (v ≡ x) → Which v
      go (yes e) = the_one e (ap (var_in (only n x p)) e ∙ only_at)
      go (no o) = others v o

  pub only_vars : (var f : ℕ → ℕ) → var 0 ≡ null → f null ≡ null → var x ≡ f p → Vars (var_in (only n x p)) var f
  only_vars var f z fz e v o = go (which v)
    where
      go : Which v → var v ≡ f (var_in (only n x p) v)
      go (the_one i j) = ap var i ∙ e ∙ ap f (sym j)
      go (the_null i j) = ap var i ∙ z ∙ sym fz ∙ ap f (sym j)
      go (another j) = absurd (o j)

  pub only_place : (g : Graph) → IsPlace g p → (v : ℕ) → var_in (only n x p) v ≢ nowhere → IsPlace g (var_in (only n x p) v)
  only_place g s v o = go (which v)
    where
      go : Which v → IsPlace g (var_in (only n x p) v)
      go (the_one i j) = rw j s
      go (the_null i j) = λ a b. absurd (a j)
      go (another j) = absurd (o j)

  pub only_below : (k : ℕ) → p < k → AllBelow k (only n x p)
  only_below k b y m = let (i, _, e) = mem_get_or (only n x p) y m in go i e (which (suc i))
    where
      go : (i : ℕ) → var_in (only n x p) (suc i) ≡ y → Which (suc i) → y < k
      go i e (the_one _ j) = omega arith
      go i e (the_null z _) = absurd (omega arith)
      go i e (another j) = omega arith
