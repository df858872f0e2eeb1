-- A shape without cells says where one variable stands.
use mathlib.Core.Logic.{◌≢◌, ◌↔◌}
use mathlib.Core.Path.{◌≡◌, refl, ap, ◌∙◌}
use Prim.Native.Nat.{ℕ, ◌≤◌, ◌<◌}
use native.Mathlib.Omega.{arith}
use Rattle.heap.specs.Heap.{Heap}
use Rattle.heap.specs.Place.{nowhere, cell}
use Rattle.graph.proofs.Proper.{low_fixed}
use Rattle.shape.specs.Shape.{var_at, Satisfies}
use Rattle.run.specs.WellFormed.{WellFormed}
use Rattle.forbidden.specs.Sets.{standing_at}
use Rattle.forbidden.proofs.Only.{only_at, only_vars}
use Rattle.lists.proofs.List.{every_none}
use Rattle.shape.proofs.NoCells.{no_cells}

-- p is # or *: a heap satisfies the shape exactly if v stands there
pub stands : (h : Heap) (n : ℕ) → WellFormed n h → (v p : ℕ) → v ≢ 0 → v ≤ n → nowhere < p → p < cell 0 → Satisfies h (standing_at n v p) ↔ (h.var v ≡ p)
stands h n w v p v≢0 v≤n a b = (
  λ (f, e). e.vars v (omega (arith, at)) ∙ ap f at ∙ low_fixed f e.images p a b,
  λ e. no_cells h (standing_at n v p) refl (only_vars n v p v≢0 v≤n h.var (λ (q : ℕ). q) w.null_fixed refl e) (every_none _),
)
  where
    at : var_at (standing_at n v p) v ≡ p
    at = only_at n v p v≢0 v≤n
