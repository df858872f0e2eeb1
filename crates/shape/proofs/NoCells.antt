-- A shape without cells is satisfied by every heap whose variables stand as the shape has them, and which meets its facts.
use mathlib.Core.List.Memᴰ
use mathlib.Core.List.{[]}
use mathlib.Core.Path.{◌≡◌, refl}
use native.Mathlib.Omega.{arith}
use Rattle.lists.specs.List.{Every}
use Rattle.heap.specs.Heap.{Heap}
use Rattle.heap.specs.Value.{Meets}
use Rattle.graph.specs.Graph.{Vars}
use Rattle.shape.specs.Shape.{Shape, var_at, size, Satisfies}
use Rattle.facts.proofs.Meets.{heap_facts}
use Rattle.shape.proofs.Laws.{shape_proper}

pub no_cells : (h : Heap) (s : Shape) → size s ≡ 0 → Vars (var_at s) h.var (λ p. p) → Every (λ t. Meets h.value t.kind t.left t.right) s.facts
    → Satisfies h s
no_cells h s none vars facts = (
  λ p. p,
  record {
    images = record { null_fixed = refl; dangling_fixed = refl; cells = λ c (a, b). absurd (omega arith); distinct = λ _ _ _ _ z. z };
    vars = vars;
    paths = record {
      between = λ _. [];
      path = λ c z. absurd (let (a, b) = (shape_proper s).linked c z in omega arith);
      no_image = λ _ _ _ _ k. absurd (Memᴰ.not-nil k);
      unshared = λ _ _ _ _ _ k. absurd (Memᴰ.not-nil k);
    };
    facts = heap_facts s.facts h.value (λ p. p) facts;
  },
)
