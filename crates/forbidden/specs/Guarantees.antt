-- What the ready shapes mean, and what a job that forbids them guarantees on its runs.
use Rattle.std.specs.Prelude.{List, ◌↔◌, ◌⊎◌, ◌≡◌, ℕ}
use Rattle.lists.specs.List.{◌∈◌}
use Rattle.heap.specs.Heap.{Heap, IsCell}
use Rattle.heap.specs.Place.{null, dangling}
use Rattle.shape.specs.Shape.{SatisfiesOne}
use Rattle.run.specs.Run.{Transition, Job, Entry, Config, run}
use Rattle.forbidden.specs.MetFrom.{MetFrom}
use Rattle.forbidden.specs.Sets.{not_list_shapes, lost_block_shapes, steps_through, bad_step_shapes}

-- "A heap satisfies one of the four exactly if # isn't met by following links from x (x at # counts as met), and one of the six exactly if
-- some cell isn't met so." It satisfies one of two for a step through x exactly if x stands at # or at *.
pub record Means (h : Heap) (n x : ℕ) : Type 0 where
  pub not_list : SatisfiesOne h (not_list_shapes n x) ↔ ¬ MetFrom h x null
  pub lost_block : SatisfiesOne h (lost_block_shapes n x) ↔ ((c : ℕ) × IsCell h c × (¬ MetFrom h x c))
  pub bad_step : SatisfiesOne h (bad_step_shapes n x) ↔ ((h.var x ≡ null) ⊎ (h.var x ≡ dangling))

-- what holds of every configuration of every run of the job
abbrev pub Always : Job → (Config → Type 0) → Type 0
Always j P = (es : List Entry) (c : Config) → c ∈ run j es → P c

-- on every run, whenever it is at state q, # is met from x
abbrev pub ListAt : Job → ℕ → ℕ → Type 0
ListAt j x q = Always j (λ c. c.state ≡ q → MetFrom c.heap x null)

-- on every run, whenever it is at state q, every cell is met from x
abbrev pub NoneLostAt : Job → ℕ → ℕ → Type 0
NoneLostAt j x q = Always j (λ c. c.state ≡ q → (p : ℕ) → IsCell c.heap p → MetFrom c.heap x p)

-- on every run, before every step through a variable it stands at a cell, neither at # nor at *
abbrev pub StepsAtCells : Job → Type 0
StepsAtCells j =
    Always j
    (λ c. (t : Transition) → t ∈ j.transitions → t.from ≡ c.state → (v : ℕ) → v ∈ steps_through t.op → IsCell c.heap (c.heap.var v))
