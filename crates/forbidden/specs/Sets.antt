-- The usual forbidden shapes, ready cut. Document 02, wish 1: "'not a proper list' as four shapes (x at *; x's cell linked to *; x's cell linked
-- to itself; x's cell linked to a cell that links to itself) and 'lost block' as six (one loose cell beside each of those four, beside x at #,
-- and beside x's cell linked to #)." "x's cell is 0, a loose cell the last."
use Rattle.std.specs.Prelude.{cond, List, [], ◌∷◌, ◌++◌, map, ℕ, eqb, replicate}
use Rattle.lists.specs.List.{◌∈◌, concat_map}
use Rattle.heap.specs.Operation.{Op, numbers_of}
use Rattle.heap.specs.Place.{nowhere, null, dangling, cell}
use Rattle.shape.specs.Placing.{set_var_in, grow}
use Rattle.shape.specs.Shape.{Shape}
use Rattle.run.specs.Run.{Transition, Located, Job}

-- the places of n variables: x at p, the others nowhere
abbrev pub only : ℕ → ℕ → ℕ → List ℕ
only n x p = set_var_in x p (replicate n nowhere)

-- no cell, x at p
abbrev pub standing_at : ℕ → ℕ → ℕ → Shape
standing_at n x p = record { vars = only n x p; links = []; facts = [] }

-- x at cell 0; the links of the cells
abbrev pub linked : ℕ → ℕ → List ℕ → Shape
linked n x links = record { vars = only n x (cell 0); links = links; facts = [] }

-- "x at *; x's cell linked to *", and the same with #
abbrev pub ending : ℕ → ℕ → ℕ → List Shape
ending n x p = standing_at n x p ∷ linked n x (p ∷ []) ∷ []

-- "x's cell linked to itself; x's cell linked to a cell that links to itself"
abbrev pub looping : ℕ → ℕ → List Shape
looping n x = linked n x (cell 0 ∷ []) ∷ linked n x (cell 1 ∷ cell 1 ∷ []) ∷ []

-- "not a proper list": the four
abbrev pub not_list_shapes : ℕ → ℕ → List Shape
not_list_shapes n x = ending n x dangling ++ looping n x

-- "lost block": the six. A fresh cell without a link (`grow`) is loose, and the last.
abbrev pub lost_block_shapes : ℕ → ℕ → List Shape
lost_block_shapes n x = map grow (not_list_shapes n x ++ ending n x null)

-- ---- in a job

-- the shapes of the list, at state q
abbrev pub at_state : ℕ → List Shape → List Located
at_state q list = map (λ s. record { state = q; shape = s }) list

-- the variable through which an operation steps: "for each kind 4 its b, for each kind 5 its a"
abbrev pub steps_through : Op → List ℕ
steps_through o = let (kind, a, b) = numbers_of o in cond (eqb kind 4) (b ∷ []) (cond (eqb kind 5) (a ∷ []) [])

-- "at # and then at *"
abbrev pub bad_step_shapes : ℕ → ℕ → List Shape
bad_step_shapes n v = standing_at n v null ∷ standing_at n v dangling ∷ []

-- "step through null" and "step through dangling": for each variable that the transition steps through, "at the from state"
abbrev pub bad_steps_of : ℕ → Transition → List Located
bad_steps_of n t = concat_map (λ v. at_state t.from (bad_step_shapes n v)) (steps_through t.op)

-- "transition by transition"
abbrev pub bad_steps_shapes : ℕ → List Transition → List Located
bad_steps_shapes n ts = concat_map (bad_steps_of n) ts

-- "write the job again with them after its own"
abbrev pub also_forbid : List Located → Job → Job
also_forbid list j = record { variables = j.variables; start = j.start; transitions = j.transitions; forbidden = j.forbidden ++ list }

-- the job forbids all of these
abbrev pub Forbids : Job → List Located → Type 0
Forbids j list = (bad : Located) → bad ∈ list → bad ∈ j.forbidden
