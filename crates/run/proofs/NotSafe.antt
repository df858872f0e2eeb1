-- Demand 3 can fail: a job that is not safe. By its one transition, variable 1 gets to #, which is forbidden there.
use mathlib.Core.List.Memᴰ
use mathlib.Core.List.{List, [], ◌∷◌}
use mathlib.Core.Logic.Dec
use mathlib.Core.Logic.{◌≢◌, if_pos}
use mathlib.Core.Path.{◌≡◌, refl, sym}
use Prim.Native.Nat.{ℕ, zero, suc}
use native.Mathlib.Decide.{ℕ_discrete}
use Rattle.lists.specs.List.{◌∈◌}
use Rattle.lists.proofs.List.{every_none}
use Rattle.heap.specs.Heap.{empty}
use Rattle.heap.specs.Operation.{assign, enabled?, after}
use Rattle.heap.specs.Place.{nowhere, null}
use Rattle.heap.proofs.Empty.{null_enabled, null_assigned}
use Rattle.shape.specs.Shape.{var_at}
use Rattle.shape.proofs.NoCells.{no_cells}
use Rattle.run.specs.Run.{Transition, Located, Job, Entry, Config, fire, run, Safe}

-- from state 0 to state 1, variable 1 := null
abbrev pub assigning : Transition
assigning = record { from = 0; op = assign 1 0; to = 1 }

-- at state 1, variable 1 at #
abbrev pub at_null : Located
at_null = record { state = 1; shape = record { vars = null ∷ []; links = []; facts = [] } }

-- the job of P3 and P4 of document 01
abbrev pub assign_null : Job
assign_null = record { variables = 1; start = 0; transitions = assigning ∷ []; forbidden = at_null ∷ [] }

abbrev first : Config
first = record { state = 0; heap = empty }

abbrev second : Config
second = record { state = 1; heap = after (assign 1 0) 0 empty }

fires : second ≡ fire assigning 0 first
fires = sym (if_pos (Dec.and (ℕ_discrete 0 0) (enabled? (assign 1 0) 0 empty)) (refl, null_enabled 0) second first)

abbrev entries : List Entry
entries = record { transition = 0; choice = 0 } ∷ []

-- the one entry leads there
reached : second ∈ run assign_null entries
reached = Memᴰ.tail (Memᴰ.head fires)

stands : (v : ℕ) → var_at at_null.shape v ≢ nowhere → second.heap.var v ≡ var_at at_null.shape v
unfolding ℕ_discrete
stands zero z = refl
stands (suc zero) z = null_assigned 0
stands (suc (suc v)) z = absurd (z refl)

pub not_safe : ¬ Safe assign_null
not_safe safe = safe entries second reached at_null (Memᴰ.head refl) refl (no_cells second.heap at_null.shape refl stands (every_none _))
