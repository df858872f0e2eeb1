-- What is owed a cover has at most 14 cells, and is in range.
use mathlib.Core.Bool.{Bool, true, false, cond}
use mathlib.Core.List.Memᴰ
use mathlib.Core.List.{List, [], map}
use mathlib.Core.Logic.{◌⊎◌, inl, inr}
use native.Mathlib.Omega.{arith}
use lib.Dec.{eqb}
use Rattle.lists.specs.List.{◌∈◌, concat_map}
use Rattle.lists.proofs.List.{concat_map_mem}
use Rattle.shape.specs.Shape.{InRange}
use Rattle.run.specs.Run.{Transition, Located}
use Rattle.backward.specs.Predecessors.{predecessors}
use Rattle.cover.specs.Cover.{predecessors_by, owed}
use Rattle.cover.proofs.InRange.{predecessors_range}
use Rattle.format.specs.JobNumbers.{JobFile}
use Rattle.format.specs.Conditions.{MembersInRange}
use Rattle.format.specs.JobBytes.{JobInRange}

module _ (f : JobFile) (ms : List Located) (ok : JobInRange f) (oks : MembersInRange f ms) where
  before_range : (m : Located) (t : Transition) (o : Located) → m ∈ ms → o ∈ predecessors_by m t → InRange f.job.variables 14 o.shape
  before_range m t o k = by_state (eqb t.to m.state)
    where
      by_state : (b : Bool) → o ∈ cond b (map (λ s. record { state = t.from; shape = s }) (predecessors t.op m.shape)) [] → InRange f.job.variables 14 o.shape
      by_state true i =
          let (p, j, e) = Memᴰ.of_map (λ s. record { state = t.from; shape = s }) (predecessors t.op m.shape) i in
          rw (← e) (predecessors_range f.job.variables 12 t.op m.shape (oks.members m k).shape p j)
      by_state false i = absurd (Memᴰ.not-nil i)

  pub owed_range : (o : Located) → o ∈ owed f.job ms → InRange f.job.variables 14 o.shape
  owed_range o i = by_part (Memᴰ.append_cases f.job.forbidden i)
    where
      by_part : (o ∈ f.job.forbidden) ⊎ (o ∈ concat_map (λ m. concat_map (predecessors_by m) f.job.transitions) ms) → InRange f.job.variables 14 o.shape
      by_part (inl k) =
          let r = (ok.forbidden o k).shape in
          record { variables_number = r.variables_number; cells = omega (arith, r.cells); vars = r.vars; links = r.links; facts = r.facts }
      by_part (inr k) =
          let (m, a, b) = concat_map_mem (λ m. concat_map (predecessors_by m) f.job.transitions) ms o k in
          let (t, _, c) = concat_map_mem (predecessors_by m) f.job.transitions o b in
          before_range m t o a c
