-- The claim about two jobs that are joined, without a joined program: a run of the first and, where it is at the hand-over, a run of the second
-- from the heap that is there.
use Rattle.std.specs.Prelude.{List, ◌≢◌, ◌≡◌}
use Rattle.lists.specs.List.{◌∈◌}
use Rattle.heap.specs.Heap.{Heap, empty}
use Rattle.shape.specs.Shape.{Satisfies}
use Rattle.run.specs.Run.{Located, Config, ComesTo}
use Rattle.joining.specs.Joined.{Joint}

-- some run of the first from the empty heap has this configuration
abbrev pub ByFirst : Joint → Config → Type 0
ByFirst p = ComesTo p.first.transitions (record { state = p.first.start; heap = empty })

-- some run of the second has it, from a heap with which some run of the first is at the hand-over
pub record BySecond (p : Joint) (c : Config) : Type 0 where
  pub heap : Heap
  pub handed : ByFirst p (record { state = p.handover; heap = heap })
  pub comes : ComesTo p.second.transitions (record { state = p.second.start; heap = heap }) c

-- no shape of the list is met where it is forbidden
abbrev pub MeetsNone : List Located → Config → Type 0
MeetsNone bads c = (bad : Located) → bad ∈ bads → bad.state ≡ c.state → ¬ Satisfies c.heap bad.shape

pub record SafePhases (p : Joint) : Type 0 where
  -- "nor one forbidden by the first at any state but the hand-over"
  pub first_safe : (c : Config) → ByFirst p c → c.state ≢ p.handover → MeetsNone p.first.forbidden c
  -- "no run [..] meets a shape forbidden by the second at its states"
  pub second_safe : (c : Config) → BySecond p c → MeetsNone p.second.forbidden c
