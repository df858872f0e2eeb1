-- The joined program is safe exactly if the phases are: a run of it is a run of the first and, from the hand-over, one of the second.
use mathlib.Core.List.Memᴰ
use mathlib.Core.List.{map}
use mathlib.Core.Logic.{◌↔◌}
use mathlib.Core.Path.{◌≡◌, refl, sym, ap, subst}
use Prim.Native.Nat.{ℕ, ◌<◌}
use Rattle.heap.specs.Heap.{empty}
use Rattle.run.specs.Run.{Config, ComesTo, Safe}
use Rattle.run.proofs.ComesTo.{comes_here, comes_kept}
use Rattle.run.proofs.Runs.{all_kept}
use Rattle.joining.specs.Joined.{Joint, moved, moved_transition, moved_located, elsewhere, joined}
use Rattle.joining.specs.Joins.{StatesBelow, Ends}
use Rattle.joining.specs.Phases.{ByFirst, BySecond, SafePhases}
use Rattle.joining.proofs.Moved.{moved_start, mem_elsewhere}
use Rattle.joining.proofs.InPhase.{Phases, safe_by_phases}

module _ (p : Joint) where
  start : Config
  start = record { state = p.first.start; heap = empty }

  ByJoined : Config → Type 0
  ByJoined = ComesTo (joined p).transitions start

  moved_config : Config → Config
  moved_config c = record { state = moved p c.state; heap = c.heap }

  first_joined : (c : Config) → ByFirst p c → ByJoined c
  unfolding ByJoined start
  first_joined c (es, m) =
      all_kept p.first.transitions ByJoined
      (λ t x d i z en k. comes_kept (joined p).transitions start t x d (Memᴰ.append_left (map (moved_transition p) p.second.transitions) i) z en k) es start
      (comes_here (joined p).transitions start) c m

  second_joined : (c : Config) → BySecond p c → ByJoined (moved_config c)
  unfolding ByJoined start moved_config
  second_joined c b =
      let handed : ByJoined (record { state = moved p p.second.start; heap = b.heap }) =
      subst (λ (q : ℕ). ByJoined (record { state = q; heap = b.heap })) (sym (moved_start p p.second.start refl)) (first_joined _ b.handed) in
      all_kept p.second.transitions (λ d. ByJoined (moved_config d))
      (λ t x d i z en k.
      comes_kept (joined p).transitions start (moved_transition p t) x (moved_config d)
      (Memᴰ.append_right p.first.transitions (Memᴰ.map (moved_transition p) i)) (ap (moved p) z) en k) b.comes.0
      (record { state = p.second.start; heap = b.heap }) handed c b.comes.1

  -- whatever the two jobs are: a joined program that is safe has safe phases
  pub phases_safe : Safe (joined p) → SafePhases p
  unfolding ByJoined start moved_config
  phases_safe safe =
      record {
        first_safe = λ c k n bad i z.
            let (es, m) = first_joined c k in
            safe es c m bad (Memᴰ.append_left (map (moved_located p) p.second.forbidden) (mem_elsewhere p bad i (λ e. n (subst (λ (q : ℕ). q ≡ p.handover) z e)))) z;
        second_safe = λ c k bad i z.
            let (es, m) = second_joined c k in
            safe es (moved_config c) m (moved_located p bad) (Memᴰ.append_right (elsewhere p) (Memᴰ.map (moved_located p) i)) (ap (moved p) z);
      }

  module _ (below : StatesBelow p.states p.first) (inside : p.handover < p.states) (ends : Ends p) where
    phases : Phases p (ByFirst p) (BySecond p)
    phases =
        record {
          first_starts = comes_here p.first.transitions _;
          first_keeps = comes_kept p.first.transitions _;
          hands_over = λ h k. record { heap = h; handed = k; comes = comes_here p.second.transitions _ };
          second_keeps = λ t x c i z en k.
              record { heap = k.heap; handed = k.handed; comes = comes_kept p.second.transitions _ t x c i z en k.comes };
        }

    pub safe_phases : Safe (joined p) ↔ SafePhases p
    safe_phases = (phases_safe, λ s. safe_by_phases p below inside ends (ByFirst p) (BySecond p) phases s.first_safe s.second_safe)
