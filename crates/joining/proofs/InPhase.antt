-- Every configuration of the joined program is one of the first that is not at the hand-over, or one of the second, whose start gets what the first
-- leaves at the hand-over. So what the first keeps and what the second keeps make the joined program safe.
use mathlib.Core.List.Memᴰ
use mathlib.Core.List.{map}
use mathlib.Core.Logic.{◌≢◌, ◌⊎◌, inl, inr}
use mathlib.Core.Path.{◌≡◌, refl, sym, ap, subst, ◌∙◌}
use Prim.Native.Nat.{ℕ, ◌<◌}
use native.Mathlib.Decide.{ℕ_discrete}
use Rattle.lists.specs.List.{◌∈◌}
use Rattle.heap.specs.Heap.{Heap, empty}
use Rattle.heap.specs.Operation.{Enabled, after}
use Rattle.shape.specs.Shape.{Satisfies}
use Rattle.run.specs.Run.{Transition, Located, Config, Safe}
use Rattle.run.proofs.Runs.{Kept, all_kept}
use Rattle.joining.specs.Joined.{Joint, moved, moved_transition, moved_located, elsewhere, joined}
use Rattle.joining.specs.Joins.{StatesBelow, Ends}
use Rattle.joining.specs.Phases.{MeetsNone}
use Rattle.joining.proofs.Moved.{moved_start, moved_apart, moved_once, elsewhere_mem}

-- the first keeps P, the second keeps Q, and what the first leaves at the hand-over has Q at the second's start
pub record Phases (p : Joint) (P Q : Config → Type 0) : Type 0 where
  pub first_starts : P (record { state = p.first.start; heap = empty })
  pub first_keeps : Kept p.first.transitions P
  pub hands_over : (h : Heap) → P (record { state = p.handover; heap = h }) → Q (record { state = p.second.start; heap = h })
  pub second_keeps : Kept p.second.transitions Q

module _ (p : Joint) (below : StatesBelow p.states p.first) (inside : p.handover < p.states) (ends : Ends p) (P Q : Config → Type 0)
    (phases : Phases p P Q) where
  -- where a configuration of the joined program stands
  data InPhase (c : Config) : Type 0 where
    in_first : c.state < p.states → c.state ≢ p.handover → P c → InPhase c
    in_second : (s : ℕ) → moved p s ≡ c.state → Q (record { state = s; heap = c.heap }) → InPhase c

  -- one that the first leaves
  left : (c : Config) → c.state < p.states → P c → InPhase c
  left c b k = go (ℕ_discrete c.state p.handover)
    where
      go : Dec (c.state ≡ p.handover) → InPhase c
      go (yes e) =
          in_second p.second.start (moved_start p p.second.start refl ∙ sym e)
          (phases.hands_over c.heap (subst (λ (q : ℕ). P (record { state = q; heap = c.heap })) e k))
      go (no n) = in_first b n k

  step : Kept (joined p).transitions InPhase
  step t x c m z en = go (Memᴰ.append_cases p.first.transitions m)
    where
      c' : Config
      c' = record { state = t.to; heap = after t.op x c.heap }

      by_second : (u : Transition) → u ∈ p.second.transitions → moved_transition p u ≡ t → InPhase c → InPhase c'
      by_second u i e (in_first b n k) = absurd (n (moved_apart p u.from c.state (ap (λ (v : Transition). v.from) e ∙ z) b))
      by_second u i e (in_second s d k) =
          in_second u.to (ap (λ (v : Transition). v.to) e)
          (subst (λ (v : Transition). Q (record { state = u.to; heap = after v.op x c.heap })) e
          (phases.second_keeps u x (record { state = s; heap = c.heap }) i (moved_once p inside u.from s (ap (λ (v : Transition). v.from) e ∙ z ∙ sym d))
          (subst (λ (v : Transition). Enabled v.op x c.heap) (sym e) en) k))

      go : (t ∈ p.first.transitions) ⊎ (t ∈ map (moved_transition p) p.second.transitions) → InPhase c → InPhase c'
      go (inl i) (in_first b n k) = left c' (below.to t i) (phases.first_keeps t x c i z en k)
      go (inl i) (in_second s d k) = absurd (ends t i (moved_apart p s t.from (d ∙ sym z) (below.from t i)))
      go (inr i) k = let (u, j, e) = Memᴰ.of_map (moved_transition p) p.second.transitions i in by_second u j e k

  module _ (first-avoids : (c : Config) → P c → c.state ≢ p.handover → MeetsNone p.first.forbidden c)
      (second-avoids : (c : Config) → Q c → MeetsNone p.second.forbidden c) where
    stands_avoids : (c : Config) → InPhase c → MeetsNone (joined p).forbidden c
    stands_avoids c k bad m z = go (Memᴰ.append_cases (elsewhere p) m) k
      where
        by_second : (u : Located) → u ∈ p.second.forbidden → moved_located p u ≡ bad → InPhase c → ¬ Satisfies c.heap bad.shape
        by_second u i e (in_first b n k) = absurd (n (moved_apart p u.state c.state (ap (λ (v : Located). v.state) e ∙ z) b))
        by_second u i e (in_second s d k) =
            subst (λ (v : Located). ¬ Satisfies c.heap v.shape) e
            (second-avoids (record { state = s; heap = c.heap }) k u i (moved_once p inside u.state s (ap (λ (v : Located). v.state) e ∙ z ∙ sym d)))

        go : (bad ∈ elsewhere p) ⊎ (bad ∈ map (moved_located p) p.second.forbidden) → InPhase c → ¬ Satisfies c.heap bad.shape
        go (inl i) (in_first b n k) = first-avoids c k n bad (elsewhere_mem p bad i).0 z
        go (inl i) (in_second s d k) = let (j, n) = elsewhere_mem p bad i in absurd (n (moved_apart p s bad.state (d ∙ sym z) (below.forbidden bad j)))
        go (inr i) k = let (u, j, e) = Memᴰ.of_map (moved_located p) p.second.forbidden i in by_second u j e k

    pub safe_by_phases : Safe (joined p)
    safe_by_phases es c m =
        stands_avoids c
        (all_kept (joined p).transitions InPhase step es (record { state = p.first.start; heap = empty }) (left _ below.start phases.first_starts) c m)
