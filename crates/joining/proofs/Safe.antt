-- Two jobs that are certified apart are safe as one.
use mathlib.Core.List.{List}
use mathlib.Core.Path.{refl, subst}
use Prim.Native.Nat.{ℕ}
use Rattle.run.specs.Run.{Located, Safe}
use Rattle.run.specs.WellFormed.{WellFormed}
use Rattle.run.proofs.WellFormed.{empty_formed}
use Rattle.cover.specs.Cover.{Cover, Inductive, Certified}
use Rattle.cover.proofs.Safe.{AvoidsMembers, step, forbidden_avoided}
use Rattle.joining.specs.Joined.{Joint, joined}
use Rattle.joining.specs.Joins.{StatesBelow, Joins}
use Rattle.joining.proofs.InPhase.{Phases, safe_by_phases}

module _ (p : Joint) (ms₁ ms₂ : List Located) (cs₁ cs₂ : List Cover) (certified : Certified p.first ms₁ cs₁) (inductive : Inductive p.second ms₂ cs₂)
    (below : StatesBelow p.states p.first) (joins : Joins p ms₂) where
  -- what the first leaves at the hand-over satisfies no shape that it forbids there, so no member of the second at its start
  phases : Phases p (AvoidsMembers p.first.variables ms₁) (AvoidsMembers p.second.variables ms₂)
  phases =
      record {
        first_starts = record { formed = empty_formed p.first.variables; avoids = certified.start };
        first_keeps = step p.first ms₁ cs₁ certified.inductive;
        hands_over = λ h a.
            record {
              formed = subst (λ (n : ℕ). WellFormed n h) joins.variables a.formed;
              avoids = λ m i e.
                  forbidden_avoided p.first ms₁ cs₁ certified.inductive (record { state = p.handover; heap = h }) a
                  (record { state = p.handover; shape = m.shape }) (joins.listed m i e) refl;
            };
        second_keeps = step p.second ms₂ cs₂ inductive;
      }

  -- THE CLAIM of document 02, Wish 11, for two jobs and two certificates that are read
  pub joined_safe : Safe (joined p)
  joined_safe =
      safe_by_phases p below joins.inside joins.ends (AvoidsMembers p.first.variables ms₁) (AvoidsMembers p.second.variables ms₂) phases (λ c a n. forbidden_avoided p.first ms₁ cs₁ certified.inductive c a)
      (forbidden_avoided p.second ms₂ cs₂ inductive)
