-- Which of 24 to 27 falls, by what the code finds.
use mathlib.Core.Bool.{Bool, true, false, not}
use mathlib.Core.List.{List}
use mathlib.Core.Option.{Option, none, some}
use mathlib.Core.Path.{◌≡◌, refl, sym, ◌∙◌}
use Prim.Native.Nat.{ℕ, ◌+◌, ◌*◌, ◌≤◌, ◌<◌}
use borrow.Author.Tests.{eq-eqb, ne_eqb, lt-ltb, le-ltb}
use lib.Dec.{eqb}
use lib.ListN.{get_or}
use Rattle.lists.specs.List.{all_of}
use Rattle.lists.specs.Test.{all_from}
use Rattle.lists.proofs.Test.{all_ranged}
use Rattle.run.specs.Run.{Located}
use Rattle.checker.specs.Jobs.{file_in}
use Rattle.joining.specs.Join.{joint_of, ends, owed_listed, joint_refusal}
use Rattle.joining.specs.Joined.{Joint}
use Rattle.layout.specs.Entries.{entries_at}
use Rattle.layout.specs.Transitions.{transition_at}
use Rattle.reader.specs.declared.Header.{Header}
use Rattle.joint.specs.Answer.{is_settled}

module _ (job : List ℕ) (h second : Header) (state : ℕ) (members : List Located) (job₂ : List ℕ) where
  abbrev joint : Joint
  joint = joint_of (file_in job h) (file_in job₂ second) state

  pub told_24 : h.states ≤ state → some 24 ≡ joint_refusal joint members
  unfolding joint_refusal
  told_24 e = rw (le-ltb state h.states e) refl

  module _ (inside : state < h.states) where
    pub told_25 : (h.variables ≡ second.variables → ⊥) → some 25 ≡ joint_refusal joint members
    unfolding joint_refusal
    told_25 n = rw (lt-ltb state h.states inside, ne_eqb h.variables second.variables n) refl

    module _
        (same : h.variables ≡ second.variables)
        (r : Bool)
        (r-is : r ≡ all_from h.transitions 0 (λ i. not (eqb (get_or job (h.transitions_at + 5 * i) 0) state)))
      where
        ends_is : r ≡ ends joint
        ends_is = r-is ∙ all_ranged (λ t. not (eqb t.from state)) (λ k. transition_at job (h.transitions_at + 5 * k)) 0 h.transitions

        pub told_26 : r ≡ false → some 26 ≡ joint_refusal joint members
        unfolding joint_refusal
        told_26 e = rw (lt-ltb state h.states inside, eq-eqb h.variables second.variables same, sym ends_is ∙ e) refl

        module _
            (ended : r ≡ true)
            (q : Bool)
            (q_is : q ≡ all_of (is_settled state (entries_at job h.variables h.bads_at h.bads) second.start) members)
          where
            listed_is : q ≡ owed_listed joint members
            listed_is = q_is

            pub told_27 : q ≡ false → some 27 ≡ joint_refusal joint members
            unfolding joint_refusal
            told_27 e = rw (lt-ltb state h.states inside, eq-eqb h.variables second.variables same, sym ends_is ∙ ended, sym listed_is ∙ e) refl

            pub told_none : q ≡ true → ◌≡◌ {A = Option ℕ} none (joint_refusal joint members)
            unfolding joint_refusal
            told_none e = rw (lt-ltb state h.states inside, eq-eqb h.variables second.variables same, sym ends_is ∙ ended, sym listed_is ∙ e) refl
