-- What is owed for a member, transition by transition into its state.
use mathlib.Core.List.{List, [], ◌++◌, map}
use mathlib.Core.Path.{◌≡◌, refl, sym, ap, ◌∙◌}
use Prim.Native.Nat.{ℕ, zero, suc, ◌+◌, ◌-◌, ◌≤◌, ◌<◌}
use native.Mathlib.Decide.{ℕ_discrete}
use native.Mathlib.Omega.{arith}
use lib.Dec.{eqb}
use Rattle.lists.specs.List.{concat_map}
use Rattle.lists.specs.Range.{range}
use Rattle.lists.proofs.Reflect.{cond_true, cond_false, r_eq}
use Rattle.run.specs.Run.{Transition, Located}
use Rattle.backward.specs.Predecessors.{predecessors}
use Rattle.cover.specs.Cover.{predecessors_by}
use Rattle.transitions.specs.Index.{next_into}
use Rattle.transitions.proofs.Linked.{into_here, into_later}

-- the predecessors of a member by one transition, at its from state
abbrev pub before : Located → Transition → List Located
before m t = map (λ s. record { state = t.from; shape = s }) (predecessors t.op m.shape)

module _ (t : ℕ → Transition) (m : Located) where
  -- what is owed for the transitions from the i-th on, `left` of them
  abbrev pub owed_from : ℕ → ℕ → List Located
  owed_from left i = concat_map (predecessors_by m) (map t (range i left))

  abbrev to_state : ℕ → ℕ
  to_state i = (t i).to

  pub none_into : (left i : ℕ) → next_into to_state m.state left i ≡ 0 → owed_from left i ≡ []
  none_into zero i e = refl
  none_into (suc left) i e = go (ℕ_discrete (t i).to m.state) (none_into left (suc i))
    where
      go : Dec ((t i).to ≡ m.state) → (next_into to_state m.state left (suc i) ≡ 0 → owed_from left (suc i) ≡ []) → owed_from (suc left) i ≡ []
      go (yes s) rest = absurd (omega (arith, into_here to_state m.state left i s))
      go (no n) rest =
          ap (λ l. l ++ owed_from left (suc i)) (cond_false (eqb (t i).to m.state) (before m (t i)) [] (λ b. n ((r_eq (t i).to m.state).holds b)))
          ∙ rest (sym (into_later to_state m.state left i n) ∙ e)

  -- the first transition into the member's state, and what is owed after it
  pub record FirstInto (left i j : ℕ) : Type 0 where
    pub from : i ≤ j
    pub below : j < i + left
    pub into : (t j).to ≡ m.state
    pub owes : owed_from left i ≡ before m (t j) ++ owed_from (i + left - suc j) (suc j)

  pub some_into : (left i j : ℕ) → next_into to_state m.state left i ≡ suc j → FirstInto left i j
  unfolding next_into
  some_into zero i j e = absurd (omega arith)
  some_into (suc left) i j e = go (ℕ_discrete (t i).to m.state) (some_into left (suc i) j)
    where
      here : (t i).to ≡ m.state → i ≡ j → FirstInto (suc left) i j
      here s e =
          let rest : i + suc left - suc j ≡ left = omega arith in
          record {
            from = omega arith;
            below = omega arith;
            into = rw (← e) s;
            owes =
                rw (rest, ← e)
                (ap (λ l. l ++ owed_from left (suc i)) (cond_true (eqb (t i).to m.state) (before m (t i)) [] ((r_eq (t i).to m.state).tests s)));
          }

      go : Dec ((t i).to ≡ m.state) → (next_into to_state m.state left (suc i) ≡ suc j → FirstInto left (suc i) j) → FirstInto (suc left) i j
      go (yes s) rest = here s (omega (arith, into_here to_state m.state left i s))
      go (no n) rest =
          let f = rest (sym (into_later to_state m.state left i n) ∙ e) in
          let same : suc i + left - suc j ≡ i + suc left - suc j = omega arith in
          record {
            from = omega (arith, f.from);
            below = omega (arith, f.below);
            into = f.into;
            owes =
                ap (λ l. l ++ owed_from left (suc i)) (cond_false (eqb (t i).to m.state) (before m (t i)) [] (λ b. n ((r_eq (t i).to m.state).holds b)))
                ∙ f.owes ∙ ap (λ (k : ℕ). before m (t j) ++ owed_from k (suc j)) same;
          }
