-- What `join` promises of its answer, as the number and the values tell it.
use mathlib.Core.List.{List}
use mathlib.Core.Logic.{◌↔◌}
use mathlib.Core.Path.{◌≡◌, refl, sym, ap, subst, ◌∙◌}
use Prim.Native.Nat.{ℕ}
use Rattle.std.specs.Prelude.{Result, Ok, Err, OnOk}
use native.Mathlib.Omega.{arith}
use Rattle.format.specs.Verdict.{Counts}
use Rattle.joining.specs.Conditions.{JoinMeans, SafeJoined}
use Rattle.joining.specs.Join.{Joining, both, join}
use Rattle.joint.specs.Answer.{joint_number, joining_of, join_result, Joinable}
use Rattle.joint.specs.declared.JoinCounts.{JoinCounts}
use Rattle.joint.specs.declared.JoinRefusal.{JoinRefusal}
use Rattle.joint.specs.declared.JoinRefusal.TheVariants.{First, Second, Joint}
use Rattle.joint.specs.declared.JointRefusal.{JointRefusal}
use Rattle.joint.specs.declared.JointRefusal.TheVariants.{Outside, VariablesDiffer, GoesOn, NotListed}
use Rattle.number.specs.CallResult.{lent}
use Rattle.verdict.specs.Verdict.{counts_told}
use Rattle.verdict.proofs.Numbers.{numbered}

module _ (job₁ cert₁ job₂ cert₂ : List ℕ) (state : ℕ) where
  -- the number 0 says that the two are to be joined and that the joined program is safe
  abbrev Told : ℕ → Type 0
  Told code = ((code ≡ 0) ↔ Joinable job₁ cert₁ job₂ cert₂ state) × (code ≡ 0 → SafeJoined job₁ job₂ state)

  -- none of 24 to 27 is 0
  some_number : (r : JointRefusal) → ¬ (joint_number r ≡ 0)
  some_number Outside z = absurd (omega (arith, z))
  some_number VariablesDiffer z = absurd (omega (arith, z))
  some_number GoesOn z = absurd (omega (arith, z))
  some_number NotListed z = absurd (omega (arith, z))

  -- what an answer says, where it is that of the definitions
  abbrev Means : Result JoinCounts JoinRefusal → Type 0
  Means answer = (j : Joining) → (joining_of answer ≡ j) ↔ JoinMeans job₁ cert₁ job₂ cert₂ state j

  -- a number that isn't 0, of an answer without counts
  without_counts : (answer : Result JoinCounts JoinRefusal) → Means answer → (code : ℕ) → ¬ (code ≡ 0) → ((a b : Counts) → ¬ (joining_of answer ≡ both a b)) → Told code
  without_counts answer means code n without = ((λ z. absurd (n z), λ (a, b, m). absurd (without a b ((means (both a b)).1 m))), λ z. absurd (n z))

  told : (answer : Result JoinCounts JoinRefusal) → Means answer → OnOk answer (SafeJoined job₁ job₂ state) → Told (join_result (joining_of answer)).code
  told (Ok c) means safe = ((λ z. (counts_told c.first, counts_told c.second, (means (both (counts_told c.first) (counts_told c.second))).0 refl), λ d. refl), λ z. safe)
  told (Err (First r)) means safe =
      without_counts (Err (First r)) means _ (λ z. absurd (omega (arith, (numbered r.refusal).0))) (λ a b d. let z : ◌≡◌ {A = ℕ} 0 1 = cc in absurd (omega arith))
  told (Err (Second r)) means safe =
      without_counts (Err (Second r)) means _ (λ z. absurd (omega (arith, (numbered r.refusal).0))) (λ a b d. let z : ◌≡◌ {A = ℕ} 0 1 = cc in absurd (omega arith))
  told (Err (Joint r)) means safe =
      without_counts (Err (Joint r)) means _ (some_number r) (λ a b d. let z : ◌≡◌ {A = ℕ} 0 1 = cc in absurd (omega arith))

  -- what `join` promises of its answer: the number and the values are those of what the answer says
  pub promised : (answer : Result JoinCounts JoinRefusal) (is : joining_of answer ≡ join job₁ cert₁ job₂ cert₂ state)
      → ((j : Joining) → (joining_of answer ≡ j) ↔ JoinMeans job₁ cert₁ job₂ cert₂ state j) → OnOk answer (SafeJoined job₁ job₂ state)
      → (code : ℕ) (out values : List ℕ) → code ≡ (join_result (joining_of answer)).code → values ≡ lent (join_result (joining_of answer)).values out
      → (code ≡ (join_result (join job₁ cert₁ job₂ cert₂ state)).code)
      × ((values ≡ lent (join_result (join job₁ cert₁ job₂ cert₂ state)).values out)
      × (((j : Joining) → JoinMeans job₁ cert₁ job₂ cert₂ state j → (code ≡ (join_result j).code) × (values ≡ lent (join_result j).values out)) × Told code))
  promised answer is means safe code out values code_is values_are = (
    number _ is,
    (lends _ is, (λ j m. (number j ((means j).1 m), lends j ((means j).1 m)), subst Told (sym code_is) (told answer means safe))),
  )
    where
      number : (j : Joining) → joining_of answer ≡ j → code ≡ (join_result j).code
      number j e = code_is ∙ ap (λ (k : Joining). (join_result k).code) e

      lends : (j : Joining) → joining_of answer ≡ j → values ≡ lent (join_result j).values out
      lends j e = values_are ∙ ap (λ (k : Joining). lent (join_result k).values out) e
