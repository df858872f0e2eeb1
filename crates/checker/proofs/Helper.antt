-- The operand that plays b.
use mathlib.Core.Logic.{◌≢◌}
use mathlib.Core.Path.{◌≡◌, refl}
use Prim.Native.Nat.{ℕ, ◌+◌}
use native.Mathlib.Decide.{ℕ_discrete}
use native.Mathlib.Numerals.{add-one}
use borrow.Author.Tests.{eq-eqb, ne_eqb}
use Rattle.checker.specs.Placing.{second_operand}

module _ (variables kind a b : ℕ) where
  pub second_helper : kind ≡ 4 → a ≡ b → variables + 1 ≡ second_operand variables kind a b
  unfolding second_operand
  second_helper k e = simp (eq-eqb kind 4 k, eq-eqb a b e) (add-one variables)

  pub second_read : kind ≡ 13 → a ≡ second_operand variables kind a b
  unfolding second_operand
  second_read k = rw k refl

  pub second_itself : (kind ≡ 4 → a ≢ b) → kind ≢ 13 → b ≡ second_operand variables kind a b
  unfolding second_operand
  second_itself n r = go (ℕ_discrete kind 4) (ℕ_discrete a b)
    where
      go : Dec (kind ≡ 4) → Dec (a ≡ b) → b ≡ second_operand variables kind a b
      go (yes k) (yes e) = absurd (n k e)
      go (yes k) (no e) = simp (eq-eqb kind 4 k, ne_eqb a b e, ne_eqb kind 13 r)
      go (no k) d = simp (ne_eqb kind 4 k, ne_eqb kind 13 r)
