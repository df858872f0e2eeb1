-- Refusals are exact: each is given where document 01 says so, and only there.
use mathlib.Core.List.{List}
use mathlib.Core.Logic.{◌↔◌}
use mathlib.Core.Path.{◌≡◌, sym, ◌∙◌}
use Prim.Native.Nat.{ℕ}
use native.Mathlib.Omega.{arith}
use Rattle.format.specs.Parser.{Reason}
use Rattle.format.specs.JobNumbers.{JobFile}
use Rattle.format.specs.Verdict.{Counts, Verdict, accepted, refused, start_of, verdict_at, verdict}
use Rattle.format.specs.Conditions.{ConditionsAt}
use Rattle.format.specs.Meaning.{MeaningAt, Meaning}
use Rattle.format.proofs.Exact.{exact_at}
use Rattle.format.proofs.Means.{means}
use Rattle.format.proofs.Decided.{decided}

-- MEANING: for all lists of bytes, the verdict is refused with this number at this place if and only if that is what is the matter there
pub meaning_at : (tested : JobFile → ℕ) (job certificate : List ℕ) (why : Reason) (place : ℕ) → (verdict_at tested job certificate ≡ refused why place) ↔ MeaningAt tested job certificate why place
meaning_at tested job certificate why place = (means tested job certificate why place, decided tested job certificate why place)

pub meaning : (job certificate : List ℕ) (why : Reason) (place : ℕ) → (verdict job certificate ≡ refused why place) ↔ Meaning job certificate why place
meaning = meaning_at start_of

module _ (tested : JobFile → ℕ) (job certificate : List ℕ) (why : Reason) (place : ℕ) (m : MeaningAt tested job certificate why place) where
  -- one number and one place at most
  pub one_refusal : (k : Reason) (q : ℕ) → MeaningAt tested job certificate k q → (why ≡ k) × (place ≡ q)
  one_refusal k q n =
      let e : ◌≡◌ {A = Verdict} (refused why place) (refused k q) = sym ((meaning_at tested job certificate why place).1 m) ∙ (meaning_at tested job certificate k q).1 n in
      (cc, cc)

  -- and none where the certificate is accepted
  pub not_accepted : (counts : Counts) → ¬ ConditionsAt tested job certificate counts
  not_accepted counts c =
      let e : ◌≡◌ {A = Verdict} (refused why place) (accepted counts) = sym ((meaning_at tested job certificate why place).1 m) ∙ (exact_at tested job certificate counts).1 c in
      let z : ◌≡◌ {A = ℕ} 0 1 = cc in
      omega arith
