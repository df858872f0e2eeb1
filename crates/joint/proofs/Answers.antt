-- The answer of the code is that of the definitions, and with it what it says.
use mathlib.Core.List.{List}
use mathlib.Core.Logic.{◌↔◌}
use mathlib.Core.Path.{◌≡◌, sym, ap, ◌∙◌}
use Prim.Native.Nat.{ℕ}
use Rattle.std.specs.Prelude.{Result, Ok, Err, OnOk}
use Rattle.checker.specs.Pairs.{pair_of}
use Rattle.checker.specs.declared.AcceptedPair.{AcceptedPair}
use Rattle.format.specs.Verdict.{no_state, verdict_at, verdict}
use Rattle.joining.specs.Conditions.{JoinMeans, SafeJoined}
use Rattle.joining.specs.Join.{Joining, pair_refused, read_joint, after_second, after_first, join}
use Rattle.joining.proofs.Exact.{answers, joined_bytes}
use Rattle.verdict.specs.Verdict.{reason_of, counts_told}
use Rattle.verdict.specs.declared.Refused.{Refused}
use Rattle.joint.specs.Answer.{joining_of}
use Rattle.joint.specs.declared.JoinCounts.{JoinCounts}
use Rattle.joint.specs.declared.JoinRefusal.{JoinRefusal}

module _ (job₁ cert₁ job₂ cert₂ : List ℕ) (state : ℕ) where
  module _ (v : Result AcceptedPair Refused) (is : pair_of v ≡ verdict job₁ cert₁) where
    by_first : after_first (pair_of v) (verdict_at no_state job₂ cert₂) (read_joint job₁ job₂ cert₂ state) ≡ join job₁ cert₁ job₂ cert₂ state
    unfolding join
    by_first = ap (λ w. after_first w (verdict_at no_state job₂ cert₂) (read_joint job₁ job₂ cert₂ state)) is

    pub first_refused : (r : Refused) → v ≡ Err r → pair_refused 1 (reason_of r.refusal) r.place ≡ join job₁ cert₁ job₂ cert₂ state
    first_refused r e =
        sym (ap (λ w. after_first (pair_of w) (verdict_at no_state job₂ cert₂) (read_joint job₁ job₂ cert₂ state)) e) ∙ by_first

    pub first_accepted : (p : AcceptedPair) → v ≡ Ok p → (r : Result JoinCounts JoinRefusal)
        → joining_of r ≡ after_second (counts_told p.counts) (verdict_at no_state job₂ cert₂) (read_joint job₁ job₂ cert₂ state) → joining_of r ≡ join job₁ cert₁ job₂ cert₂ state
    first_accepted p e r told =
        told ∙ sym (ap (λ w. after_first (pair_of w) (verdict_at no_state job₂ cert₂) (read_joint job₁ job₂ cert₂ state)) e) ∙ by_first

  -- joined is safe
  safe : (r : Result JoinCounts JoinRefusal) → joining_of r ≡ join job₁ cert₁ job₂ cert₂ state → OnOk r (SafeJoined job₁ job₂ state)
  safe (Ok c) e = joined_bytes job₁ cert₁ job₂ cert₂ state (counts_told c.first) (counts_told c.second) (sym e)
  safe (Err r) e = tt

  pub promised : (r : Result JoinCounts JoinRefusal) → joining_of r ≡ join job₁ cert₁ job₂ cert₂ state
      → (joining_of r ≡ join job₁ cert₁ job₂ cert₂ state)
      × (((j : Joining) → (joining_of r ≡ j) ↔ JoinMeans job₁ cert₁ job₂ cert₂ state j) × OnOk r (SafeJoined job₁ job₂ state))
  promised r e = (
    e,
    (
      λ j. (λ is. (answers job₁ cert₁ job₂ cert₂ state j).0 (sym e ∙ is), λ m. e ∙ (answers job₁ cert₁ job₂ cert₂ state j).1 m),
      safe r e,
    ),
  )
