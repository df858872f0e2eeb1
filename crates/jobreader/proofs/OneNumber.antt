-- One number of a buffer, read and held to a range.
use mathlib.Core.Option.{none, some}
use mathlib.Core.Path.{◌≡◌, sym, ap}
use Prim.Native.Nat.{ℕ, ◌≤◌, ◌<◌}
use Rattle.lists.proofs.Reflect.{r_le, r_lt, r_and, cond_true, cond_false}
use Rattle.number.specs.Number.{number_at, numeral, no_numeral}
use Rattle.format.specs.Parser.{parsed, fault, Buffer, within, such, meant, read_as, ranged}
use Rattle.format.proofs.Parsing.{read_complete, read_outside}

module _ (s : Buffer) (at low limit : ℕ) where
  pub unread : {place : ℕ} → number_at s.bytes at ≡ no_numeral place → fault s.unreadable at ≡ ranged s low limit at
  unfolding read_as
  unread g = sym (ap (meant s (such (within low limit)) at) g)

  module _ {n next : ℕ} (g : number_at s.bytes at ≡ numeral n next) where
    pub outside : ((low ≤ n) × (n < limit) → ⊥) → fault s.outside at ≡ ranged s low limit at
    outside h =
        sym
        (read_outside s (such (within low limit)) at n next g
        (cond_false (within low limit n) (some n) none (λ t. h ((r_and (r_le low n) (r_lt n limit)).holds t))))

    pub value : low ≤ n → n < limit → parsed n next ≡ ranged s low limit at
    value l h =
        sym
        (read_complete s (such (within low limit)) at n next n g
        (cond_true (within low limit n) (some n) none ((r_and (r_le low n) (r_lt n limit)).tests (l, h))))
