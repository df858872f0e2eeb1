-- The numbers of a job before its transitions, one read after the other: the first that is refused is the answer, and where none is, the five make it.
use mathlib.Core.Logic.{◌⊎◌, inl, inr}
use mathlib.Core.Option.{none}
use mathlib.Core.Path.{◌≡◌, refl}
use Prim.Native.Nat.{ℕ}
use Rattle.std.specs.Prelude.{Option, Some, None}
use Rattle.format.specs.Parser.{Reason, Parsed, parsed, fault, Buffer, within, such, ranged}
use Rattle.format.proofs.Parsing.{Faulty, read_fault}
use Rattle.jobreader.specs.Reader.{preamble_read, Numbers, preamble_numbers}
use Rattle.jobreader.specs.declared.Preamble.{Preamble}

-- a value with the place after it or, where it is refused, that refusal with its place
abbrev pub unless_refused : {A : Type 0} → Option Reason → A → ℕ → Parsed A
unless_refused None value at = parsed value at
unless_refused (Some why) value at = fault why at

abbrev pub parsed_preamble : Numbers → Parsed Preamble
parsed_preamble n = unless_refused n.refused n.read n.read.at

-- a number that is refused can't be read or breaks its range
pub ranged_fault : (s : Buffer) (low limit at : ℕ) (why : Reason) (place : ℕ) → ranged s low limit at ≡ fault why place
    → (why ≡ s.unreadable) ⊎ (why ≡ s.outside)
ranged_fault s low limit at why place e = go (read_fault s (such (within low limit)) at why place e).1
  where
    go : Faulty s (λ n. such (within low limit) n ≡ none) why at → (why ≡ s.unreadable) ⊎ (why ≡ s.outside)
    go (inl (k, _)) = inl k
    go (inr (k, _)) = inr k

module _ (s : Buffer) (at : ℕ) where
  -- the numbers that are read, with the refusal, are what the parser of them gives
  abbrev Agree : Type 0
  Agree = parsed_preamble (preamble_numbers s at) ≡ preamble_read s at

  pub lost_version : {why : Reason} {place : ℕ} → fault why place ≡ ranged s 1 3 at → fault why place ≡ preamble_read s at
  unfolding preamble_read
  lost_version e = rw (← e) refl

  module _ {version p₁ : ℕ} (e₁ : parsed version p₁ ≡ ranged s 1 3 at) where
    pub lost_variables : {why : Reason} {place : ℕ} → fault why place ≡ ranged s 1 9 p₁ → fault why place ≡ preamble_read s at
    unfolding preamble_read
    lost_variables e = rw (← e₁, ← e) refl

    module _ {variables p₂ : ℕ} (e₂ : parsed variables p₂ ≡ ranged s 1 9 p₁) where
      pub lost_states : {why : Reason} {place : ℕ} → fault why place ≡ ranged s 1 65 p₂ → fault why place ≡ preamble_read s at
      unfolding preamble_read
      lost_states e = rw (← e₁, ← e₂, ← e) refl

      module _ {states p₃ : ℕ} (e₃ : parsed states p₃ ≡ ranged s 1 65 p₂) where
        pub lost_start : {why : Reason} {place : ℕ} → fault why place ≡ ranged s 0 states p₃ → fault why place ≡ preamble_read s at
        unfolding preamble_read
        lost_start e = rw (← e₁, ← e₂, ← e₃, ← e) refl

        module _ {start p₄ : ℕ} (e₄ : parsed start p₄ ≡ ranged s 0 states p₃) where
          pub lost_transitions : {why : Reason} {place : ℕ} → fault why place ≡ ranged s 0 257 p₄ → fault why place ≡ preamble_read s at
          unfolding preamble_read
          lost_transitions e = rw (← e₁, ← e₂, ← e₃, ← e₄, ← e) refl

          pub preamble_made : {transitions p₅ : ℕ} → parsed transitions p₅ ≡ ranged s 0 257 p₄
              → parsed (record { variables = variables; states = states; start = start; transitions = transitions; at = p₅ }) p₅ ≡ preamble_read s at
          unfolding preamble_read
          preamble_made e₅ = rw (← e₁, ← e₂, ← e₃, ← e₄, ← e₅) refl

          by_transitions : (x : Parsed ℕ) → x ≡ ranged s 0 257 p₄ → Agree
          unfolding preamble_numbers
          by_transitions (fault why place) e = rw (← e₁, ← e₂, ← e₃, ← e₄, ← e) (lost_transitions e)
          by_transitions (parsed transitions p₅) e = rw (← e₁, ← e₂, ← e₃, ← e₄, ← e) (preamble_made e)

        by_start : (x : Parsed ℕ) → x ≡ ranged s 0 states p₃ → Agree
        unfolding preamble_numbers
        by_start (fault why place) e = rw (← e₁, ← e₂, ← e₃, ← e) (lost_start e)
        by_start (parsed start p₄) e = by_transitions e (ranged s 0 257 p₄) refl

      by_states : (x : Parsed ℕ) → x ≡ ranged s 1 65 p₂ → Agree
      unfolding preamble_numbers
      by_states (fault why place) e = rw (← e₁, ← e₂, ← e) (lost_states e)
      by_states (parsed states p₃) e = by_start e (ranged s 0 states p₃) refl

    by_variables : (x : Parsed ℕ) → x ≡ ranged s 1 9 p₁ → Agree
    unfolding preamble_numbers
    by_variables (fault why place) e = rw (← e₁, ← e) (lost_variables e)
    by_variables (parsed variables p₂) e = by_states e (ranged s 1 65 p₂) refl

  by_version : (x : Parsed ℕ) → x ≡ ranged s 1 3 at → Agree
  unfolding preamble_numbers
  by_version (fault why place) e = rw (← e) (lost_version e)
  by_version (parsed version p₁) e = by_variables e (ranged s 1 9 p₁) refl

  pub preamble_parsed : parsed_preamble (preamble_numbers s at) ≡ preamble_read s at
  preamble_parsed = by_version (ranged s 1 3 at) refl
