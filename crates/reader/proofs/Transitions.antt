-- Reading a transition, number after number, by the columns of the table of kinds.
use mathlib.Core.Bool.{Bool, ◌&&◌}
use mathlib.Core.Option.{none, some}
use mathlib.Core.Path.{◌≡◌, refl, sym, ap, ◌∙◌}
use Prim.Native.Nat.{ℕ, ◌+◌, ◌≤◌}
use native.Mathlib.Numerals.{add-one}
use native.Mathlib.Omega.{arith}
use lib.Dec.{leb}
use Rattle.lists.proofs.Reflect.{r_eq, r_le, r_lt, r_and, leb_ltb, cond_true, cond_cases}
use Rattle.heap.specs.Operation.{Kind, kind_of, allows_a, allows_b}
use Rattle.run.specs.Run.{Transition}
use Rattle.kinds.specs.Kinds.{least_a_of, least_b_of, most_b_of}
use Rattle.heap.proofs.Rows.{is_kind, no_kind}
use Rattle.format.specs.Job.{kind_in, read_transition}
use Rattle.format.specs.JobBytes.{last_kind}
use Rattle.format.specs.Parser.{Reason, parsed, fault, Buffer, within, such, read_as, ranged}
use Rattle.format.proofs.Parsing.{read_complete, read_fault, read_refuses, faulty_map, ranged_exact, such_none}
use Rattle.format.proofs.Sequence.{reads_one}
use Rattle.reader.specs.Number.{without_value}
use Rattle.reader.proofs.Many.{without_value_made}

-- ---- a kind

-- no version has a kind that the table lacks
pub last_most : (version : ℕ) → last_kind version ≤ 13
last_most version = cond_cases (λ k. k ≤ 13) (r_eq version 2) (λ _. omega arith) (λ _. omega arith)

module _ (version : ℕ) (s : Buffer) (at : ℕ) where
  pub kind_got : (kind next : ℕ) → ranged s 1 (1 + last_kind version) at ≡ parsed kind next
      → (row : Kind) × (kind_of kind ≡ some row) × (read_as s (kind_in version) at ≡ parsed row next)
  kind_got kind next e =
      let (g, (l, h)) = (ranged_exact s 1 (1 + last_kind version)).sound at kind next e in
      let (row, r) = is_kind kind l (omega (arith, last_most version)) in
      let known = cond_true (leb kind (last_kind version)) (kind_of kind) none ((r_le kind (last_kind version)).tests (omega arith)) in
      (row, r, read_complete s (kind_in version) at kind next row (reads_one g) (known ∙ r))

  pub kind_lost : (why : Reason) (place : ℕ) → ranged s 1 (1 + last_kind version) at ≡ fault why place → read_as s (kind_in version) at ≡ fault why place
  kind_lost why place e =
      let (at_is, f) = read_fault s (such (within 1 (1 + last_kind version))) at why place e in
      read_refuses s (kind_in version) at why (faulty_map s unknown f) ∙ ap (fault why) at_is
    where
      unknown : (n : ℕ) → such (within 1 (1 + last_kind version)) n ≡ none → kind_in version n ≡ none
      unknown n out =
          cond_cases (λ o. o ≡ none) (r_le n (last_kind version))
          (λ h. no_kind n (λ l _. such_none (within 1 (1 + last_kind version)) n out ((r_and (r_le 1 n) (r_lt n (1 + last_kind version))).tests (l, omega arith))))
          (λ _. refl)

-- ---- an operand

module _ (s : Buffer) (n kind : ℕ) (row : Kind) (r : kind_of kind ≡ some row) (at : ℕ) where
  operand : (low most low' : ℕ) → low' ≡ low → ranged s low' (most + 1) at ≡ read_as s (such (λ a. leb low a && leb a most)) at
  operand low most low' e = rw (e, add-one most) (ap (λ (test : ℕ → Bool). read_as s (such test) at) (λ i a. leb low a && sym (leb_ltb a most) i))

  pub operand_a : ranged s (least_a_of kind) (n + 1) at ≡ read_as s (such (allows_a n row)) at
  unfolding least_a_of
  operand_a = operand row.least_a n (least_a_of kind) (rw r refl)

  pub operand_b : ranged s (least_b_of kind) (most_b_of kind n + 1) at ≡ read_as s (such (allows_b n row)) at
  unfolding least_b_of most_b_of
  operand_b =
      let most : most_b_of kind n ≡ row.most_b n = rw r refl in
      rw most (operand row.least_b (row.most_b n) (least_b_of kind) (rw r refl))

-- ---- a transition

module _ (version : ℕ) (s : Buffer) (variables states at : ℕ) where
  pub lost_from : {why : Reason} {place : ℕ} → ranged s 0 states at ≡ fault why place → fault why place ≡ without_value (read_transition version s variables states at)
  unfolding read_transition
  lost_from e = rw e refl

  module _ {from p₁ : ℕ} (e₁ : ranged s 0 states at ≡ parsed from p₁) where
    pub lost_kind : {why : Reason} {place : ℕ} → ranged s 1 (1 + last_kind version) p₁ ≡ fault why place → fault why place ≡ without_value (read_transition version s variables states at)
    unfolding read_transition
    lost_kind {why} {place} e = rw (e₁, kind_lost version s p₁ why place e) refl

    module _ {kind p₂ : ℕ} (e₂ : ranged s 1 (1 + last_kind version) p₁ ≡ parsed kind p₂) where
      pub lost_a : {why : Reason} {place : ℕ} → ranged s (least_a_of kind) (variables + 1) p₂ ≡ fault why place
          → fault why place ≡ without_value (read_transition version s variables states at)
      unfolding read_transition
      lost_a e =
          let (row, r, k) = kind_got version s p₁ kind p₂ e₂ in
          rw (e₁, k, sym (operand_a s variables kind row r p₂) ∙ e) refl

      module _ {a p₃ : ℕ} (e₃ : ranged s (least_a_of kind) (variables + 1) p₂ ≡ parsed a p₃) where
        pub lost_b : {why : Reason} {place : ℕ} → ranged s (least_b_of kind) (most_b_of kind variables + 1) p₃ ≡ fault why place
            → fault why place ≡ without_value (read_transition version s variables states at)
        unfolding read_transition
        lost_b e =
            let (row, r, k) = kind_got version s p₁ kind p₂ e₂ in
            rw (e₁, k, sym (operand_a s variables kind row r p₂) ∙ e₃, sym (operand_b s variables kind row r p₃) ∙ e) refl

        pub to_last : {b p₄ : ℕ} → ranged s (least_b_of kind) (most_b_of kind variables + 1) p₃ ≡ parsed b p₄
            → without_value (ranged s 0 states p₄) ≡ without_value (read_transition version s variables states at)
        unfolding read_transition
        to_last {b} {p₄} e₄ =
            let (row, r, k) = kind_got version s p₁ kind p₂ e₂ in
            let transition : ℕ → Transition = λ to. record { from = from; op = row.op a b; to = to } in
            rw (e₁, k, sym (operand_a s variables kind row r p₂) ∙ e₃, sym (operand_b s variables kind row r p₃) ∙ e₄) (without_value_made (ranged s 0 states p₄) transition)
