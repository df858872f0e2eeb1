-- Reading an entry, number after number.
use mathlib.Core.List.{List}
use mathlib.Core.Path.{◌≡◌, refl, sym, ap, ◌∙◌}
use Prim.Native.Nat.{ℕ, ◌+◌}
use native.Mathlib.Omega.{arith}
use Rattle.heap.specs.Place.{cell}
use Rattle.facts.specs.Facts.{Fact}
use Rattle.shape.specs.Shape.{Shape}
use Rattle.run.specs.Run.{Located}
use Rattle.format.specs.Job.{read_facts, read_shape, read_located}
use Rattle.format.specs.Parser.{Reason, parsed, fault, onward, many, Buffer, ranged}
use Rattle.reader.specs.Number.{without_value}
use Rattle.reader.proofs.Many.{remembered, without_value_fault, without_value_made}

module _ (version : ℕ) (s : Buffer) (variables states at : ℕ) where
  pub lost_state : {why : Reason} {place : ℕ} → ranged s 0 states at ≡ fault why place → fault why place ≡ without_value (read_located version s variables states at)
  unfolding read_located
  lost_state e = rw e refl

  module _ {state a : ℕ} (e₁ : ranged s 0 states at ≡ parsed state a) where
    pub lost_size : {why : Reason} {place : ℕ} → ranged s 0 13 a ≡ fault why place → fault why place ≡ without_value (read_located version s variables states at)
    unfolding read_located read_shape
    lost_size e = rw (e₁, e) refl

    module _ {n b : ℕ} (e₂ : ranged s 0 13 a ≡ parsed n b) where
      codes : (k at : ℕ) → many k (ranged s 0 (3 + n)) at ≡ many k (ranged s 0 (cell n)) at
      codes k at = let z : 3 + n ≡ cell n = omega arith in rw z refl

      pub lost_vars : {why : Reason} {place : ℕ} → without_value (many variables (ranged s 0 (3 + n)) b) ≡ fault why place
          → fault why place ≡ without_value (read_located version s variables states at)
      unfolding read_located read_shape
      lost_vars {why} {place} e = rw (e₁, e₂, without_value_fault (many variables (ranged s 0 (cell n)) b) why place (sym (ap without_value (codes variables b)) ∙ e)) refl

      module _ {c : ℕ} (e₃ : without_value (many variables (ranged s 0 (3 + n)) b) ≡ parsed tt c) where
        pub lost_links : {why : Reason} {place : ℕ} → without_value (many n (ranged s 0 (3 + n)) c) ≡ fault why place
            → fault why place ≡ without_value (read_located version s variables states at)
        unfolding read_located read_shape
        lost_links {why} {place} e =
            let (vars, g₃) = remembered (many variables (ranged s 0 (cell n)) b) c (sym (ap without_value (codes variables b)) ∙ e₃) in
            rw (e₁, e₂, g₃, without_value_fault (many n (ranged s 0 (cell n)) c) why place (sym (ap without_value (codes n c)) ∙ e)) refl

        pub facts_last : {d : ℕ} → without_value (many n (ranged s 0 (3 + n)) c) ≡ parsed tt d
            → without_value (read_facts s n version d) ≡ without_value (read_located version s variables states at)
        unfolding read_located read_shape
        facts_last {d} e =
            let (vars, g₃) = remembered (many variables (ranged s 0 (cell n)) b) c (sym (ap without_value (codes variables b)) ∙ e₃) in
            let (links, g₄) = remembered (many n (ranged s 0 (cell n)) c) d (sym (ap without_value (codes n c)) ∙ e) in
            let x = read_facts s n version d in
            let shape : List Fact → Shape = λ facts. record { vars = vars; links = links; facts = facts } in
            let located : Shape → Located = λ shape. record { state = state; shape = shape } in
            rw (e₁, e₂, g₃, g₄) (without_value_made x shape ∙ without_value_made (onward x (λ facts next. parsed (shape facts) next)) located)
