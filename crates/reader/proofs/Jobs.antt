-- Reading a job, part after part.
use mathlib.Core.List.{List}
use mathlib.Core.Logic.{◌⊎◌}
use mathlib.Core.Path.{◌≡◌, refl}
use Prim.Native.Nat.{ℕ, ◌+◌, ◌≤◌, ◌<◌}
use native.Mathlib.Omega.{arith}
use borrow.Author.Tests.{le-leb, lt-leb}
use lib.ListN.{length}
use Rattle.format.specs.Job.{read_located}
use Rattle.format.specs.Parser.{Reason, refusal, parsed, fault, many, Buffer, job_buffer, ranged, end}
use Rattle.format.proofs.Parsing.{then, then_fault, ranged_exact}
use Rattle.format.proofs.Sequence.{reads_one}
use Rattle.layout.specs.Entries.{version_of}
use Rattle.number.specs.Number.{number_at, numeral}
use Rattle.reader.specs.Job.{read_rest}
use Rattle.jobreader.specs.Reader.{preamble_read}
use Rattle.jobreader.proofs.PreambleNumbers.{ranged_fault}
use Rattle.jobreader.specs.declared.Preamble.{Preamble}
use Rattle.reader.specs.Number.{without_value}
use Rattle.reader.proofs.Answers.{in_range}
use Rattle.reader.proofs.Bytes.{single}
use Rattle.reader.proofs.Many.{remembered, without_value_fault}

-- ---- the numbers before the transitions

-- a number of a range below 128 is one byte
one_byte : (s : Buffer) (low limit at n next : ℕ) → ranged s low limit at ≡ parsed n next → limit ≤ 128 → next ≡ at + 1
one_byte s low limit at n next h small =
    let (g, (l, b)) = (ranged_exact s low limit).sound at n next h in
    (single s.bytes at n next (reads_one g) (omega arith)).after

module _ (s : Buffer) (at : ℕ) where
  pub preamble_fault : (why : Reason) (place : ℕ) → preamble_read s at ≡ fault why place → (why ≡ s.unreadable) ⊎ (why ≡ s.outside)
  unfolding preamble_read
  preamble_fault why place =
      then_fault (ranged s 1 3 at) _
      (λ version p₁ h₁. then_fault (ranged s 1 9 p₁) _
      (λ variables p₂ h₂. then_fault (ranged s 1 65 p₂) _
      (λ states p₃ h₃. then_fault (ranged s 0 states p₃) _
      (λ start p₄ h₄. then_fault (ranged s 0 257 p₄) _
      (λ transitions p₅ h₅ e. let z : ◌≡◌ {A = ℕ} 0 1 = cc in absurd (omega arith)) (ranged_fault s 0 257 p₄ why place))
      (ranged_fault s 0 states p₃ why place)) (ranged_fault s 1 65 p₂ why place)) (ranged_fault s 1 9 p₁ why place)) (ranged_fault s 1 3 at why place)

  pub preamble_variables : (f : Preamble) (next : ℕ) → preamble_read s at ≡ parsed f next → f.variables ≤ 8
  unfolding preamble_read
  preamble_variables f next =
      then (ranged s 1 3 at) _
      (λ version p₁ h₁. then (ranged s 1 9 p₁) _
      (λ variables p₂ h₂. then (ranged s 1 65 p₂) _
      (λ states p₃ h₃. then (ranged s 0 states p₃) _
      (λ start p₄ h₄. then (ranged s 0 257 p₄) _
      (λ transitions p₅ h₅ r.
      let (_, most) = in_range s 1 9 p₁ variables p₂ h₂ in
      let same : variables ≡ f.variables = cc in
      omega arith)))))

  -- the numbers before that of the transitions are one byte each
  pub preamble_place : (f : Preamble) (next : ℕ) → preamble_read s at ≡ parsed f next → number_at s.bytes (at + 4) ≡ numeral f.transitions f.at
  unfolding preamble_read
  preamble_place f next =
      then (ranged s 1 3 at) _
      (λ version p₁ h₁. then (ranged s 1 9 p₁) _
      (λ variables p₂ h₂. then (ranged s 1 65 p₂) _
      (λ states p₃ h₃. then (ranged s 0 states p₃) _
      (λ start p₄ h₄. then (ranged s 0 257 p₄) _
      (λ transitions p₅ h₅ r.
      let (_, most) = in_range s 1 65 p₂ states p₃ h₃ in
      let one₁ = one_byte s 1 3 at version p₁ h₁ (omega arith) in
      let one₂ = one_byte s 1 9 p₁ variables p₂ h₂ (omega arith) in
      let one₃ = one_byte s 1 65 p₂ states p₃ h₃ (omega arith) in
      let one₄ = one_byte s 0 states p₃ start p₄ h₄ (omega arith) in
      let number_is : transitions ≡ f.transitions = cc in
      let place_is : p₅ ≡ f.at = cc in
      let here : p₄ ≡ at + 4 = omega arith in
      let g = reads_one ((ranged_exact s 0 257).sound p₄ transitions p₅ h₅).0 in
      rw (← here, ← number_is, ← place_is) g)))))

-- ---- what follows the transitions

module _ (job : List ℕ) (f : Preamble) (at : ℕ) where
  abbrev s : Buffer
  s = job_buffer job

  pub lost_bads : {why : Reason} {place : ℕ} → ranged s 1 65 at ≡ fault why place → read_rest job f at ≡ fault why place
  unfolding read_rest
  lost_bads e = rw e refl

  module _ {bads p : ℕ} (e₁ : ranged s 1 65 at ≡ parsed bads p) where
    pub lost_forbidden : {why : Reason} {place : ℕ} → without_value (many bads (read_located (version_of job) s f.variables f.states) p) ≡ fault why place
        → read_rest job f at ≡ fault why place
    unfolding read_rest
    lost_forbidden {why} {place} e = rw (e₁, without_value_fault (many bads (read_located (version_of job) s f.variables f.states) p) why place e) refl

    module _ {last : ℕ} (e₂ : without_value (many bads (read_located (version_of job) s f.variables f.states) p) ≡ parsed tt last) where
      pub left_over : last < length job → read_rest job f at ≡ fault (refusal 5) last
      unfolding read_rest end
      left_over h =
          let (ms, e₃) = remembered (many bads (read_located (version_of job) s f.variables f.states) p) last e₂ in
          rw (e₁, e₃, lt-leb (length job) last h) refl

      pub rest_made : length job ≤ last
          → read_rest job f at
          ≡ parsed
          (record {
            variables = f.variables;
            states = f.states;
            start = f.start;
            transitions = f.transitions;
            transitions_at = f.at;
            bads = bads;
            bads_at = p;
          })
          last
      unfolding read_rest end
      rest_made h =
          let (ms, e₃) = remembered (many bads (read_located (version_of job) s f.variables f.states) p) last e₂ in
          rw (e₁, e₃, le-leb (length job) last h) refl
