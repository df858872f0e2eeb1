-- Number after number: each call says what is read after the one before it, or that one was refused.
use Rattle.std.proofs.Common.{◌≡◌, ◌∙◌, refl, ap, ℕ, List, Bor, Result, None, Some, Ok, OnErr}
use Rattle.std.specs.Result.{result_err, result_unwrap_or}
use Rattle.format.specs.Parser.{Parsed, parsed, onward, job_buffer, ranged}
use Rattle.verdict.specs.declared.Refused.{Refused}
use Rattle.jobreader.specs.Reader.{last_read_of, read_on, Numbers, preamble_numbers}
use Rattle.jobreader.specs.declared.Reader.{Reader}
use Rattle.jobreader.proofs.PreambleNumbers.{parsed_preamble, preamble_parsed}
use Rattle.jobreader.proofs.Readers.{Told, told_next, number_is, limited, why_of, reason_is, refused_at}
use Rattle.jobreader.proofs.read_preamble.Goals as goal

-- what a call of `next` says
abbrev NextSaid : Reader → ℕ → ℕ → Result ℕ Refused → Reader → Type 0
NextSaid old low limit r new =
    record {
      job : new.src ≡ old.src;
      number : last_read_of r new.at ≡ read_on old.refused (ranged (job_buffer old.src.now) low limit) old.at;
      refused : OnErr r (new.at ≡ old.at);
      kept : new.refused ≡ result_err r;
    }

-- the numbers that the calls gave, with the place and the refusal of the reader after them
abbrev read_by : ℕ → ℕ → ℕ → ℕ → Reader → Numbers
read_by v s t n reader = record { read = record { variables = v; states = s; start = t; transitions = n; at = reader.at }; refused = why_of reader.refused }

module _ (job : Bor (List ℕ)) where
  -- the numbers given are those that are read, and a refused reader stands at the place of its refusal
  abbrev Read : ℕ → ℕ → ℕ → ℕ → Reader → Type 0
  Read v s t n reader = (read_by v s t n reader ≡ preamble_numbers (job_buffer job.now) 0) × ((e : Refused) → reader.refused ≡ Some e → reader.at ≡ e.place)

  -- `Told` goes on from call to call
  next_told : {x : Parsed ℕ} {r₀ : Result ℕ Refused} (low limit : ℕ) (old : Reader) (r : Result ℕ Refused) (new : Reader) → old.src ≡ job → Told x r₀ old
      → NextSaid old low limit r new → Told (onward x (λ n. ranged (job_buffer job.now) low limit)) r new
  next_told {x} {r₀} low limit old r new same t e = told_next (job_buffer job.now) low limit t (rw same at e.number) e.refused e.kept

  told : (a₀ a₁ a₂ a₃ a₄ a₅ : Reader) (r₁ r₂ r₃ r₄ r₅ : Result ℕ Refused) {v s t n : ℕ} → (a₀.src ≡ job) × (a₀.at ≡ 0) × (a₀.refused ≡ None)
      → NextSaid a₀ 1 3 r₁ a₁ → NextSaid a₁ 1 9 r₂ a₂ → v ≡ result_unwrap_or r₂ 0 → NextSaid a₂ 1 65 r₃ a₃ → s ≡ result_unwrap_or r₃ 0
      → NextSaid a₃ 0 s r₄ a₄ → t ≡ result_unwrap_or r₄ 0 → NextSaid a₄ 0 257 r₅ a₅ → n ≡ result_unwrap_or r₅ 0
      → Read v s t n a₅
  unfolding preamble_numbers
  told a₀ a₁ a₂ a₃ a₄ a₅ r₁ r₂ r₃ r₄ r₅ {v} {s} {t} {n} (s₀, at_first, none) e₁ e₂ v_is e₃ s_is e₄ t_is e₅ n_is =
      let p = ranged (job_buffer job.now) in
      let s₁ : a₁.src ≡ job = e₁.job ∙ s₀ in
      let s₂ : a₂.src ≡ job = e₂.job ∙ s₁ in
      let s₃ : a₃.src ≡ job = e₃.job ∙ s₂ in
      let s₄ : a₄.src ≡ job = e₄.job ∙ s₃ in
      let t₀ : Told (parsed 0 0) (Ok 0) a₀ = record { answer = ap (parsed 0) at_first; place = at_first; kept = none } in
      let t₁ = next_told 1 3 a₀ r₁ a₁ s₀ t₀ e₁ in
      let t₂ = next_told 1 9 a₁ r₂ a₂ s₁ t₁ e₂ in
      let t₃ = next_told 1 65 a₂ r₃ a₃ s₂ t₂ e₃ in
      let states : Parsed ℕ = onward (onward (p 1 3 0) (λ m. p 1 9)) (λ m. p 1 65) in
      let states_is = s_is ∙ number_is t₃ in
      let start_is : onward states (λ m. p 0 s) ≡ onward states (p 0) = ap (λ k. onward states (λ m. p 0 k)) states_is ∙ limited states (p 0) in
      let t₄ : Told (onward states (p 0)) r₄ a₄ = rw start_is at (next_told 0 s a₃ r₄ a₄ s₃ t₃ e₄) in
      let t₅ = next_told 0 257 a₄ r₅ a₅ s₄ t₄ e₅ in
      (rw (v_is ∙ number_is t₂, states_is, t_is ∙ number_is t₄, n_is ∙ number_is t₅, t₅.place, reason_is t₅) refl, λ e is. refused_at r₅ t₅ is)

-- where none is refused, and where one is
all_read : (c : goal.In-None) → Read c.args.job c.unwrap_or-variables.result c.unwrap_or-states.result c.unwrap_or-start.result c.unwrap_or-transitions.result c.next-4.new.self
all_read c =
    told c.args.job c.new-reader.result c.next-version.new.self c.next.new.self c.next-2.new.self c.next-3.new.self c.next-4.new.self
    c.next-version.result c.next.result c.next-2.result c.next-3.result c.next-4.result
    c.new-reader.ensures c.next-version.ensures c.next.ensures c.unwrap_or-variables.ensures c.next-2.ensures
    c.unwrap_or-states.ensures c.next-3.ensures c.unwrap_or-start.ensures c.next-4.ensures c.unwrap_or-transitions.ensures

read_up_to : (c : goal.In-Some) → Read c.args.job c.unwrap_or-variables.result c.unwrap_or-states.result c.unwrap_or-start.result c.unwrap_or-transitions.result c.next-4.new.self
read_up_to c =
    told c.args.job c.new-reader.result c.next-version.new.self c.next.new.self c.next-2.new.self c.next-3.new.self c.next-4.new.self
    c.next-version.result c.next.result c.next-2.result c.next-3.result c.next-4.result
    c.new-reader.ensures c.next-version.ensures c.next.ensures c.unwrap_or-variables.ensures c.next-2.ensures
    c.unwrap_or-states.ensures c.next-3.ensures c.unwrap_or-start.ensures c.next-4.ensures c.unwrap_or-transitions.ensures

pub returns-in-None-clause-numbers : goal.returns-in-None-clause-numbers
returns-in-None-clause-numbers c = rw c.in-None.is at (all_read c).0

pub returns-in-None-clause-answer : goal.returns-in-None-clause-answer
returns-in-None-clause-answer c = ap parsed_preamble (returns-in-None-clause-numbers c) ∙ preamble_parsed (job_buffer c.args.job.now) 0

pub returns-in-Some-clause-numbers : goal.returns-in-Some-clause-numbers
returns-in-Some-clause-numbers c = rw c.in-Some.is at (read_up_to c).0

pub returns-in-Some-clause-answer : goal.returns-in-Some-clause-answer
returns-in-Some-clause-answer c =
    rw (← (read_up_to c).1 _ c.in-Some.is) (ap parsed_preamble (returns-in-Some-clause-numbers c) ∙ preamble_parsed (job_buffer c.args.job.now) 0)
