-- The joining call, for every four byte lists and every state. Document 02, Wish 11: "The checks on the two pairs come first, in order, a refusal
-- naming its pair, then 24 for a state outside the first job, 25 for different numbers of variables, 26 for a transition from there, 27 for an
-- owed shape not listed; else both sets of counts come back."
use Rattle.std.specs.Prelude.{Bool, ◌&&◌, ◌||◌, not, cond, List, ℕ, eqb, ltb}
use Rattle.std.proofs.Math.Option.{Option, none, some}
use Rattle.lists.specs.List.{all_of, any_of, pairwise}
use Rattle.facts.specs.Facts.{Fact}
use Rattle.shape.specs.Shape.{Shape}
use Rattle.run.specs.Run.{Located}
use Rattle.format.specs.Certificate.{without_places, read_members}
use Rattle.format.specs.Job.{read_whole_job}
use Rattle.format.specs.JobNumbers.{JobFile}
use Rattle.format.specs.Parser.{Reason, Parsed, parsed, fault, onward, job_buffer, certificate_buffer}
use Rattle.format.specs.Verdict.{start_of, no_state, Counts, Verdict, accepted, refused, verdict_at}
use Rattle.joining.specs.Joined.{Joint}

-- what is told
pub data Joining : Type 0 where
  -- "both sets of counts"
  both : Counts → Counts → Joining
  -- the pair, 1 or 2, and what its check tells
  pair_refused : ℕ → Reason → ℕ → Joining
  -- 24 to 27
  joint_refused : ℕ → Joining

-- two files as one program
abbrev pub joint_of : JobFile → JobFile → ℕ → Joint
joint_of f g state = record { first = f.job; states = f.states; handover = state; second = g.job }

-- ---- tests

abbrev pub same_numbers : List ℕ → List ℕ → Bool
same_numbers = pairwise eqb

abbrev pub same_facts : List Fact → List Fact → Bool
same_facts = pairwise (λ t u. eqb t.kind u.kind && (eqb t.left u.left && eqb t.right u.right))

-- "equal number for number (version 1 as with fact count 0)": a shape of version 1 has no facts
abbrev pub same_shape : Shape → Shape → Bool
same_shape s t = same_numbers s.vars t.vars && (same_numbers s.links t.links && same_facts s.facts t.facts)

module _ (p : Joint) where
  -- no transition of the first is from the hand-over
  abbrev pub ends : Bool
  ends = all_of (λ t. not (eqb t.from p.handover)) p.first.transitions

  -- the shape is "listed [..] as forbidden by the first at the hand-over"
  abbrev pub listed_by_first : Located → Bool
  listed_by_first m = any_of (λ bad. eqb bad.state p.handover && same_shape bad.shape m.shape) p.first.forbidden

  -- "its members at its start are owed: each must be listed"
  abbrev pub owed_listed : List Located → Bool
  owed_listed members = all_of (λ m. not (eqb m.state p.second.start) || listed_by_first m) members

  -- which of 24 to 27 falls first, for the members of the second
  unfoldable pub joint_refusal : List Located → Option ℕ
  joint_refusal members =
      let by_members : Option ℕ = cond (owed_listed members) none (some 27) in
      let by_transitions : Option ℕ = cond ends by_members (some 26) in
      let by_variables : Option ℕ = cond (eqb p.first.variables p.second.variables) by_transitions (some 25) in
      cond (ltb p.handover p.states) by_variables (some 24)

-- ---- the call

-- which of 24 to 27 falls, for the bytes of two jobs and of the second's certificate
unfoldable pub read_joint : List ℕ → List ℕ → List ℕ → ℕ → Parsed (Option ℕ)
read_joint job₁ job₂ cert₂ state =
    onward (read_whole_job (job_buffer job₁) 0)
    (λ f _. onward (read_whole_job (job_buffer job₂) 0)
    (λ g _. onward (read_members (certificate_buffer cert₂) g.version g.job.variables g.states 0)
    (λ members. parsed (joint_refusal (joint_of f g state) (without_places members)))))

-- Once both pairs are accepted. (They are read then, so the last line is never met.)
abbrev pub after_pairs : Counts → Counts → Parsed (Option ℕ) → Joining
after_pairs a b (parsed none next) = both a b
after_pairs a b (parsed (some n) next) = joint_refused n
after_pairs a b (fault why place) = pair_refused 2 why place

abbrev pub after_second : Counts → Verdict → Parsed (Option ℕ) → Joining
after_second a (accepted b) r = after_pairs a b r
after_second a (refused why place) r = pair_refused 2 why place

abbrev pub after_first : Verdict → Verdict → Parsed (Option ℕ) → Joining
after_first (accepted a) v r = after_second a v r
after_first (refused why place) v r = pair_refused 1 why place

-- the first pair is judged as it is alone; "The second is checked without 8"
unfoldable pub join : List ℕ → List ℕ → List ℕ → List ℕ → ℕ → Joining
join job₁ cert₁ job₂ cert₂ state = after_first (verdict_at start_of job₁ cert₁) (verdict_at no_state job₂ cert₂) (read_joint job₁ job₂ cert₂ state)
