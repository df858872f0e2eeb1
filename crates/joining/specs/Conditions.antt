-- What each answer of the joining call says, without parsers and tests, and the claim over bytes.
use Rattle.std.specs.Prelude.{List, ◌≢◌, ◌≡◌, ℕ, ◌<◌}
use Rattle.run.specs.Run.{Safe}
use Rattle.format.specs.Conditions.{Conditions, ConditionsAt}
use Rattle.format.specs.JobBytes.{IsJob}
use Rattle.format.specs.JobNumbers.{JobFile}
use Rattle.format.specs.Meaning.{Meaning, MeaningAt}
use Rattle.format.specs.Parser.{Reason}
use Rattle.format.specs.Verdict.{no_state, Counts}
use Rattle.joining.specs.Joined.{Joint, joined}
use Rattle.joining.specs.Joins.{Ends, OwedListed, Joins}
use Rattle.joining.specs.Join.{Joining, both, pair_refused, joint_refused, joint_of}

module _ (job₁ cert₁ job₂ cert₂ : List ℕ) (state : ℕ) where
  -- both pairs are to be accepted, the second without 8
  pub record Pairs (counts₁ counts₂ : Counts) : Type 0 where
    pub first : Conditions job₁ cert₁ counts₁
    pub second : ConditionsAt no_state job₂ cert₂ counts₂

  -- the two jobs as one program
  abbrev pub joint_in : {a b : Counts} → Pairs a b → Joint
  joint_in p = joint_of p.first.file p.second.file state

  -- what each answer says
  pub data JoinMeans : Joining → Type 0 where
    accepted : (a b : Counts) (p : Pairs a b) → Joins (joint_in p) p.second.members → JoinMeans (both a b)
    first_refused : (why : Reason) (place : ℕ) → Meaning job₁ cert₁ why place → JoinMeans (pair_refused 1 why place)
    second_refused : (a : Counts) → Conditions job₁ cert₁ a → (why : Reason) (place : ℕ) → MeaningAt no_state job₂ cert₂ why place → JoinMeans (pair_refused 2 why place)
    -- "24 for a state outside the first job"
    outside : (a b : Counts) (p : Pairs a b) → ¬ (state < p.first.file.states) → JoinMeans (joint_refused 24)
    -- "25 for different numbers of variables"
    variables_differ : (a b : Counts) (p : Pairs a b) → state < p.first.file.states → p.first.file.job.variables ≢ p.second.file.job.variables
        → JoinMeans (joint_refused 25)
    -- "26 for a transition from there"
    goes_on : (a b : Counts) (p : Pairs a b) → state < p.first.file.states → p.first.file.job.variables ≡ p.second.file.job.variables
        → ¬ Ends (joint_in p) → JoinMeans (joint_refused 26)
    -- "27 for an owed shape not listed"
    not_listed : (a b : Counts) (p : Pairs a b) → state < p.first.file.states → p.first.file.job.variables ≡ p.second.file.job.variables
        → Ends (joint_in p) → ¬ OwedListed (joint_in p) p.second.members → JoinMeans (joint_refused 27)

-- the claim of two jobs' bytes: they are those of two jobs, and no run of the joined program meets what it may not
pub record SafeJoined (job₁ job₂ : List ℕ) (state : ℕ) : Type 0 where
  pub first : JobFile
  pub first_is : IsJob job₁ first
  pub second : JobFile
  pub second_is : IsJob job₂ second
  pub safe : Safe (joined (joint_of first second state))
