-- The bytes of a job, and demand 3 of them.
use Rattle.std.specs.Prelude.{cond, List, [], ◌∷◌, ◌≢◌, ◌⊎◌, ◌≡◌, ℕ, ◌≤◌, ◌<◌, eqb, length}
use Rattle.std.proofs.Math.Option.{some}
use Rattle.lists.specs.List.{Every}
use Rattle.number.specs.NumberList.{numbers, decode}
use Rattle.heap.specs.Operation.{operation}
use Rattle.facts.specs.Facts.{Fact}
use Rattle.shape.specs.Shape.{InRange}
use Rattle.run.specs.Run.{Transition, Located, Safe}
use Rattle.format.specs.JobNumbers.{JobFile, job_numbers}

abbrev pub Between : ℕ → ℕ → ℕ → Type 0
Between low high n = (low ≤ n) × (n ≤ high)

-- the fact u comes after t, by kind, first cell and second
abbrev pub Rises : Fact → Fact → Type 0
Rises t u = (t.kind < u.kind) ⊎ ((t.kind ≡ u.kind) × ((t.left < u.left) ⊎ ((t.left ≡ u.left) × (t.right < u.right))))

-- "strictly rising", after the fact t
abbrev pub RisingAfter : Fact → List Fact → Type 0
RisingAfter t [] = Unit {0}
RisingAfter t (u ∷ us) = Rises t u × RisingAfter u us

abbrev pub Rising : List Fact → Type 0
Rising [] = Unit {0}
Rising (t ∷ ts) = RisingAfter t ts

-- the facts of a shape of this version: "a count 0 to 288, then each fact .. strictly rising"; none in version 1
pub record FactsInRange (version : ℕ) (l : List Fact) : Type 0 where
  pub number : length l ≤ 288
  pub rising : Rising l
  pub none : version ≢ 2 → l ≡ []

-- "(state, shape)": a state below S and a shape of up to 12 cells with V variables
pub record LocatedInRange (version variables states : ℕ) (m : Located) : Type 0 where
  pub state : m.state < states
  pub shape : InRange variables 12 m.shape
  pub facts : FactsInRange version m.shape.facts

-- "Version 1 keeps kinds 1 to 7."
abbrev pub last_kind : ℕ → ℕ
last_kind version = cond (eqb version 2) 13 7

-- "(from, kind, a, b, to)"
pub record TransitionInRange (version variables states : ℕ) (t : Transition) : Type 0 where
  pub from : t.from < states
  pub op : (kind : ℕ) × (a : ℕ) × (b : ℕ) × ((kind ≤ last_kind version) × (operation variables kind a b ≡ some t.op))
  pub to : t.to < states

-- "V 1..8; states S 1..64; start below S; T 0..256; T transitions [..]; B 1..64; B pairs of state and shape"
pub record JobInRange (f : JobFile) : Type 0 where
  pub version : Between 1 2 f.version
  pub variables : Between 1 8 f.job.variables
  pub states : Between 1 64 f.states
  pub start : f.job.start < f.states
  pub transitions_number : length f.job.transitions ≤ 256
  pub transitions : Every (TransitionInRange f.version f.job.variables f.states) f.job.transitions
  pub forbidden_number : Between 1 64 (length f.job.forbidden)
  pub forbidden : Every (LocatedInRange f.version f.job.variables f.states) f.job.forbidden

-- the bytes are those of the job f, number after number to the end
pub record IsJob (bytes : List ℕ) (f : JobFile) : Type 0 where
  pub in_range : JobInRange f
  pub reads : decode bytes ≡ numbers (job_numbers f)

-- demand 3 of the bytes of a job: they are those of a job, and it is safe
pub record SafeBytes (bytes : List ℕ) : Type 0 where
  pub file : JobFile
  pub job_is : IsJob bytes file
  pub safe : Safe file.job
