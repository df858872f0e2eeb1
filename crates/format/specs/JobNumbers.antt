-- A job as a list of numbers. Document 01, "Bytes": "Job: version 1; V 1..8; states S 1..64; start below S; T 0..256; T transitions (from,
-- kind, a, b, to); B 1..64; B pairs of state and shape. Shape: n; V places; n links; codes 0 to 2 + n." Document 02, Wish 6: "This is version 2 of
-- job and certificate: after the links a count 0 to 288, then each fact as 0 (below) or 1 (equal), i, j".
use Rattle.std.specs.Prelude.{List, [], ◌∷◌, ◌++◌, cond, ℕ, ◌-◌, eqb, length}
use Rattle.lists.specs.List.{concat_map}
use Rattle.heap.specs.Operation.{Op, numbers_of}
use Rattle.facts.specs.Facts.{Fact}
use Rattle.shape.specs.Shape.{Shape, size}
use Rattle.run.specs.Run.{Transition, Located, Job}

-- a job with its version and the number of its states, S of document 01
pub record JobFile : Type 0 where
  pub version : ℕ
  pub states : ℕ
  pub job : Job

-- the job as one of another version
abbrev pub in_version : ℕ → JobFile → JobFile
in_version v f = record { version = v; states = f.states; job = f.job }

abbrev pub op_numbers : Op → List ℕ
op_numbers o = let (kind, a, b) = numbers_of o in kind ∷ a ∷ b ∷ []

abbrev pub transition_numbers : Transition → List ℕ
transition_numbers t = t.from ∷ op_numbers t.op ++ (t.to ∷ [])

-- the cells of a fact by their numbers, from 0
abbrev pub fact_numbers : Fact → List ℕ
fact_numbers t = t.kind ∷ (t.left - 3) ∷ (t.right - 3) ∷ []

abbrev pub facts_numbers : ℕ → List Fact → List ℕ
facts_numbers version facts = cond (eqb version 2) (length facts ∷ concat_map fact_numbers facts) []

abbrev pub shape_numbers : ℕ → Shape → List ℕ
shape_numbers version s = size s ∷ s.vars ++ (s.links ++ facts_numbers version s.facts)

abbrev pub located_numbers : ℕ → Located → List ℕ
located_numbers version m = m.state ∷ shape_numbers version m.shape

-- the numbers of a job up to its forbidden shapes
abbrev pub job_opening : JobFile → List ℕ
job_opening f =
    let j = f.job in
    f.version ∷ j.variables ∷ f.states ∷ j.start ∷ length j.transitions ∷ concat_map transition_numbers j.transitions ++ (length j.forbidden ∷ [])

-- and all of them
abbrev pub job_numbers : JobFile → List ℕ
job_numbers f =
    let j = f.job in
    f.version ∷ j.variables ∷ f.states ∷ j.start ∷ length j.transitions ∷ concat_map transition_numbers j.transitions
    ++ (length j.forbidden ∷ concat_map (located_numbers f.version) j.forbidden)
