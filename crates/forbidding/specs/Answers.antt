-- The sets that are asked for and the answers, in the terms of the definitions.
use Rattle.std.specs.Prelude.{cond, List, [], ◌∷◌, ◌++◌, ℕ, ◌+◌, ◌*◌, ◌≤◌, ◌<◌, eqb, length, set, replicate}
use Rattle.std.specs.Prelude.{Result, Ok, Err}
use Rattle.lists.specs.List.{concat_map}
use Rattle.heap.specs.Place.{nowhere}
use Rattle.shape.specs.Shape.{Shape}
use Rattle.number.specs.CallResult.{CallResult}
use Rattle.format.specs.Parser.{reason_number}
use Rattle.number.specs.Number.{bytes_of}
use Rattle.format.specs.JobNumbers.{located_numbers}
use Rattle.forbidden.specs.Written.{ReadySet, not_list, lost_block, bad_steps, shapes_of}
use Rattle.layout.specs.Entries.{version_of}
use Rattle.reader.specs.Transitions.{transitions_in}
use Rattle.reader.specs.declared.Header.{Header}
use Rattle.verdict.specs.Verdict.{reason_of}
use Rattle.forbidding.specs.declared.Asked.{Asked}
use Rattle.forbidding.specs.declared.Asked.TheVariants.{NotList, LostBlock, BadSteps}
use Rattle.forbidding.specs.declared.put.Point.{Point}
use Rattle.forbidding.specs.declared.RewriteRefusal.{RewriteRefusal}
use Rattle.forbidding.specs.declared.RewriteRefusal.TheVariants.{Job, Outside, TooMany, TooShort}

-- the set of the definitions that is asked for
abbrev pub set_of : Asked → ReadySet
set_of (NotList x q) = not_list x q
set_of (LostBlock x q) = lost_block x q
set_of BadSteps = bad_steps

-- Document 02's number of each answer, with the value told: "16 for a variable or state outside it, 31 for more than 64 forbidden shapes in
-- all, 12 for short room"; "new numbers [..] stand at place 0".
abbrev pub answer_result : Result ℕ RewriteRefusal → CallResult
answer_result (Ok k) = record { code = 0; values = k ∷ [] }
answer_result (Err (Job r)) = record { code = reason_number (reason_of r.refusal); values = r.place ∷ [] }
answer_result (Err Outside) = record { code = 16; values = 0 ∷ [] }
answer_result (Err TooMany) = record { code = 31; values = 0 ∷ [] }
answer_result (Err (TooShort k)) = record { code = 12; values = k ∷ [] }

-- a variable and a state of a job
pub record PointIn (p : Point) : Type 0 where
  pub most : p.variables ≤ 8
  pub some : 1 ≤ p.variable
  pub variable : p.variable ≤ p.variables
  pub state : p.state < 64

-- a shape with so many loose cells beside it: they have no link, and are the last
abbrev pub with_loose : ℕ → Shape → Shape
with_loose loose s = record { vars = s.vars; links = s.links ++ replicate loose nowhere; facts = s.facts }

-- how many cells the shapes of a set have together; those of the third have none
abbrev pub cells_of : ReadySet → ℕ
cells_of (not_list x q) = 4
cells_of (lost_block x q) = 11
cells_of bad_steps = 0

-- how many bytes the number of facts of a shape has: one in version 2, else none
abbrev pub count_bytes : ℕ → ℕ
count_bytes version = cond (eqb version 2) 1 0

-- the bytes of the set's shapes
abbrev pub set_bytes : List ℕ → Header → ReadySet → List ℕ
set_bytes job h set = concat_map (located_numbers (version_of job)) (shapes_of set h.variables (transitions_in job h))

-- The place of the number of forbidden shapes after t transitions: version, V, S and the start are a byte each, T is one or two, and each
-- transition five.
abbrev pub count_place : ℕ → ℕ
count_place t = 4 + length (bytes_of t) + 5 * t

-- the bytes of a job with another number of forbidden shapes in its place
abbrev pub with_count : List ℕ → Header → ℕ → List ℕ
with_count job h count = set job (count_place h.transitions) count
