-- Jobs, and what jobs and certificates have in common: a state with a shape.
use Rattle.std.specs.Prelude.{Bool, true, ◌&&◌, ◌||◌, cond, List, [], ◌∷◌, ℕ, zero, suc, eqb, ltb, leb}
use Rattle.std.proofs.Math.Option.{Option, none, some}
use Rattle.heap.specs.Operation.{Kind, kind_of, allows_a, allows_b}
use Rattle.heap.specs.Place.{cell}
use Rattle.facts.specs.Facts.{Fact}
use Rattle.shape.specs.Shape.{Shape}
use Rattle.run.specs.Run.{Transition, Located, Job}
use Rattle.format.specs.JobBytes.{last_kind}
use Rattle.format.specs.JobNumbers.{JobFile}
use Rattle.format.specs.Parser.{Parser, ◌>>=◌, ◌>>◌, return, many, Buffer, such, read_as, ranged, end}

-- the fact u comes after the one before it, if there is one: "strictly rising"
abbrev pub rises : Fact → Fact → Bool
rises t u = ltb t.kind u.kind || (eqb t.kind u.kind && (ltb t.left u.left || (eqb t.left u.left && ltb t.right u.right)))

abbrev pub rises_after : Option Fact → Fact → Bool
rises_after none u = true
rises_after (some t) u = rises t u

-- the fact of this kind about cells i and j
abbrev pub fact_of : ℕ → ℕ → ℕ → Fact
fact_of kind i j = record { kind = kind; left = cell i; right = cell j }

-- "each fact as 0 (below) or 1 (equal), i, j, strictly rising (else 4 or 7 at its j)", about n cells
module _ (s : Buffer) (n : ℕ) where
  unfoldable pub read_fact : Option Fact → Parser Fact
  read_fact last = do
    kind ← ranged s 0 2
    i ← ranged s 0 n
    j ← read_as s (such (λ j. ltb j n && rises_after last (fact_of kind i j)))
    return (fact_of kind i j)

  -- so many, after the last
  unfoldable pub facts_after : ℕ → Option Fact → Parser (List Fact)
  facts_after zero last = return []
  facts_after (suc left) last = do
    t ← read_fact last
    ts ← facts_after left (some t)
    return (t ∷ ts)

  -- version 2 has, "after the links a count 0 to 288, then each fact"; version 1 has none
  unfoldable pub read_facts : ℕ → Parser (List Fact)
  read_facts version =
      let counted : Parser (List Fact) = ranged s 0 289 >>= (λ count. facts_after count none) in
      cond (eqb version 2) counted (return [])

-- the row of a kind, which this version has: "Version 1 keeps kinds 1 to 7."
abbrev pub kind_in : ℕ → ℕ → Option Kind
kind_in version kind = cond (leb kind (last_kind version)) (kind_of kind) none

module _ (version : ℕ) (s : Buffer) (variables : ℕ) where
  -- "Shape: n; V places; n links; codes 0 to 2 + n." "A shape has n cells, 0 to 12".
  unfoldable pub read_shape : Parser Shape
  read_shape = do
    n ← ranged s 0 13
    vars ← many variables (ranged s 0 (cell n))
    links ← many n (ranged s 0 (cell n))
    facts ← read_facts s n version
    return (record { vars = vars; links = links; facts = facts })

  module _ (states : ℕ) where
    -- "pairs of state and shape", "members (state, shape)"
    unfoldable pub read_located : Parser Located
    read_located = do
      state ← ranged s 0 states
      shape ← read_shape
      return (record { state = state; shape = shape })

    -- "transitions (from, kind, a, b, to)"
    unfoldable pub read_transition : Parser Transition
    read_transition = do
      from ← ranged s 0 states
      kind ← read_as s (kind_in version)
      a ← read_as s (such (allows_a variables kind))
      b ← read_as s (such (allows_b variables kind))
      to ← ranged s 0 states
      return (record { from = from; op = kind.op a b; to = to })

-- "Job: version 1; V 1..8; states S 1..64; start below S; T 0..256; T transitions (from, kind, a, b, to); B 1..64; B pairs of state and
-- shape."
unfoldable pub read_job : Buffer → Parser JobFile
read_job s = do
  version ← ranged s 1 3
  variables ← ranged s 1 9
  states ← ranged s 1 65
  start ← ranged s 0 states
  count ← ranged s 0 257
  transitions ← many count (read_transition version s variables states)
  bads ← ranged s 1 65
  forbidden ← many bads (read_located version s variables states)
  let job : Job = record { variables = variables; start = start; transitions = transitions; forbidden = forbidden }
  return (record { version = version; states = states; job = job })

-- the job, and nothing after it
unfoldable pub read_whole_job : Buffer → Parser JobFile
read_whole_job s = do
  f ← read_job s
  end s
  return f
